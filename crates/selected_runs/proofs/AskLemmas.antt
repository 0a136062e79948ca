-- A question that takes two calls.
use Rattle.std.specs.Result.{is_ok}
use Rattle.std.proofs.Common.{◌≡◌, true, false, ◌&&◌, Result, IfOk}
use Rattle.run_stores.specs.declared.states.StoreState.{Ghosts}
use Rattle.run_stores.specs.Calls.{Asked, IsFaithful, ReadsAs}
use Rattle.run_stores.proofs.Calls.{asked_of_open, asked_reads}
use Rattle.plain_tables.specs.Tables.{Tables}
use Rattle.plain_tables.specs.declared.errors.StoreError.{StoreError}
use Rattle.histories.specs.declared.answers.Answer.{Answer}
use Rattle.requests.specs.Plain.{Query}
use Rattle.histories.specs.Answered.{WasAsked, has_changed}
use Rattle.histories.proofs.Questions.{IsTold, asked_once}

-- the first finds what the second is over: the store is read as the same lines between them too
pub asked_twice : {S : Type 0} (g : Ghosts S) (Shows : Tables → Answer → Type 0) (query : Query) → IsTold Shows query → (result : Result Answer StoreError) (old new mid : S)
    → has_changed result ≡ false → (IsFaithful g mid → Asked g true old mid) → Asked g (is_ok result && g.is_usable mid) mid new
    → ((t : Tables) → ReadsAs g t old → IsFaithful g mid → ReadsAs g t mid → IfOk result (Shows t)) → WasAsked g Shows query result old new
asked_twice g Shows query law result old new mid still one two told =
    let early = two.stays.was_faithful in
    let asks = one early in
    asked_once g Shows query law result old new still (asked_of_open g (is_ok result) old mid new asks two)
    (λ t represents. told t represents early (asked_reads g t old mid asks represents))
