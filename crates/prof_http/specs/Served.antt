-- Requests that were served, one after another.
use mathlib.Core.Logic.{inl, inr}
use Rattle.std.specs.Prelude.{◌≡◌, ℕ, ◌≤◌, List, [], ◌∷◌, ◌++◌, length, Result, Ok, Err}
use Rattle.run_stores.specs.declared.states.StoreState.{Ghosts}
use Rattle.run_stores.specs.Calls.{IsFaithful}
use Rattle.byte_io.specs.Outcomes.{Outcome}
use Rattle.histories.specs.History.{History}
use Rattle.histories.specs.declared.answers.Answer.{Answer}
use Rattle.histories.specs.declared.limits.Limits.{Limits}
use Rattle.http_exchange.specs.declared.failings.Failing.{Failing}
use Rattle.http_exchange.specs.declared.checks.Request.{Request}
use Rattle.prof_http.specs.Exchanges.{IsReplied, WasExchanged}
use Rattle.histories.specs.Requests.{command_read}
use Rattle.prof_http.specs.declared.replies.Exchange.{Exchange}
use Rattle.warehouse.specs.Taken.{WereTaken}

module _ {S : Type 0} (g : Ghosts S) (limits : Limits) where
  -- a request was read and responded to; of a socket nothing is known, so any bytes may have come and gone
  abbrev pub WasExchangedWithAny : Exchange → S → S → Type 0
  WasExchangedWithAny exchange old new = WasExchanged g limits {T = Unit {0}} (λ _ _ _. Unit {0}) (λ _ _ _. Unit {0}) (λ _ _. Unit {0}) exchange tt tt old new

  -- such exchanges one after another, each over the store that the one before left
  abbrev pub WereExchanged : List Exchange → S → S → Type 0
  WereExchanged [] old new = old ≡ new
  WereExchanged (exchange ∷ later) old new = (mid : S) × WasExchangedWithAny exchange old mid × WereExchanged later mid new

  -- ---- the commands that were asked for

  -- the command of a request, with its answer; a request that was turned away has none
  abbrev pub steps_of_reply : (wanted : Result Request Failing) (after : List ℕ) (reads : List Outcome) (reply : Result Answer Failing) (old new : S) → IsReplied g limits wanted after reads reply old new → History
  steps_of_reply wanted after reads (Ok answer) old new done = record { command = command_read done.request.asked done.outcomes; answer = answer } ∷ []
  steps_of_reply wanted after reads (Err failing) old new away = []

  -- what is no request, or did not come whole, has none either
  abbrev pub steps_of_exchange : (exchange : Exchange) (old new : S) → WasExchangedWithAny exchange old new → History
  steps_of_exchange exchange old new (inl served) = steps_of_reply _ served.after served.responded.body_reads served.responded.reply old new served.responded.replied
  steps_of_exchange exchange old new (inr refused) = []

  -- those of all
  abbrev pub steps_of : (exchanges : List Exchange) (old new : S) → WereExchanged exchanges old new → History
  steps_of [] old new same = []
  steps_of (exchange ∷ later) old new were = steps_of_exchange exchange old were.0 were.1 ++ steps_of later were.0 new were.2

-- the commands of these steps are those of so many clients' requests, in order, but for the clients that went away
pub record AreOfRequests {S : Type 0} (g : Ghosts S) (requests : ℕ) (old new : S) (limits : Limits) (steps : History) : Type 0 where
  pub exchanges : List Exchange
  pub few : length exchanges ≤ requests
  pub were : WereExchanged g limits exchanges old new
  pub are : steps ≡ steps_of g limits exchanges old new were

-- such steps were taken
pub record HasServed {S : Type 0} (g : Ghosts S) (limits : Limits) (requests : ℕ) (old new : S) : Type 0 where
  pub steps : History
  pub of_requests : AreOfRequests g requests old new limits steps
  pub taken : WereTaken g limits steps old new

-- the same, where the disk has returned what was written
abbrev pub Serves : {S : Type 0} → Ghosts S → ℕ → Limits → S → S → Type 0
Serves g requests limits old new = IsFaithful g new → HasServed g limits requests old new
