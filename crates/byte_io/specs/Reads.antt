-- The reads of a source, and how far it was read.
use Rattle.std.specs.Prelude.{◌≡◌, ℕ, ◌<◌, ◌≤◌, true, false, List, [], ◌∷◌, ◌++◌, length, Result, MatchResult}
use Rattle.std.specs.List.{list_any}
use Rattle.byte_io.specs.Outcomes as outcome
use Rattle.byte_io.specs.Outcomes.{Outcome, bytes_of, is_failed, is_end}
use Rattle.byte_io.specs.declared.reading.Unread.{Unread}
use Rattle.byte_io.specs.declared.reading.Unread.TheVariants.{Memory, Failed, TooLong}

-- these reads, one after another, lead from one state to another
abbrev pub Reads : {S : Type 0} → (S → Outcome → S → Type 0) → S → List Outcome → S → Type 0
Reads reads from [] to = from ≡ to
Reads reads from (o ∷ outcomes) to = (between : _) × reads from o between × Reads reads between outcomes to

-- no more than the limit, and no failure
pub record AreSound (limit : ℕ) (outcomes : List Outcome) : Type 0 where
  pub within : length (bytes_of outcomes) ≤ limit
  pub unfailed : list_any is_failed outcomes ≡ false

-- and the source has ended
pub record HasEnded (limit : ℕ) (outcomes : List Outcome) : Type 0 where
  pub reads : AreSound limit outcomes
  pub ended : list_any is_end outcomes ≡ true

-- why a source was not read to its end: more than the limit came, or the last read failed; out of memory may come at any moment
abbrev pub IsUnreadFor : ℕ → List Outcome → Unread → Type 0
IsUnreadFor limit outcomes TooLong = limit < length (bytes_of outcomes)
IsUnreadFor limit outcomes Failed = (before : List Outcome) × AreSound limit before × (outcomes ≡ before ++ outcome.Failed ∷ [])
IsUnreadFor limit outcomes Memory = Unit {0}

-- a source was read to its end, and its bytes were made this of; or it was not, for this cause
pub record WasRead {S X : Type 0} (reads : S → Outcome → S → Type 0) (limit : ℕ) (from to : S) (result : Result X Unread) (Made : List ℕ → X → Type 0) : Type 0 where
  pub outcomes : List Outcome
  pub came : Reads reads from outcomes to
  pub read : MatchResult result (λ x. HasEnded limit outcomes × Made (bytes_of outcomes) x) (IsUnreadFor limit outcomes)
