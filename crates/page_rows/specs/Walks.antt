-- What a walk over rows comes to, for what takes them.
use Rattle.std.specs.Prelude.{◌≡◌, ◌⊎◌, List, [], ◌∷◌, ◌++◌, Result, MatchResult}
use Rattle.sqlite_value.specs.Order.{Row}
use Rattle.sqlite_pages.specs.declared.error.Error.{Error}
use Rattle.page_rows.specs.declared.errors.WalkError.{WalkError}
use Rattle.page_rows.specs.declared.errors.WalkError.TheVariants.{Pages, Refused}

-- all rows were taken, and more are wanted; or those in front, and no more are wanted
abbrev pub HasWalked : {A S : Type 0} → (A → List Row → S → Type 0) → (A → List Row → S → Type 0) → A → List Row → S → Type 0
HasWalked Has Ends start rows sink = Has start rows sink ⊎ ((front rest : List Row) × (rows ≡ front ++ rest) × Ends start front sink)

-- the rows before these were taken
abbrev pub IsBehind : {A S : Type 0} → (A → List Row → S → Type 0) → A → List Row → S → List Row → Type 0
IsBehind Has start rest sink all = (before : List Row) × (all ≡ before ++ rest) × Has start before sink

-- one of the rows may be refused for this
abbrev pub MayRefuse : {E : Type 0} → (Row → E → Type 0) → List Row → E → Type 0
MayRefuse Refuses [] e = ⊥
MayRefuse Refuses (row ∷ rows) e = Refuses row e ⊎ MayRefuse Refuses rows e

-- why a walk may fail: as a read of the pages may, or by a row that may be refused
abbrev pub FailsToWalk : {E : Type 0} → (Error → Type 0) → (E → Type 0) → WalkError E → Type 0
FailsToWalk Fails Refuses (Pages e) = Fails e
FailsToWalk Fails Refuses (Refused e) = Refuses e

-- the rows were walked, or the walk failed for a cause
abbrev pub Walks : {A S E : Type 0} → (Error → Type 0) → (A → List Row → S → Type 0) → (A → List Row → S → Type 0) → (Row → E → Type 0) → A → S → List Row
    → Result (Unit {0}) (WalkError E) → Type 0
Walks Fails Has Ends Refuses start new rows result =
    MatchResult result (λ _. HasWalked Has Ends start rows new) (FailsToWalk Fails (MayRefuse Refuses rows))
