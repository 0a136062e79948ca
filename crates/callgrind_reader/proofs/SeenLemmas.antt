-- What one more line shows and adds.
use Rattle.std.proofs.Common.{◌≡◌, ℕ, List, [], ◌∷◌, Result, Ok, Err, Some, None, refl}
use Rattle.cg_text.specs.Readings.{Reading}
use Rattle.cg_text.specs.Kinds.{Nothing, Cost, Header, Name, Calls, Jump}
use Rattle.cg_text.specs.declared.faults.Fault.{Fault}
use Rattle.cg_text.specs.declared.faults.Fault.TheVariants.{CallWithoutCost}
use Rattle.callgrind_reader.specs.Faulty.{err_of}
use Rattle.callgrind_reader.specs.Calls.{number_after, awaiting}
use Rattle.callgrind_reader.specs.Costs.{row_at}
use Rattle.callgrind_reader.specs.Lines.{fault_at, record_of, row_record}
use Rattle.callgrind_reader.specs.Accept.{seen, adds, broken, breaks}

-- a fault that was shown stays the first
pub seen-later : (r : Reading) (back : List Reading) (x : Fault × ℕ) → seen back ≡ Some x → (seen (r ∷ back) ≡ Some x) × (adds r back ≡ [])
seen-later r back x h = (rw h refl, rw h refl)

-- a line that leaves a call without its cost line
pub seen-broken : (r : Reading) (back : List Reading) (at : ℕ) → seen back ≡ None → broken (awaiting back) (breaks r) ≡ Some at → (seen (r ∷ back) ≡ Some (CallWithoutCost, at)) × (adds r back ≡ [])
seen-broken r back at none h = (rw (none, h) refl, rw (none, h) refl)

no_row : (row : Result (ℕ × List ℕ) Fault) (back : List Reading) (f : Fault) → err_of row ≡ Some f → row_record row back ≡ []
no_row (Ok row) back f h = cc
no_row (Err e) back f h = refl

no_record : (r : Reading) (back : List Reading) (f : Fault) → fault_at r back ≡ Some f → record_of r back ≡ []
no_record (Err e) back f h = refl
no_record (Ok Nothing) back f h = refl
no_record (Ok Jump) back f h = refl
no_record (Ok (Header k v)) back f h = refl
no_record (Ok (Name w v)) back f h = refl
no_record (Ok (Calls v)) back f h = refl
no_record (Ok (Cost t)) back f h = no_row (row_at t back) back f h

-- a line with a fault of its own
pub seen-own : (r : Reading) (back : List Reading) (f : Fault) → seen back ≡ None → broken (awaiting back) (breaks r) ≡ None → fault_at r back ≡ Some f → (seen (r ∷ back) ≡ Some (f, number_after back)) × (adds r back ≡ []) × (record_of r back ≡ [])
seen-own r back f none whole h = (rw (none, whole, h) refl, rw (none, whole, h) refl, no_record r back f h)

-- a line with none
pub seen-none : (r : Reading) (back : List Reading) → seen back ≡ None → broken (awaiting back) (breaks r) ≡ None → fault_at r back ≡ None → (seen (r ∷ back) ≡ None) × (adds r back ≡ record_of r back)
seen-none r back none whole h = (rw (none, whole, h) refl, rw (none, whole, h) refl)

pub ruleset seen_rules = (seen-later, seen-broken, seen-own, seen-none)
