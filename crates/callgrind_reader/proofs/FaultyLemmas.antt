-- Fields read one by one.
use Rattle.std.proofs.Common.{suc, ◌≡◌, ℕ, List, ◌∷◌, take, Result, Ok, Err, Some, refl}
use Rattle.cg_text.specs.Subpositions.{subpos_of}
use Rattle.cg_text.specs.declared.faults.Fault.{Fault}
use Rattle.cg_text.specs.declared.positions.SubPos.{SubPos}
use Rattle.callgrind_reader.specs.Faulty.{◌>>=◌, each, err_of}

err_of-then : {A B : Type 0} (r : Result A Fault) (f : A → B) → err_of (r >>= λ x. Ok (f x)) ≡ err_of r
err_of-then (Ok x) f = refl
err_of-then (Err fault) f = refl

-- a field that can be read leaves the fault to the others
pub err_of-each-Ok : (n : ℕ) (field : List ℕ) (fields : List (List ℕ)) (p : SubPos) → subpos_of field ≡ Ok p → err_of (each subpos_of (take (suc n) (field ∷ fields))) ≡ err_of (each subpos_of (take n fields))
err_of-each-Ok n field fields p e = rw e (err_of-then (each subpos_of (take n fields)) (λ xs. p ∷ xs))

-- one that can't is the first
pub err_of-each-Err : (n : ℕ) (field : List ℕ) (fields : List (List ℕ)) (fault : Fault) → subpos_of field ≡ Err fault → err_of (each subpos_of (take (suc n) (field ∷ fields))) ≡ Some fault
err_of-each-Err n field fields fault e = rw e refl
