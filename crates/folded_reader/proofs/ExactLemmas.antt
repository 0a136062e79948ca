-- Looking back shows the first fault of a file and the stacks before it.
use Rattle.std.proofs.Common.{◌≡◌, ℕ, ◌+◌, List, [], ◌∷◌, ◌++◌, Ok, Err, Option, Some, None, refl, sym, ◌∙◌, ap, arith}
use Rattle.std.proofs.lemmas.List.{append-nil, append_assoc}
use Rattle.cg_text.specs.declared.faults.Fault.{Fault}
use Rattle.text_pieces.specs.Backwards.{onto, handed_on}
use Rattle.folded_reader.specs.Lines.{Reading}
use Rattle.profile_records.specs.Stacks.{Seen}
use Rattle.folded_reader.specs.Files.{stacks_from, fault_from}
use Rattle.folded_reader.specs.Looking.{number_after, seen, adds}

-- after these lines, the first fault and the stacks of those ahead, numbered from n on
pub record Exact (back ahead : List Reading) (fault : Option (Fault × ℕ)) (more : List Seen) : Type 0 where
  pub fault_is : seen (onto ahead back) ≡ fault
  pub held_is : handed_on adds (onto ahead back) ≡ handed_on adds back ++ more

-- what a line ahead adds goes in front
one_more : (r : Reading) (back ahead : List Reading) (fault : Option (Fault × ℕ)) (here more : List Seen) → adds r back ≡ here → Exact (r ∷ back) ahead fault more → Exact back (r ∷ ahead) fault (here ++ more)
one_more r back ahead fault here more e x = record {
  fault_is = x.fault_is;
  held_is = x.held_is ∙ append_assoc (handed_on adds back) (adds r back) more ∙ ap (λ xs. handed_on adds back ++ (xs ++ more)) e;
}

-- a fault that was seen stays the first, and nothing is added
stuck : (ahead back : List Reading) (x : Fault × ℕ) → seen back ≡ Some x → Exact back ahead (Some x) []
stuck [] back x h = record { fault_is = h; held_is = sym (append-nil (handed_on adds back)) }
stuck (r ∷ ahead) back x h = one_more r back ahead (Some x) [] [] (rw h refl) (stuck ahead (r ∷ back) x (rw h refl))

next : (n : ℕ) (r : Reading) (back : List Reading) → n ≡ number_after back → n + 1 ≡ number_after (r ∷ back)
next n r back e = omega (arith, e)

exact : (ahead back : List Reading) (n : ℕ) → n ≡ number_after back → seen back ≡ None → Exact back ahead (fault_from n ahead) (stacks_from n ahead)
exact [] back n e none = record { fault_is = none; held_is = sym (append-nil (handed_on adds back)) }
exact (Err fault ∷ ahead) back n e none = one_more (Err fault) back ahead _ [] [] (rw none refl) (stuck ahead (Err fault ∷ back) (fault, n) (rw (none, e) refl))
exact (Ok None ∷ ahead) back n e none = one_more (Ok None) back ahead _ [] _ (rw none refl) (exact ahead (Ok None ∷ back) (n + 1) (next n (Ok None) back e) (rw none refl))
exact (Ok (Some stack) ∷ ahead) back n e none =
    one_more (Ok (Some stack)) back ahead _ (record { at = n; stack = stack } ∷ []) _ (rw (none, e) refl)
    (exact ahead (Ok (Some stack) ∷ back) (n + 1) (next n (Ok (Some stack)) back e) (rw none refl))

-- from the start
pub exact-fault : (rs : List Reading) → fault_from 1 rs ≡ seen (onto rs [])
exact-fault rs = sym (exact rs [] 1 refl refl).fault_is

pub exact-stacks : (rs : List Reading) → stacks_from 1 rs ≡ handed_on adds (onto rs [])
exact-stacks rs = sym (exact rs [] 1 refl refl).held_is
