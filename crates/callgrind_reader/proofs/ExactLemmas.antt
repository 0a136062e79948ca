-- Looking back shows the first fault of a file and the records before it.
use Rattle.std.proofs.Common.{inl, inr, ◌⊎◌, ◌≡◌, ℕ, true, false, List, [], ◌∷◌, ◌++◌, Ok, Err, Option, Some, None, refl, sym, ◌∙◌, ap}
use Rattle.std.proofs.lemmas.Bool.{cases_Bool}
use Rattle.std.proofs.lemmas.List.{append-nil, append_assoc}
use Rattle.cg_text.specs.Readings.{Reading}
use Rattle.cg_text.specs.Kinds.{Nothing, Cost, Calls}
use Rattle.cg_text.specs.declared.faults.Fault.{Fault}
use Rattle.cg_text.specs.declared.faults.Fault.TheVariants.{LineTooLong, CallWithoutCost}
use Rattle.text_pieces.specs.Backwards.{onto}
use Rattle.callgrind_reader.specs.Faulty.{earlier_or}
use Rattle.profile_records.specs.Records.{Record}
use Rattle.callgrind_reader.specs.Calls.{number_after, awaiting}
use Rattle.callgrind_reader.specs.Lines.{fault_at, record_of}
use Rattle.callgrind_reader.specs.Files.{cost_follows, call_fault, numbered_or, first_fault, unless_fault, sound_records, formulas_fault, fault_in}
use Rattle.callgrind_reader.specs.Accept.{breaks, broken, seen, line_fault_after, fault_after, handed_on, adds}
use Rattle.callgrind_reader.proofs.SeenLemmas.{seen-later, seen-broken, seen-own, seen-none}

-- after these lines and those ahead, this is the first fault, and these are the records that the lines ahead add
pub record Exact (back ahead : List Reading) (fault : Option (Fault × ℕ)) (more : List Record) : Type 0 where
  pub fault_is : line_fault_after (onto ahead back) ≡ fault
  pub held_is : handed_on (onto ahead back) ≡ handed_on back ++ more

option_cases : {A : Type 0} (o : Option A) → (o ≡ None) ⊎ ((x : A) × (o ≡ Some x))
option_cases None = inl refl
option_cases (Some x) = inr (x, refl)

-- what a line ahead adds goes in front
one_more : (r : Reading) (back ahead : List Reading) (fault : Option (Fault × ℕ)) (here more : List Record) → adds r back ≡ here → Exact (r ∷ back) ahead fault more → Exact back (r ∷ ahead) fault (here ++ more)
one_more r back ahead fault here more e x = record {
  fault_is = x.fault_is;
  held_is = x.held_is ∙ append_assoc (handed_on back) (adds r back) more ∙ ap (λ xs. handed_on back ++ (xs ++ more)) e;
}

-- once a fault is shown it stays, and nothing is added
stuck : (ahead back : List Reading) (x : Fault × ℕ) → seen back ≡ Some x → Exact back ahead (Some x) []
stuck [] back x h = record { fault_is = rw h refl; held_is = sym (append-nil (handed_on back)) }
stuck (r ∷ ahead) back x h = let later = seen-later r back x h in one_more r back ahead (Some x) [] [] later.1 (stuck ahead (r ∷ back) x later.0)

-- a call whose cost line does not come
waits : (ahead back : List Reading) (call : ℕ × ℕ) → seen back ≡ None → awaiting back ≡ Some call → cost_follows ahead ≡ false → Exact back ahead (Some (CallWithoutCost, call.0)) []
waits [] back call none e h = record { fault_is = rw (none, e) refl; held_is = sym (append-nil (handed_on back)) }
waits (Ok Nothing ∷ ahead) back call none e h =
    let s = seen-none (Ok Nothing) back none (rw e refl) refl in
    one_more (Ok Nothing) back ahead _ [] [] s.1 (waits ahead (Ok Nothing ∷ back) call s.0 e h)
waits (Ok (Cost text) ∷ ahead) back call none e h = cc
waits (Err LineTooLong ∷ ahead) back call none e h = cc
waits (r ∷ ahead) back call none e h =
    let s = seen-broken r back call.0 none (rw e refl) in
    one_more r back ahead _ [] [] s.1 (stuck ahead (r ∷ back) _ s.0)

broken_kept : (o : Option (ℕ × ℕ)) → broken o false ≡ None
broken_kept None = refl
broken_kept (Some call) = refl

-- no call waits, or its cost line comes
abbrev Ready : List Reading → List Reading → Type 0
Ready back ahead = (awaiting back ≡ None) ⊎ (cost_follows ahead ≡ true)

kept : (r : Reading) (ahead : List Reading) (o : Option (ℕ × ℕ)) → cost_follows (r ∷ ahead) ≡ true → broken o (breaks r) ≡ None
kept (Ok Nothing) ahead o h = broken_kept o
kept (Ok (Cost text)) ahead o h = broken_kept o
kept (Err LineTooLong) ahead o h = broken_kept o
kept r ahead o h = cc

whole : (r : Reading) (ahead back : List Reading) → Ready back (r ∷ ahead) → broken (awaiting back) (breaks r) ≡ None
whole r ahead back (inl e) = rw e refl
whole r ahead back (inr h) = kept r ahead (awaiting back) h

-- what is claimed of the lines ahead, after any lines
abbrev Claim : List Reading → Type 0
Claim ahead = (back : List Reading) → seen back ≡ None → Ready back ahead → Exact back ahead (first_fault back ahead) (sound_records back ahead)

-- a line with no fault of its own
clean : (r : Reading) (ahead back : List Reading) → Claim ahead → seen back ≡ None → Ready back (r ∷ ahead) → broken (awaiting back) (breaks r) ≡ None → fault_at r back ≡ None
    → Exact back (r ∷ ahead) (numbered_or (call_fault r ahead) (number_after back) (first_fault (r ∷ back) ahead)) (unless_fault (call_fault r ahead) (record_of r back ++ sound_records (r ∷ back) ahead))
clean (Ok (Calls value)) ahead back claim none ready w own =
    let s = seen-none (Ok (Calls value)) back none w own in
    elim (cases_Bool (cost_follows ahead)) [
      | inl e ↦ rw e (one_more (Ok (Calls value)) back ahead _ [] _ s.1 (claim (Ok (Calls value) ∷ back) s.0 (inr e)))
      | inr e ↦ rw e (one_more (Ok (Calls value)) back ahead _ [] [] s.1 (waits ahead (Ok (Calls value) ∷ back) _ s.0 refl e))
    ]
clean (Ok Nothing) ahead back claim none ready w own =
    let s = seen-none (Ok Nothing) back none w own in
    one_more (Ok Nothing) back ahead _ [] _ s.1 (claim (Ok Nothing ∷ back) s.0 ready)
clean r ahead back claim none ready w own =
    let s = seen-none r back none w own in
    one_more r back ahead _ (record_of r back) _ s.1 (claim (r ∷ back) s.0 (inl refl))

pub exact : (ahead : List Reading) → Claim ahead
exact [] back none (inl e) = record { fault_is = rw (none, e) refl; held_is = sym (append-nil (handed_on back)) }
exact [] back none (inr h) = cc
exact (r ∷ ahead) back none ready =
    let w = whole r ahead back ready in
    elim (option_cases (fault_at r back)) [
      | inl own ↦ rw own (clean r ahead back (exact ahead) none ready w own)
      | inr found ↦
          let s = seen-own r back found.0 none w found.1 in
          rw found.1 (one_more r back ahead _ [] [] s.1 (stuck ahead (r ∷ back) _ s.0))
    ]

-- from the start
pub exact-line_fault : (rs : List Reading) → first_fault [] rs ≡ line_fault_after (onto rs [])
exact-line_fault rs = sym (exact rs [] refl (inl refl)).fault_is

pub exact-fault : (rs : List Reading) → fault_in rs ≡ fault_after (onto rs [])
exact-fault rs = ap (λ found. earlier_or found (formulas_fault (onto rs []))) (exact-line_fault rs)

pub exact-records : (rs : List Reading) → sound_records [] rs ≡ handed_on (onto rs [])
exact-records rs = sym (exact rs [] refl (inl refl)).held_is
