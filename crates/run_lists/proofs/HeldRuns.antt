-- Lines that name runs, in the lists and in the tables.
use Rattle.std.proofs.Common.{◌≡◌, ◌==◌, ◌<◌, ◌+◌, ◌&&◌, ℕ, zero, suc, Bool, true, false, List, [], ◌∷◌, map, length, get_or, Option, Some, None, refl, sym, ap, ap₂, subst, ◌∙◌, arith}
use Rattle.std.specs.List.{AllAdjacentBelow, AllByRecursion, list_all, list_any}
use Rattle.std.specs.List.Sorted.{IsNonDecreasing}
use Rattle.std.proofs.lemmas.Bool.{and_parts}
use Rattle.std.proofs.lemmas.List.Sorted.{IsNonDecreasingBy-from_all_adjacent}
use Rattle.plain_tables.specs.Changes.{has_run}
use Rattle.plain_tables.specs.Lists.{IsAscending}
use Rattle.plain_tables.specs.Sound.{AreOfRuns}
use Rattle.plain_tables.specs.Tables.{Tables, RunRow, EventRow, DerivedRow, CoefRow, GroupRow, MemberRow}
use Rattle.run_lists.specs.HeldRuns.{IsOfRun, NameHeldRuns, is_none_or_one_of, is_one_of, name_some}
use Rattle.run_lists.specs.Listed.{AreListed, coef_row, derived_row, event_row, group_row, member_row, run_row}
use Rattle.run_lists.specs.declared.listed.ListedGroup.{ListedGroup}
use Rattle.run_lists.specs.declared.listed.ListedRun.{ListedRun}
use Rattle.run_lists.specs.declared.listed.RunLists.{RunLists}
use Rattle.run_lists.proofs.Rows.{any_row, map_row}

-- ---- numbers that rise

abbrev pub Rise : List ℕ → Type 0
Rise ns = AllAdjacentBelow (λ (a b : ℕ). a < b) ns (length ns)

later : (n : ℕ) (ns : List ℕ) → Rise (n ∷ ns) → Rise ns
later n ns h k d low =
    let next : suc k + 1 ≡ suc (k + 1) = omega arith in
    subst (λ j. get_or ns k d < get_or (n ∷ ns) j d) next (h (suc k) d (omega arith))

above_more : (m n : ℕ) (ns : List ℕ) → m < n → AllByRecursion (λ k. n < k) ns → AllByRecursion (λ k. m < k) ns
above_more m n [] low h = tt
above_more m n (k ∷ ns) low h = (omega (arith, low, h.0), above_more m n ns low h.1)

pub ascends : (ns : List ℕ) → Rise ns → IsAscending (λ a b. a < b) ns
ascends [] h = tt
ascends (n ∷ []) h = (tt, tt)
ascends (n ∷ m ∷ ns) h =
    let more = ascends (m ∷ ns) (later n (m ∷ ns) h) in
    let first : n < m = h 0 n (omega arith) in
    ((first, above_more n m ns first more.0), more)

rise : (ns : List ℕ) → IsAscending (λ a b. a < b) ns → Rise ns
rise [] up k d low = absurd (omega (arith, low))
rise (n ∷ []) up k d low = absurd (omega (arith, low))
rise (n ∷ m ∷ ns) up zero d low = up.0.0
rise (n ∷ m ∷ ns) up (suc k) d low =
    let next : suc k + 1 ≡ suc (k + 1) = omega arith in
    subst (λ j. get_or (m ∷ ns) k d < get_or (n ∷ m ∷ ns) j d) (sym next) (rise (m ∷ ns) up.1 k d (omega (arith, low)))

pub do_not_fall : (ns : List ℕ) → Rise ns → IsNonDecreasing ns
do_not_fall ns h = IsNonDecreasingBy-from_all_adjacent (λ (n : ℕ). n) ns (λ k d low. let less = h k d low in omega (arith, less))

all_of : (n : ℕ) (rows : List RunRow) → AllByRecursion (λ k. n < k) (map (λ (r : RunRow). r.number) rows) → AllByRecursion (λ (r : RunRow). n < r.number) rows
all_of n [] h = tt
all_of n (r ∷ rows) h = (h.0, all_of n rows h.1)

numbers_of : (n : ℕ) (rows : List RunRow) → AllByRecursion (λ (r : RunRow). n < r.number) rows → AllByRecursion (λ k. n < k) (map (λ (r : RunRow). r.number) rows)
numbers_of n [] h = tt
numbers_of n (r ∷ rows) h = (h.0, numbers_of n rows h.1)

rows_ascend : (rows : List RunRow) → IsAscending (λ a b. a < b) (map (λ (r : RunRow). r.number) rows) → IsAscending (λ (a b : RunRow). a.number < b.number) rows
rows_ascend [] h = tt
rows_ascend (r ∷ rows) h = (all_of r.number rows h.0, rows_ascend rows h.1)

numbers_ascend : (rows : List RunRow) → IsAscending (λ (a b : RunRow). a.number < b.number) rows → IsAscending (λ a b. a < b) (map (λ (r : RunRow). r.number) rows)
numbers_ascend [] h = tt
numbers_ascend (r ∷ rows) h = (numbers_of r.number rows h.0, numbers_ascend rows h.1)

-- ---- lines of runs

module _ (t : Tables) (runs : List ℕ) (same : (n : ℕ) → is_one_of runs n ≡ has_run t n) where
  module _ {X Y : Type 0} (row : X → Y) (run : Y → ℕ) where
    held : (xs : List X) → list_all (λ x. is_one_of runs (run (row x))) xs ≡ true → AllByRecursion (λ y. has_run t (run y) ≡ true) (map row xs)
    held [] h = tt
    held (x ∷ xs) h = let both = and_parts _ _ h in (sym (same (run (row x))) ∙ both.0, held xs both.1)

    found : (xs : List X) → AllByRecursion (λ y. has_run t (run y) ≡ true) (map row xs) → list_all (λ x. is_one_of runs (run (row x))) xs ≡ true
    found [] h = refl
    found (x ∷ xs) h = ap₂ ◌&&◌ (same (run (row x)) ∙ h.0) (found xs h.1)

  base_held : (o : Option ℕ) → is_none_or_one_of runs o ≡ true → IsOfRun t o
  base_held None h = tt
  base_held (Some n) h = sym (same n) ∙ h

  base_found : (o : Option ℕ) → IsOfRun t o → is_none_or_one_of runs o ≡ true
  base_found None h = refl
  base_found (Some n) h = same n ∙ h

  bases_held : (xs : List ListedGroup) → list_all (λ (g : ListedGroup). is_none_or_one_of runs g.baseline) xs ≡ true → AllByRecursion (λ (g : GroupRow). IsOfRun t g.baseline) (map group_row xs)
  bases_held [] h = tt
  bases_held (g ∷ xs) h = let both = and_parts _ _ h in (base_held g.baseline both.0, bases_held xs both.1)

  bases_found : (xs : List ListedGroup) → AllByRecursion (λ (g : GroupRow). IsOfRun t g.baseline) (map group_row xs) → list_all (λ (g : ListedGroup). is_none_or_one_of runs g.baseline) xs ≡ true
  bases_found [] h = refl
  bases_found (g ∷ xs) h = ap₂ ◌&&◌ (base_found g.baseline h.0) (bases_found xs h.1)

-- ---- all lists

five : (a b c d e : Bool) → (a && b && c && d && e) ≡ true → (a ≡ true) × (b ≡ true) × (c ≡ true) × (d ≡ true) × (e ≡ true)
five false b c d e h = absurd cc
five true false c d e h = absurd cc
five true true false d e h = absurd cc
five true true true false e h = absurd cc
five true true true true false h = absurd cc
five true true true true true h = (refl, refl, refl, refl, refl)

all_five : (a b c d e : Bool) → a ≡ true → b ≡ true → c ≡ true → d ≡ true → e ≡ true → (a && b && c && d && e) ≡ true
all_five a b c d e is_a is_b is_c is_d is_e = rw (is_a, is_b, is_c, is_d, is_e) refl

module _ (t : Tables) (lists : RunLists) (was : AreListed t lists) (runs : List ℕ) (read : runs ≡ map (λ (r : ListedRun). r.entry.number) lists.runs.items) where
  numbers : runs ≡ map (λ (r : RunRow). r.number) t.runs
  numbers = read ∙ map_row run_row (λ (r : RunRow). r.number) lists.runs.items ∙ ap (map (λ (r : RunRow). r.number)) was.runs

  among : (n : ℕ) → is_one_of runs n ≡ has_run t n
  among n = ap (list_any (λ m. m == n)) numbers ∙ sym (any_row (λ (r : RunRow). r.number) (λ m. m == n) t.runs)

  pub held_told : Rise runs → name_some runs lists ≡ true → NameHeldRuns t
  held_told up all =
      let (events, derived, coefs, members, bases) = five _ _ _ _ _ all in
      record {
        runs_rise = rows_ascend t.runs (subst (IsAscending (λ a b. a < b)) numbers (ascends runs up));
        events = subst (AreOfRuns t (λ (e : EventRow). e.run)) was.events (held t runs among event_row (λ (e : EventRow). e.run) lists.events events);
        derived = subst (AreOfRuns t (λ (d : DerivedRow). d.run)) was.derived (held t runs among derived_row (λ (d : DerivedRow). d.run) lists.derived derived);
        coefs = subst (AreOfRuns t (λ (c : CoefRow). c.run)) was.coefs (held t runs among coef_row (λ (c : CoefRow). c.run) lists.coefs coefs);
        members = subst (AreOfRuns t (λ (m : MemberRow). m.run)) was.members (held t runs among member_row (λ (m : MemberRow). m.run) lists.members.items members);
        baselines = subst (AllByRecursion (λ (g : GroupRow). IsOfRun t g.baseline)) was.groups (bases_held t runs among lists.groups.items bases);
      }

  pub rise_told : NameHeldRuns t → Rise runs
  rise_told is = rise runs (subst (IsAscending (λ a b. a < b)) (sym numbers) (numbers_ascend t.runs is.runs_rise))

  pub found_told : NameHeldRuns t → name_some runs lists ≡ true
  found_told is =
      all_five _ _ _ _ _
      (found t runs among event_row (λ (e : EventRow). e.run) lists.events (subst (AreOfRuns t (λ (e : EventRow). e.run)) (sym was.events) is.events))
      (found t runs among derived_row (λ (d : DerivedRow). d.run) lists.derived (subst (AreOfRuns t (λ (d : DerivedRow). d.run)) (sym was.derived) is.derived))
      (found t runs among coef_row (λ (c : CoefRow). c.run) lists.coefs (subst (AreOfRuns t (λ (c : CoefRow). c.run)) (sym was.coefs) is.coefs))
      (found t runs among member_row (λ (m : MemberRow). m.run) lists.members.items (subst (AreOfRuns t (λ (m : MemberRow). m.run)) (sym was.members) is.members))
      (bases_found t runs among lists.groups.items (subst (AllByRecursion (λ (g : GroupRow). IsOfRun t g.baseline)) (sym was.groups) is.baselines))
