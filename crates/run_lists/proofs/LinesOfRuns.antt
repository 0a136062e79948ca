-- The lines of one run, among lines in the order of the runs.
use Rattle.std.proofs.Common.{◌≡◌, ◌==◌, ◌<◌, ◌≤◌, ℕ, zero, suc, Bool, true, false, ltb, leb, List, [], ◌∷◌, length, get_or, take, drop, filter, inl, inr, refl, sym, ap, arith}
use Rattle.std.proofs.lemmas.Bool.{cases_Bool}
use Rattle.std.proofs.lemmas.Bool.Decides.{nat_tests}

below_other : (a b : ℕ) → a < b → (a == b) ≡ false
below_other a b less = grind (arith, nat_tests)

above_other : (a b : ℕ) → b < a → (a == b) ≡ false
above_other a b less = grind (arith, nat_tests)

of_same : (a b : ℕ) → a ≡ b → (a == b) ≡ true
of_same a b same = grind (arith, nat_tests)

pub below : (a b : ℕ) → ltb a b ≡ true → a < b
below a b h = grind (arith, nat_tests)

pub at_most : (a b : ℕ) → leb a b ≡ true → a ≤ b
at_most a b h = grind (arith, nat_tests)

pub at_least : (a b : ℕ) → ltb a b ≡ false → b ≤ a
at_least a b h = grind (arith, nat_tests)

pub above : (a b : ℕ) → leb a b ≡ false → b < a
above a b h = grind (arith, nat_tests)

module _ {L : Type 0} (run_of : L → ℕ) (run : ℕ) where
  abbrev is_of : L → Bool
  is_of line = run_of line == run

  -- those of earlier runs may be left out at the front
  pub left_out_before : (lines : List L) (at : ℕ) → ((k : ℕ) (d : L) → k < at → k < length lines → run_of (get_or lines k d) < run) → filter is_of (drop at lines) ≡ filter is_of lines
  left_out_before lines zero earlier = refl
  left_out_before [] (suc at) earlier = refl
  left_out_before (line ∷ lines) (suc at) earlier =
      let first : is_of line ≡ false = below_other (run_of line) run (earlier 0 line (omega arith) (omega arith)) in
      rw first (left_out_before lines at (λ k d low within. earlier (suc k) d (omega (arith, low)) (omega (arith, within))))

  none_of : (lines : List L) → ((k : ℕ) (d : L) → k < length lines → run < run_of (get_or lines k d)) → filter is_of lines ≡ []
  none_of [] later = refl
  none_of (line ∷ lines) later =
      let first : is_of line ≡ false = above_other (run_of line) run (later 0 line (omega arith)) in
      rw first (none_of lines (λ k d within. later (suc k) d (omega (arith, within))))

  -- those in front are all of the run, and those behind of later runs
  pub front_alone : (lines : List L) (at : ℕ) → ((k : ℕ) (d : L) → k < at → k < length lines → run_of (get_or lines k d) ≡ run)
      → ((k : ℕ) (d : L) → at ≤ k → k < length lines → run < run_of (get_or lines k d)) → take at lines ≡ filter is_of lines
  front_alone lines zero same later = sym (none_of lines (λ k d within. later k d (omega arith) within))
  front_alone [] (suc at) same later = refl
  front_alone (line ∷ lines) (suc at) same later =
      let first : is_of line ≡ true = of_same (run_of line) run (same 0 line (omega arith) (omega arith)) in
      let rest = front_alone lines at (λ k d low within. same (suc k) d (omega (arith, low)) (omega (arith, within))) (λ k d high within. later (suc k) d (omega (arith, high)) (omega (arith, within))) in
      rw first (ap (λ l. line ∷ l) rest)

  -- what is left out once is left out twice
  pub left_out_twice : (lines : List L) → filter is_of (filter is_of lines) ≡ filter is_of lines
  left_out_twice [] = refl
  left_out_twice (line ∷ lines) =
      elim (cases_Bool (is_of line)) [
        | inl same ↦ rw same (rw same (ap (λ l. line ∷ l) (left_out_twice lines)))
        | inr other ↦ rw other (left_out_twice lines)
      ]
