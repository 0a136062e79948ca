-- The first sum above the bound, where self costs come before the costs of calls, and these before their number.
use Rattle.std.proofs.Common.{◌≡◌, inl, inr, ℕ, ◌+◌, ◌<◌, ◌≤◌, List, [], ◌∷◌, ◌++◌, nat_lt, Option, Some, None, refl, sym, ap, ◌∙◌}
use Rattle.std.proofs.lemmas.Bool.{cases_Bool, lt-ltb, le-ltb}
use Rattle.cost_rows.specs.Admit.{Sum, bound, column_sums, first_above, overflow_of}
use Rattle.cost_rows.specs.declared.limits.Side.{Side}
use Rattle.cost_rows.specs.declared.limits.Side.TheVariants.{SelfCost, CallCost, CallCount}
use Rattle.cost_rows.specs.declared.limits.Overflow.{Overflow}
use Rattle.cost_rows.specs.declared.rows.FileTotals.{FileTotals}

above-front : (xs ys : List Sum) (o : Overflow) → first_above xs ≡ Some o → first_above (xs ++ ys) ≡ Some o
above-front [] ys o h = absurd (cc)
above-front (s ∷ xs) ys o h = elim (cases_Bool (nat_lt bound s.sum)) [
  | inl above ↦
      let here : first_above (s ∷ xs) ≡ Some s.of = rw above refl in
      let there : first_above ((s ∷ xs) ++ ys) ≡ Some s.of = rw above refl in
      there ∙ sym here ∙ h
  | inr below ↦
      let here : first_above (s ∷ xs) ≡ first_above xs = rw below refl in
      let there : first_above ((s ∷ xs) ++ ys) ≡ first_above (xs ++ ys) = rw below refl in
      there ∙ above-front xs ys o (sym here ∙ h)
]

above-behind : (xs ys : List Sum) → first_above xs ≡ None → first_above (xs ++ ys) ≡ first_above ys
above-behind [] ys h = refl
above-behind (s ∷ xs) ys h = elim (cases_Bool (nat_lt bound s.sum)) [
  | inl above ↦
      let none : Option Overflow = None in
      let here : first_above (s ∷ xs) ≡ Some s.of = rw above refl in
      let e : Some s.of ≡ none = sym here ∙ h in
      absurd (cc)
  | inr below ↦
      let here : first_above (s ∷ xs) ≡ first_above xs = rw below refl in
      let there : first_above ((s ∷ xs) ++ ys) ≡ first_above (xs ++ ys) = rw below refl in
      there ∙ above-behind xs ys (sym here ∙ h)
]

abbrev own : FileTotals → FileTotals → List Sum
own held file = column_sums SelfCost 0 held.self_cost file.self_cost

abbrev calls : FileTotals → FileTotals → List Sum
calls held file = column_sums CallCost 0 held.call_cost file.call_cost

abbrev number : FileTotals → FileTotals → Sum
number held file = record { of = record { side = CallCount; column = 0 }; sum = held.call_count + file.call_count }

pub own-above : (held file : FileTotals) (o : Overflow) → first_above (own held file) ≡ Some o → overflow_of held file ≡ Some o
own-above held file o h = above-front (own held file ++ calls held file) (number held file ∷ []) o (above-front (own held file) (calls held file) o h)

pub calls-above : (held file : FileTotals) (o : Overflow) → first_above (own held file) ≡ None → first_above (calls held file) ≡ Some o → overflow_of held file ≡ Some o
calls-above held file o none h = above-front (own held file ++ calls held file) (number held file ∷ []) o (above-behind (own held file) (calls held file) none ∙ h)

number-left : (held file : FileTotals) → first_above (own held file) ≡ None → first_above (calls held file) ≡ None → overflow_of held file ≡ first_above (number held file ∷ [])
number-left held file none nor = above-behind (own held file ++ calls held file) (number held file ∷ []) (above-behind (own held file) (calls held file) none ∙ nor)

pub number-above : (held file : FileTotals) → first_above (own held file) ≡ None → first_above (calls held file) ≡ None → bound < held.call_count + file.call_count → overflow_of held file ≡ Some (record { side = CallCount; column = 0 })
number-above held file none nor h = number-left held file none nor ∙ rw (lt-ltb bound (held.call_count + file.call_count) h) refl

pub number-fits : (held file : FileTotals) → first_above (own held file) ≡ None → first_above (calls held file) ≡ None → held.call_count + file.call_count ≤ bound → overflow_of held file ≡ None
number-fits held file none nor h = number-left held file none nor ∙ rw (le-ltb bound (held.call_count + file.call_count) h) refl

-- what two slices say of the columns that they hold
pub columns-are : (side : Side) (held file a b : List ℕ) (r : Option Overflow) → a ≡ held → b ≡ file → r ≡ first_above (column_sums side 0 a b) → first_above (column_sums side 0 held file) ≡ r
columns-are side held file a b r one two h =
    ap (λ xs. first_above (column_sums side 0 xs file)) (sym one) ∙ ap (λ ys. first_above (column_sums side 0 a ys)) (sym two) ∙ sym h
