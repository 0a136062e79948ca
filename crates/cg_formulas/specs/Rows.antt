-- Coefficients while they are added up: no sum passes 2^64-1.
use Rattle.std.specs.Prelude.{◌≡◌, ℕ, ◌-◌, ◌*◌, ◌<◌, ◌^◌, min, List, [], length, sum_by, slice_index, get_or}
use Rattle.cg_formulas.specs.EventLines.{Term}
use Rattle.cg_formulas.specs.Formulas.{Definition, coefficient}

-- how often an event counts in a sum of terms
abbrev pub counted : List ℕ → List Term → List Definition → ℕ
counted event terms back = sum_by (λ t. t.0 * coefficient event t.1 back) terms

abbrev pub capped : ℕ → ℕ
capped n = min n (2 ^ 64 - 1)

-- a number for each event, as a function of its name gives it
pub record IsRow (row : List ℕ) (events : List (List ℕ)) (count : List ℕ → ℕ) : Type 0 where
  pub wide : length row ≡ length events
  pub counts : (k : ℕ) → k < length events → slice_index row k ≡ capped (count (get_or events k []))
