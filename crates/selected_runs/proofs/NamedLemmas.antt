-- Names that are some of all names give the sums that all names give, where the numbers that are told are among them.
use Rattle.std.proofs.Common.{◌≡◌, ℕ, ◌+◌, Bool, List, [], ◌∷◌, map, if◌then◌else◌, refl, ap, ap₂}
use Rattle.std.specs.List.{AllByRecursion}
use Rattle.cost_rows.specs.Keys.{part_of, place_of_row}
use Rattle.cost_rows.specs.KeySums.{cost_where, sums_by}
use Rattle.cost_rows.specs.Sums.{Spot}
use Rattle.cost_rows.specs.declared.keys.Key.{Key}
use Rattle.cost_rows.specs.declared.keys.Key.TheVariants.{Object, File, Function, Line, Thread}
use Rattle.plain_tables.specs.Tables.{NameRow}
use Rattle.run_stores.specs.Book.{IsHeld}
use Rattle.run_stores.specs.Names.{named_cell}
use Rattle.selected_runs.specs.Named.{named_sum, AreOf}
use Rattle.selected_runs.specs.Sums.{number_row, number_rows, numbers_told, told}
use Rattle.selected_runs.specs.declared.parts.NumberPart.{NumberPart}
use Rattle.selected_runs.proofs.ToldLemmas.{TellsAll, told_each}
use Rattle.cost_reports.proofs.KeyLemmas.{same_by_key}

module _ (all some : List NameRow) (of : AreOf all some) (key : Key) where
  named_alike : (k : Key) (part : NumberPart) (cost : ℕ) → AllByRecursion (IsHeld some) (told k part)
      → part_of k (place_of_row (named_cell some (number_row part cost))) ≡ part_of k (place_of_row (named_cell all (number_row part cost)))
  named_alike Object part cost held = ap (λ n. part_of Object (record { object = n; file = []; function = []; line = 0; thread = 0 })) (of part.object held.0).1
  named_alike File part cost held = ap (λ n. part_of File (record { object = []; file = n; function = []; line = 0; thread = 0 })) (of part.file held.0).1
  named_alike Function part cost held =
      ap₂ (λ n m. part_of Function (record { object = n; file = []; function = m; line = 0; thread = 0 })) (of part.object held.0).1 (of part.function held.1.0).1
  named_alike Line part cost held = ap (λ n. part_of Line (record { object = []; file = n; function = []; line = part.line; thread = 0 })) (of part.file held.0).1
  named_alike Thread part cost held = refl

  sums_alike : (sums : List (NumberPart × ℕ)) → AllByRecursion (TellsAll (IsHeld some) key) sums → map (named_sum some key) sums ≡ map (named_sum all key) sums
  sums_alike [] held = refl
  sums_alike (e ∷ sums) held =
      let sum : Spot → List (Spot × ℕ) → List (Spot × ℕ) = λ p rest. (p, e.1) ∷ rest in
      ap₂ sum (named_alike key e.0 e.1 held.0) (sums_alike sums held.1)

  -- named by some, sums are those that are named by all
  pub named_by_all : (sums : List (NumberPart × ℕ)) → AllByRecursion (IsHeld some) (numbers_told key sums) → map (named_sum some key) sums ≡ map (named_sum all key) sums
  named_by_all sums held = sums_alike sums (told_each (IsHeld some) key sums held)

  costs_alike : (passes : Spot → Bool) (sums : List (NumberPart × ℕ)) → AllByRecursion (TellsAll (IsHeld some) key) sums
      → cost_where key passes (map (named_cell some) (number_rows sums)) ≡ cost_where key passes (map (named_cell all) (number_rows sums))
  costs_alike passes [] held = refl
  costs_alike passes (e ∷ sums) held = ap₂ (λ p n. (if passes p then e.1 else 0) + n) (named_alike key e.0 e.1 held.0) (costs_alike passes sums held.1)

  -- and merged by name too
  pub merged_by_all : (sums : List (NumberPart × ℕ)) → AllByRecursion (IsHeld some) (numbers_told key sums)
      → sums_by key (map (named_cell some) (number_rows sums)) ≡ sums_by key (map (named_cell all) (number_rows sums))
  merged_by_all sums held =
      same_by_key key (map (named_cell some) (number_rows sums)) (map (named_cell all) (number_rows sums))
      (λ passes. costs_alike passes sums (told_each (IsHeld some) key sums held))
