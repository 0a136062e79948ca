-- The entries of lines in a sorted order.
use Rattle.std.proofs.Common.{◌≡◌, ℕ, List, [], ◌∷◌, length, map, take, IsPermutation, Less, sym, ap, ap₂, subst, ◌∙◌}
use Rattle.std.specs.List.{AllByRecursion, range_with_len}
use Rattle.std.proofs.Math.Seq.{take-append_seam}
use Rattle.std.proofs.lemmas.List.{length-map}
use Rattle.std.proofs.lemmas.List.Sorted.{IsPermutation-map}
use Rattle.plain_tables.specs.Lists.{IsAscending}
use Rattle.sqlite_trees.proofs.ListLemmas.{map-map}
use Rattle.sqlite_value.specs.Order.{Row, column, row_cmp}
use Rattle.sqlite_sql.specs.Catalog.{entry_of}
use Rattle.page_places.proofs.Distinct.{differ_by_rising}
use Rattle.line_fills.specs.Placed.{AreEntriesOf}
use Rattle.line_fills.specs.Rows.{KeysRise, entries_at, key_at, numbered, row_at}
use Rattle.line_fills.proofs.Numbers.{numbered_at_places}

module _ (columns : List ℕ) (first : ℕ) (lines : List Row) where
  -- the first columns of an entry are the key
  pub head_is : (place : ℕ) → take (length columns) (entry_of columns (row_at first lines place)) ≡ key_at columns first lines place
  head_is place =
      let row = row_at first lines place in
      ap (λ n. take n (entry_of columns row)) (sym (length-map columns (column row))) ∙ take-append_seam (map (column row) columns) (column row 0 ∷ [])

  abbrev Below : Row → Row → Type 0
  Below a b = row_cmp (take (length columns) a) (take (length columns) b) ≡ Less

  abbrev entry : ℕ → Row
  entry place = entry_of columns (row_at first lines place)

  below_all : (place : ℕ) (places : List ℕ) → AllByRecursion (λ p. row_cmp (key_at columns first lines place) (key_at columns first lines p) ≡ Less) places → AllByRecursion (Below (entry place)) (map entry places)
  below_all place [] all = tt
  below_all place (p ∷ places) all = (ap₂ row_cmp (head_is place) (head_is p) ∙ all.0, below_all place places all.1)

  rising : (places : List ℕ) → KeysRise columns first lines places → IsAscending Below (map entry places)
  rising [] up = tt
  rising (p ∷ places) up = (below_all p places up.0, rising places up.1)

  -- lines whose keys rise have entries of different keys
  pub sorted_entries : (places : List ℕ) → IsPermutation (range_with_len 0 (length lines)) places → KeysRise columns first lines places
      → AreEntriesOf columns (numbered first lines) (entries_at columns first lines places)
  sorted_entries places order up =
      let rows = range_with_len 0 (length lines) in
      let same : map (entry_of columns) (numbered first lines) ≡ map entry rows = ap (map (entry_of columns)) (sym (numbered_at_places first lines)) ∙ map-map (entry_of columns) (row_at first lines) rows in
      record {
        are_of = subst (λ l. IsPermutation l (map entry places)) (sym same) (IsPermutation-map entry rows places order);
        differ = differ_by_rising (length columns) (map entry places) (rising places up);
      }
