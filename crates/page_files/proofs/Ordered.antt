-- Rows that rise, above all that are there, are placed behind them.
use Rattle.std.proofs.Common.{◌≡◌, List, [], ◌∷◌, ◌++◌, refl, sym, ap, subst, ◌∙◌, append-nil, Less}
use Rattle.std.specs.List.{AllByRecursion}
use Rattle.std.proofs.lemmas.List.{append_assoc}
use Rattle.sqlite_value.specs.Order.{Row, value_cmp}
use Rattle.sqlite_trees.specs.Tree.{IsAscending, IsTable, rowid, put_row}
use Rattle.page_files.specs.Places.{Place, place_all}

module _ (place : Place) (Below : Row → Row → Type 0) (none : (new : Row) → place new [] ≡ new ∷ [])
    (past : (row new : Row) (rows : List Row) → Below row new → place new (row ∷ rows) ≡ row ∷ place new rows) where
  one_above : (rows : List Row) (new : Row) (news : List Row) → IsAscending Below (rows ++ new ∷ news) → place new rows ≡ rows ++ new ∷ []
  one_above [] new news up = none new
  one_above (row ∷ rows) new news up = past row new rows (first rows up.0) ∙ ap (λ l. row ∷ l) (one_above rows new news up.1)
    where
      first : (rest : List Row) → AllByRecursion (Below row) (rest ++ new ∷ news) → Below row new
      first [] all = all.0
      first (x ∷ rest) all = first rest all.1

  all_above : (rows news : List Row) → IsAscending Below (rows ++ news) → place_all place news rows ≡ rows ++ news
  all_above rows [] up = sym (append-nil rows)
  all_above rows (new ∷ news) up =
      let same : (rows ++ new ∷ []) ++ news ≡ rows ++ new ∷ news = append_assoc rows (new ∷ []) news in
      ap (place_all place news) (one_above rows new news up) ∙ all_above (rows ++ new ∷ []) news (subst (IsAscending Below) (sym same) up) ∙ same

-- the rows of a table
pub table_above : (rows news : List Row) → IsTable (rows ++ news) → place_all put_row news rows ≡ rows ++ news
table_above = all_above put_row (λ a b. value_cmp (rowid a) (rowid b) ≡ Less) (λ new. refl) (λ row new rows e. rw e refl)
