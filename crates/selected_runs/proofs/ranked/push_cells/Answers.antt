use Rattle.std.proofs.Common.{◌≡◌, ℕ, ◌+◌, ◌<◌, List, [], ◌∷◌, ◌++◌, length, map, take, get_or, sym, ap, ap₂, subst, ◌∙◌, arith}
use Rattle.std.specs.List.{AllByRecursion}
use Rattle.std.proofs.lemmas.List.{get_or-map, length-map, map_more, map_push}
use Rattle.std.proofs.lemmas.List.Elements.{All-from_recursion}
use Rattle.std.proofs.lemmas.Result.{IfOk-from_err, err_from_is_err_and}
use Rattle.plain_tables.specs.declared.errors.StoreError.TheVariants.{Memory, Store}
use Rattle.cost_reports.specs.Rows.{sum_of_row}
use Rattle.cost_rows.specs.Plain.{plain_cell}
use Rattle.cost_rows.specs.declared.keys.Key.{Key}
use Rattle.run_stores.specs.Book.{IsHeld}
use Rattle.selected_runs.specs.Named.{named_sum}
use Rattle.selected_runs.specs.Sums.{numbers_told, told}
use Rattle.selected_runs.specs.declared.parts.PartSum.{PartSum}
use Rattle.selected_runs.specs.Ranked.{sum_of, sums_of}
use Rattle.selected_runs.specs.declared.parts.NumberPart.{NumberPart}
use Rattle.selected_runs.proofs.EnoughLemmas.{no_row}
use Rattle.selected_runs.proofs.ToldLemmas.{TellsAll, all_joined, told_all, told_each}
use Rattle.selected_runs.proofs.ranked.push_cells.Goals as goal

module _ (rows : List PartSum) (i : ℕ) (below : i < length rows) where
  -- a cell more
  sums_next : {X Y : Type 0} (f : X → Y) (g : NumberPart × ℕ → Y) (old new : List X) (cell : X) → new ≡ old ++ cell ∷ [] → f cell ≡ g (sum_of (get_or rows i no_row))
      → map f old ≡ map g (sums_of (take i rows)) → map f new ≡ map g (sums_of (take (i + 1) rows))
  sums_next f g old new cell is here was =
      ap (map f) is ∙ map_push f old cell ∙ ap₂ (λ l y. l ++ y ∷ []) was here
      ∙ sym (ap (map g) (map_more sum_of rows i no_row below) ∙ map_push g (sums_of (take i rows)) (sum_of (get_or rows i no_row)))

  held_next : (P : ℕ → Type 0) (key : Key) → AllByRecursion P (told key (get_or rows i no_row).part) → AllByRecursion P (numbers_told key (sums_of (take i rows)))
      → AllByRecursion P (numbers_told key (sums_of (take (i + 1) rows)))
  held_next P key here was =
      let before = sums_of (take i rows) in
      subst (λ l. AllByRecursion P (numbers_told key l)) (sym (map_more sum_of rows i no_row below))
      (told_all P key (before ++ sum_of (get_or rows i no_row) ∷ []) (all_joined (TellsAll P key) before (sum_of (get_or rows i no_row) ∷ []) (told_each P key before was) (here, tt)))

pub loop-row-preserved : goal.loop-row-preserved
loop-row-preserved g c = record {
  sums = sums_next c.args.rows.now c.loop-row.row-index c.loop-row-test.true (λ r. sum_of_row (plain_cell r)) (named_sum (g.N.NameTable.name_rows c.args.names.now) c.args.key) _ _ _ c.in_ok-push_cell.ensures c.in_ok-cell.ensures.sum
      c.loop-row.invariant.sums;
  held = held_next c.args.rows.now c.loop-row.row-index c.loop-row-test.true (IsHeld (g.N.NameTable.name_rows c.args.names.now)) c.args.key c.in_ok-cell.ensures.held c.loop-row.invariant.held;
}

pub returns-in_err-cell-clause-held : goal.returns-in_err-cell-clause-held
returns-in_err-cell-clause-held g c =
    let p = err_from_is_err_and c.from_residual.result c.from_residual.ensures.1 in
    rw p.1 (λ is all.
    let each = All-from_recursion (TellsAll (IsHeld (g.N.NameTable.name_rows c.args.names.now)) c.args.key) (sums_of c.args.rows.now)
    (told_each (IsHeld (g.N.NameTable.name_rows c.args.names.now)) c.args.key (sums_of c.args.rows.now) all) in
    let here : TellsAll (IsHeld (g.N.NameTable.name_rows c.args.names.now)) c.args.key (get_or (sums_of c.args.rows.now) c.loop-row.row-index (sum_of no_row)) =
    each c.loop-row.row-index (sum_of no_row) (omega (arith, length-map c.args.rows.now sum_of, c.loop-row-test.true)) in
    c.in_err-cell.ensures.held.1 (subst (λ (e : NumberPart × ℕ). TellsAll (IsHeld (g.N.NameTable.name_rows c.args.names.now)) c.args.key e)
    (get_or-map sum_of c.args.rows.now c.loop-row.row-index no_row (sum_of no_row) c.loop-row-test.true) here))

pub returns-in_err-cell-clause-sums : goal.returns-in_err-cell-clause-sums
returns-in_err-cell-clause-sums g c = IfOk-from_err c.from_residual.result _ c.from_residual.ensures.0

pub returns-in_err-push_cell-clause-sums : goal.returns-in_err-push_cell-clause-sums
returns-in_err-push_cell-clause-sums g c = IfOk-from_err c.from_residual-in_err-push_cell.result _ c.from_residual-in_err-push_cell.ensures.0

pub returns-in_err-push_cell-clause-held : goal.returns-in_err-push_cell-clause-held
returns-in_err-push_cell-clause-held g c =
    let p = err_from_is_err_and c.from_residual-in_err-push_cell.result c.from_residual-in_err-push_cell.ensures.1 in
    rw (p.1, p.2) (λ is. absurd (let wrong : Memory ≡ Store = is in cc))
