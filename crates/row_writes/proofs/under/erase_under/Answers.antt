use Rattle.std.proofs.Common.{◌≡◌, List, to_z-of_z, to_z, of_z, w64, inl, ◌∷◌, [], ◌++◌, length, map, filter, IsPermutation, refl, sym, ap, subst, subst₂, ◌∙◌, arith}
use Rattle.std.proofs.lemmas.Bool.{eqb-false, eqb-true}
use Rattle.std.proofs.lemmas.Result.{IfOk-from_err, err_from_is_err_and}
use Rattle.std.specs.Prelude.{⊤}
use Rattle.sqlite_pool.specs.StoredLaws.{Keeps-trans, Keeps-refl}
use Rattle.std.specs.List.{AllByRecursion}
use Rattle.sqlite_rules.specs.Lists.{Has}
use Rattle.sqlite_rules.proofs.ListLemmas.{all_has}
use Rattle.sqlite_schema.specs.declared.schema.Index.{Index}
use Rattle.sqlite_sql.specs.Catalog.{IsIndexOf}
use Rattle.sqlite_trees.specs.Tree.{with_tree}
use Rattle.sqlite_value.specs.declared.value.Value.TheVariants.{Int}
use Rattle.sqlite_value.specs.Keys.{plain}
use Rattle.sqlite_value.specs.Order.{Row}
use Rattle.page_files.specs.Held.{Writes}
use Rattle.page_files.specs.Trees.{trees_of}
use Rattle.page_files.proofs.Causes.{fails_later}
use Rattle.page_files.proofs.Standing.{index_in, tree_in}
use Rattle.page_files.proofs.Steps.{writes_after}
use Rattle.page_rows.specs.Indexes.{begins_with}
use Rattle.page_places.specs.Entries.{with_entries}
use Rattle.page_places.specs.Places.{indexes_of}
use Rattle.row_writes.specs.Tests.{rows_left}
use Rattle.row_writes.specs.Under.{entry_id, is_under, IsLed, out_under}
use Rattle.page_places.proofs.Changed.{mine_of, table_shaped}
use Rattle.page_places.proofs.Filling.{changes_later}
use Rattle.page_places.proofs.Outcomes.{match_result}
use Rattle.row_writes.proofs.RowsUnder.{all_led, erased_under, find_fails, first_index, no_index, rows_out, some_from}
use Rattle.row_writes.proofs.under.erase_under.Goals as goal

pub returns-then-is_empty-clause-done : goal.returns-then-is_empty-clause-done
returns-then-is_empty-clause-done g c faithful = λ schema wanted roots was now table shows led.
    let places = c.args.place.now.indexes.now in
    absurd (no_index wanted roots (now table.tree) places (indexes_of schema table) shows.placed.indexes (eqb-true (length places) 0 (sym c.is_empty.ensures ∙ c.if-is_empty.true)) led)

pub returns-in_err-rowids-clause-done : goal.returns-in_err-rowids-clause-done
returns-in_err-rowids-clause-done g c faithful = λ schema wanted roots was now table shows led.
    let old = c.args.file.now in
    let mid = c.rowids_under.new.file in
    let places = c.args.place.now.indexes.now in
    let some = some_from (length places) (eqb-false (length places) 0 (sym c.is_empty.ensures ∙ c.if-is_empty.false)) in
    let first = first_index wanted roots places (indexes_of schema table) shows.placed.indexes some _ in
    let at = first.3 in
    let seen = index_in old shows.writes at.at at.no_reals in
    let p = err_from_is_err_and c.from_residual-in_err-rowids.result c.from_residual-in_err-rowids.ensures.1 in
    rw (p.1, p.2) (find_fails old mid _ c.rowids_under.ensures.reads.keeps shows.writes.is_open faithful (c.in_err-rowids.ensures.done faithful wanted first.0.tree seen))

pub returns-in_err-delete_all-clause-leaves : goal.returns-in_err-delete_all-clause-leaves
returns-in_err-delete_all-clause-leaves g c = record { usable = IfOk-from_err c.from_residual-in_err-delete_all.result _ c.from_residual-in_err-delete_all.ensures.0; keeps = Keeps-trans _ _ _ c.rowids_under.ensures.reads.keeps c.delete_all.ensures.leaves.keeps }

pub returns-in_err-delete_all-clause-done : goal.returns-in_err-delete_all-clause-done
returns-in_err-delete_all-clause-done g c faithful = λ schema wanted roots was now table shows led.
    let old = c.args.file.now in
    let mid = c.rowids_under.new.file in
    let before = c.delete_all.ensures.leaves.keeps.stays.clean faithful in
    let w = writes_after old mid c.rowids_under.ensures.reads before c.in_ok-rowids.ensures.usable shows.writes in
    let p = err_from_is_err_and c.from_residual-in_err-delete_all.result c.from_residual-in_err-delete_all.ensures.1 in
    rw (p.1, p.2) (fails_later old mid c.delete_all.new.self _ c.rowids_under.ensures.reads.keeps (c.in_err-delete_all.ensures.done faithful wanted roots was now table.tree w shows.placed.at))

pub returns-clause-leaves : goal.returns-clause-leaves
returns-clause-leaves g c = record { usable = c.remove_all_under.ensures.usable c.in_ok-delete_all.ensures.leaves.usable; keeps = Keeps-trans _ _ _ (Keeps-trans _ _ _ c.rowids_under.ensures.reads.keeps c.delete_all.ensures.leaves.keeps) c.remove_all_under.ensures.keeps }

pub returns-clause-done : goal.returns-clause-done
returns-clause-done g c faithful = λ schema wanted roots was now table shows led.
    let old = c.args.file.now in
    let mid = c.rowids_under.new.file in
    let gone = c.delete_all.new.self in
    let new = c.remove_all_under.new.file in
    let indexes = indexes_of schema table in
    let rows = now table.tree in
    let n = c.args.number in
    let clean = c.remove_all_under.ensures.keeps.stays.clean faithful in
    let before = c.delete_all.ensures.leaves.keeps.stays.clean clean in
    let places = c.args.place.now.indexes.now in
    let same : to_z w64 (of_z w64 n) ≡ n = to_z-of_z c.ranges.number in
    let prefix : c.push.new.self ≡ Int n ∷ [] = c.in_ok-push.ensures.ok ∙ ap (λ (l : Row). l ++ Int (to_z w64 (of_z w64 n)) ∷ []) c.new-prefix.ensures ∙ ap (λ z. Int z ∷ []) same in
    let some = some_from (length places) (eqb-false (length places) 0 (sym c.is_empty.ensures ∙ c.if-is_empty.false)) in
    let first = first_index wanted roots places indexes shows.placed.indexes some _ in
    let at = first.3 in
    let tree = first.0.tree in
    let ids = c.as_slice.result.now in
    let led_all = all_led rows indexes led in
    let led_first = (subst (AllByRecursion IsLed) first.2 led_all).0 in
    let seen = index_in old shows.writes at.at at.no_reals in
    let entries = tree_in old shows.writes at.at in
    let indexed = all_has (λ (i : Index). IsIndexOf i.columns (now i.table) (now i.tree)) schema.indexes first.0 shows.indexed (mine_of schema shows.placed.spaced table shows.placed.listed first.0 (subst (λ l. Has l first.0) (sym first.2) (inl refl))).0 in
    let walked = c.in_ok-rowids.ensures.done before wanted tree seen in
    let found : IsPermutation (map entry_id (filter (begins_with plain (Int n ∷ [])) (now tree))) ids =
    subst₂ (λ (key : Row) (es : List Row). IsPermutation (map entry_id (filter (begins_with plain key) es)) ids) prefix entries
    (subst (IsPermutation (map entry_id (filter (begins_with plain c.push.new.self) (trees_of wanted old tree)))) (sym c.as_slice.ensures.value) walked) in
    let mine = mine_of schema shows.placed.spaced table shows.placed.listed first.0 (subst (λ l. Has l first.0) (sym first.2) (inl refl)) in
    let over : IsIndexOf (1 ∷ led_first.0) rows (now tree) = subst₂ (λ cs t. IsIndexOf cs (now t) (now tree)) led_first.1 mine.1 indexed in
    let left = rows_out n led_first.0 rows (now tree) ids (table_shaped old shows.writes shows.placed.at) over found in
    let w = writes_after old mid c.rowids_under.ensures.reads before c.in_ok-rowids.ensures.usable shows.writes in
    let taken : Writes wanted roots was (with_tree now table.tree (rows_left (is_under n) rows)) gone =
    subst (λ l. Writes wanted roots was (with_tree now table.tree l) gone) left (c.in_ok-delete_all.ensures.done clean wanted roots was now table.tree w shows.placed.at) in
    let trees = with_tree now table.tree (rows_left (is_under n) rows) in
    match_result c.remove_all_under.result
    (λ v. erased_under c.args.place.now schema wanted roots was now table old new shows n led_all (subst (λ (key : Row). Writes wanted roots was (with_entries (out_under key) [] trees indexes) new) prefix v))
    (λ e. changes_later old gone new ⊤ ⊤ e (Keeps-trans _ _ _ c.rowids_under.ensures.reads.keeps c.delete_all.ensures.leaves.keeps) (λ x. x))
    (c.remove_all_under.ensures.done faithful wanted roots was trees indexes taken shows.placed.indexes)

pub returns-in_err-if_usable-clause-leaves : goal.returns-in_err-if_usable-clause-leaves
returns-in_err-if_usable-clause-leaves g c = record { usable = IfOk-from_err c.from_residual.result _ c.from_residual.ensures.0; keeps = Keeps-refl _ }

pub returns-then-is_empty-clause-leaves : goal.returns-then-is_empty-clause-leaves
returns-then-is_empty-clause-leaves g c = record { usable = c.in_ok-if_usable.ensures.usable; keeps = Keeps-refl _ }

pub returns-in_err-push-clause-done : goal.returns-in_err-push-clause-done
returns-in_err-push-clause-done g c = λ faithful schema wanted roots was now table shows led. let p = err_from_is_err_and c.from_residual-in_err-push.result c.from_residual-in_err-push.ensures.1 in rw (p.1, p.2) tt

pub returns-in_err-push-clause-leaves : goal.returns-in_err-push-clause-leaves
returns-in_err-push-clause-leaves g c = record { usable = IfOk-from_err c.from_residual-in_err-push.result _ c.from_residual-in_err-push.ensures.0; keeps = Keeps-refl _ }

pub returns-in_err-rowids-clause-leaves : goal.returns-in_err-rowids-clause-leaves
returns-in_err-rowids-clause-leaves g c = record { usable = IfOk-from_err c.from_residual-in_err-rowids.result _ c.from_residual-in_err-rowids.ensures.0; keeps = c.rowids_under.ensures.reads.keeps }

pub bounds-place-0 : goal.bounds-place-0
bounds-place-0 g c = omega (arith, eqb-false (length c.args.place.now.indexes.now) 0 (sym c.is_empty.ensures ∙ c.if-is_empty.false))

pub returns-in_err-if_usable-clause-done : goal.returns-in_err-if_usable-clause-done
returns-in_err-if_usable-clause-done g c faithful = λ schema wanted roots was now table shows led.
    let places = c.args.place.now.indexes.now in
    absurd (no_index wanted roots (now table.tree) places (indexes_of schema table) shows.placed.indexes (eqb-true (length places) 0 (sym c.is_empty.ensures ∙ c.if-is_empty.true)) led)
