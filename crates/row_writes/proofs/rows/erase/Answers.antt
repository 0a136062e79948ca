use Rattle.std.proofs.Common.{◌≡◌, ℕ, ℤ, List, ◌∷◌, true, false, ap, subst, ◌∙◌, to_z-of_z, to_z, of_z, w64}
use Rattle.std.proofs.lemmas.Result.{IfOk-from_err, err_from_is_err_and}
use Rattle.std.specs.Prelude.{⊤}
use Rattle.sqlite_pool.specs.StoredLaws.{Keeps-trans}
use Rattle.sqlite_record.specs.Record.{decode}
use Rattle.sqlite_store.specs.Db.{table_row}
use Rattle.sqlite_trees.specs.Tree.{remove_entry, with_tree, without_rowid}
use Rattle.sqlite_trees.specs.View.{Finds}
use Rattle.sqlite_value.specs.declared.value.Value.TheVariants.{Int}
use Rattle.sqlite_value.specs.Order.{Row}
use Rattle.page_files.specs.Held.{Writes}
use Rattle.page_files.specs.Trees.{trees_of}
use Rattle.page_files.proofs.Causes.{fails_later, fails_to_read}
use Rattle.page_files.proofs.Steps.{writes_after}
use Rattle.page_places.specs.Entries.{with_entries}
use Rattle.page_places.specs.Places.{indexes_of}
use Rattle.page_places.proofs.Filling.{changes_later}
use Rattle.page_places.proofs.Outcomes.{erased, match_result, none_erased, table_shows}
use Rattle.row_writes.proofs.rows.erase.Goals as goal

pub returns-in_err-find_row-clause-done : goal.returns-in_err-find_row-clause-done
returns-in_err-find_row-clause-done g c faithful = λ schema wanted roots was now table shows any.
    let old = c.args.file.now in
    let mid = c.find_row.new.self in
    let p = err_from_is_err_and c.from_residual.result c.from_residual.ensures.1 in
    rw (p.1, p.2) (fails_to_read old mid _ c.find_row.ensures.reads.keeps shows.writes.is_open faithful (c.in_err-find_row.ensures.done faithful wanted table.tree (table_shows old shows).0))

pub returns-then-not-branch-clause-done : goal.returns-then-not-branch-clause-done
returns-then-not-branch-clause-done g c faithful = λ schema wanted roots was now table shows any.
    let old = c.args.file.now in
    let mid = c.find_row.new.self in
    let payload = c.find_row.new.payload.items in
    let id = to_z w64 (of_z w64 c.args.rowid) in
    let same : id ≡ c.args.rowid = to_z-of_z c.ranges.rowid in
    let t = table_shows old shows in
    let none = subst (λ rows. Finds rows id (table_row (id, payload)) false) t.1 (subst (Finds (trees_of wanted old table.tree) id (table_row (id, payload))) c.if-not-branch.true (c.in_ok-find_row.ensures.done faithful wanted table.tree t.0)) in
    none_erased c.args.place.now schema wanted roots was now table old mid shows c.args.rowid (table_row (c.args.rowid, payload))
    (subst (λ n. Finds (now table.tree) n (table_row (n, payload)) false) same none)
    (writes_after old mid c.find_row.ensures.reads faithful c.in_ok-find_row.ensures.usable shows.writes)

pub returns-in_err-delete-clause-done : goal.returns-in_err-delete-clause-done
returns-in_err-delete-clause-done g c faithful = λ schema wanted roots was now table shows any.
    let old = c.args.file.now in
    let mid = c.find_row.new.self in
    let before = c.delete.ensures.leaves.keeps.stays.clean faithful in
    let w = writes_after old mid c.find_row.ensures.reads before c.in_ok-find_row.ensures.usable shows.writes in
    let p = err_from_is_err_and c.from_residual-in_err-delete.result c.from_residual-in_err-delete.ensures.1 in
    rw (p.1, p.2) (fails_later old mid c.delete.new.self _ c.find_row.ensures.reads.keeps (c.in_err-delete.ensures.done faithful wanted roots was now table.tree w shows.placed.at))

pub returns-in_err-delete-clause-leaves : goal.returns-in_err-delete-clause-leaves
returns-in_err-delete-clause-leaves g c = record { usable = IfOk-from_err c.from_residual-in_err-delete.result _ c.from_residual-in_err-delete.ensures.0; keeps = Keeps-trans _ _ _ c.find_row.ensures.reads.keeps c.delete.ensures.leaves.keeps }

pub returns-clause-leaves : goal.returns-clause-leaves
returns-clause-leaves g c = record { usable = c.remove_entries.ensures.usable c.in_ok-delete.ensures.leaves.usable; keeps = Keeps-trans _ _ _ (Keeps-trans _ _ _ c.find_row.ensures.reads.keeps c.delete.ensures.leaves.keeps) c.remove_entries.ensures.keeps }

pub returns-clause-done : goal.returns-clause-done
returns-clause-done g c faithful = λ schema wanted roots was now table shows any.
    let at = shows.placed in
    let old = c.args.file.now in
    let mid = c.find_row.new.self in
    let gone = c.delete.new.self in
    let new = c.remove_entries.new.file in
    let indexes = indexes_of schema table in
    let payload = c.find_row.new.payload.items in
    let id = to_z w64 (of_z w64 c.args.rowid) in
    let same : id ≡ c.args.rowid = to_z-of_z c.ranges.rowid in
    let t = table_shows old shows in
    let clean = c.remove_entries.ensures.keeps.stays.clean faithful in
    let before = c.delete.ensures.leaves.keeps.stays.clean clean in
    let found = subst (λ rows. Finds rows id (table_row (id, payload)) true) t.1 (subst (Finds (trees_of wanted old table.tree) id (table_row (id, payload))) c.if-not-branch.false (c.in_ok-find_row.ensures.done before wanted table.tree t.0)) in
    let row : Row = Int c.args.rowid ∷ decode payload in
    let is : c.read_row.new.row ≡ row = c.in_ok-read_row.ensures ∙ ap (λ (b : List ℕ). table_row (id, b)) c.as_slice.ensures.value ∙ ap (λ (n : ℤ). Int n ∷ decode payload) same in
    let w = writes_after old mid c.find_row.ensures.reads before c.in_ok-find_row.ensures.usable shows.writes in
    let first = subst (λ n. Writes wanted roots was (with_tree now table.tree (without_rowid n (now table.tree))) gone) same (c.in_ok-delete.ensures.done clean wanted roots was now table.tree w at.at) in
    let trees = with_tree now table.tree (without_rowid c.args.rowid (now table.tree)) in
    match_result c.remove_entries.result
    (λ v. erased c.args.place.now schema wanted roots was now table old new shows c.args.rowid (decode payload)
    (subst (λ n. Finds (now table.tree) n (table_row (n, payload)) true) same found)
    (subst (λ (r : Row). Writes wanted roots was (with_entries remove_entry r trees indexes) new) is v))
    (λ e. changes_later old gone new ⊤ ⊤ e (Keeps-trans _ _ _ c.find_row.ensures.reads.keeps c.delete.ensures.leaves.keeps) (λ x. x))
    (c.remove_entries.ensures.done faithful wanted roots was trees indexes first at.indexes)

pub returns-in_err-find_row-clause-leaves : goal.returns-in_err-find_row-clause-leaves
returns-in_err-find_row-clause-leaves g c = record { usable = IfOk-from_err c.from_residual.result _ c.from_residual.ensures.0; keeps = c.find_row.ensures.reads.keeps }

pub returns-then-not-branch-clause-leaves : goal.returns-then-not-branch-clause-leaves
returns-then-not-branch-clause-leaves g c = record { usable = c.in_ok-find_row.ensures.usable; keeps = c.find_row.ensures.reads.keeps }

pub returns-in_err-read_row-clause-leaves : goal.returns-in_err-read_row-clause-leaves
returns-in_err-read_row-clause-leaves g c = record { usable = IfOk-from_err c.from_residual-in_err-read_row.result _ c.from_residual-in_err-read_row.ensures.0; keeps = c.find_row.ensures.reads.keeps }
