use Rattle.std.proofs.Common.{◌≡◌, ℤ, ◌∷◌, ◌<◌, drop, length, sym, ap, subst, ◌∙◌, to_z-of_z, to_z, of_z, w64}
use Rattle.std.proofs.lemmas.Result.{IfOk-from_err, err_from_is_err_and}
use Rattle.sqlite_pool.specs.Pool.{state}
use Rattle.sqlite_pool.specs.StoredLaws.{Keeps-refl}
use Rattle.sqlite_record.specs.Record.{decode}
use Rattle.sqlite_store.specs.Db.{table_row}
use Rattle.sqlite_trees.specs.Tree.{put_row, with_tree}
use Rattle.sqlite_trees.specs.View.{IsStorable, IsStorableRow}
use Rattle.sqlite_value.specs.declared.value.Value.TheVariants.{Int}
use Rattle.sqlite_value.specs.Order.{Row}
use Rattle.page_files.specs.Held.{Writes}
use Rattle.page_places.proofs.Filling.{refused_fails}
use Rattle.page_places.proofs.Outcomes.{as_given, replaced}
use Rattle.row_writes.proofs.rows.replace.Goals as goal

pub returns-in_err-row-clause-leaves : goal.returns-in_err-row-clause-leaves
returns-in_err-row-clause-leaves g c = record { usable = IfOk-from_err c.from_residual.result _ c.from_residual.ensures.0; keeps = Keeps-refl (state c.args.file.now.pool) }

pub returns-in_err-write_record-clause-leaves : goal.returns-in_err-write_record-clause-leaves
returns-in_err-write_record-clause-leaves g c = record { usable = IfOk-from_err c.from_residual-in_err-write_record.result _ c.from_residual-in_err-write_record.ensures.0; keeps = Keeps-refl (state c.args.file.now.pool) }

pub returns-in_err-write_record-clause-done : goal.returns-in_err-write_record-clause-done
returns-in_err-write_record-clause-done g c faithful = λ schema wanted roots was now table shows keeps.
    let row : Row = Int c.args.rowid ∷ c.args.columns.now in
    let is : c.in_ok-row.row ≡ row = c.in_ok-row.ensures ∙ ap (λ (n : ℤ). Int n ∷ c.args.columns.now) (to_z-of_z c.ranges.rowid) in
    let p = err_from_is_err_and c.from_residual-in_err-write_record.result c.from_residual-in_err-write_record.ensures.1 in
    rw (p.1, p.2) (refused_fails c.args.file.now c.args.file.now (IsStorable 0 c.in_ok-row.row × (1 < length c.in_ok-row.row)) (IsStorableRow 0 row) _
    (λ both. subst (IsStorableRow 0) (sym is) both) c.in_err-write_record.ensures.cause)

pub returns-in_err-put-clause-done : goal.returns-in_err-put-clause-done
returns-in_err-put-clause-done g c faithful = λ schema wanted roots was now table shows keeps.
    let at = shows.placed in
    let p = err_from_is_err_and c.from_residual-in_err-put.result c.from_residual-in_err-put.ensures.1 in
    rw (p.1, p.2) (c.in_err-put.ensures.done faithful wanted roots was now table.tree shows.writes at.at (as_given wanted table.tree _ at.no_reals))

pub returns-clause-done : goal.returns-clause-done
returns-clause-done g c faithful = λ schema wanted roots was now table shows keeps.
    let at = shows.placed in
    let new = c.put.new.self in
    let fields = c.as_slice.result.now in
    let id = to_z w64 (of_z w64 c.args.rowid) in
    let same : id ≡ c.args.rowid = to_z-of_z c.ranges.rowid in
    let row : Row = Int c.args.rowid ∷ c.args.columns.now in
    let is : c.in_ok-row.row ≡ row = c.in_ok-row.ensures ∙ ap (λ (n : ℤ). Int n ∷ c.args.columns.now) same in
    let given : table_row (id, fields) ≡ row = ap (λ (l : Row). Int id ∷ l) (ap decode c.as_slice.ensures.value ∙ c.in_ok-write_record.ensures.encoded ∙ ap (drop 1) is) ∙ ap (λ (n : ℤ). Int n ∷ c.args.columns.now) same in
    let done = c.in_ok-put.ensures.done faithful wanted roots was now table.tree shows.writes at.at (as_given wanted table.tree _ at.no_reals) in
    replaced c.args.place.now schema wanted roots was now table c.args.file.now new shows c.args.rowid c.args.columns.now keeps
    (subst (λ (r : Row). Writes wanted roots was (with_tree now table.tree (put_row r (now table.tree))) new) given done)

pub returns-in_err-row-clause-done : goal.returns-in_err-row-clause-done
returns-in_err-row-clause-done g c = λ faithful schema wanted roots was now table shows keeps. let p = err_from_is_err_and c.from_residual.result c.from_residual.ensures.1 in rw (p.1, p.2) tt

pub returns-in_err-put-clause-leaves : goal.returns-in_err-put-clause-leaves
returns-in_err-put-clause-leaves g c = record { usable = IfOk-from_err c.from_residual-in_err-put.result _ c.from_residual-in_err-put.ensures.0; keeps = c.put.ensures.leaves.keeps }

pub returns-clause-leaves : goal.returns-clause-leaves
returns-clause-leaves g c = record { usable = c.in_ok-put.ensures.leaves.usable; keeps = c.put.ensures.leaves.keeps }
