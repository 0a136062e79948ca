use Rattle.sqlite_value.specs.Keys.{plain}
use Rattle.std.proofs.Common.{arith, ◌≡◌, sym, ap, subst, ◌∙◌, to_z-of_z, to_z, of_z, w64}
use Rattle.sqlite_record.specs.Strict.{IsRecord}
use Rattle.sqlite_store.specs.Db.{table_row, Edits, shown}
use Rattle.sqlite_trees.specs.declared.store.Shape.TheVariants.{Table}
use Rattle.sqlite_store.proofs.RowLemmas.{put_row-map}
use Rattle.sqlite_store.proofs.DbLemmas.{Each-put_at_cut, table_reads, named_laid, edited}
use Rattle.sqlite_trees.specs.Tree.{put_row}
use Rattle.std.proofs.lemmas.Result.{err_from_is_err_and}
use Rattle.sqlite_store.specs.Limit.{HasDeepTree}
use Rattle.sqlite_format.specs.declared.kind.Tree.TheVariants as kind
use Rattle.sqlite_store.proofs.ShownLemmas.{put_row-shown}
use Rattle.sqlite_store.specs.Catalog.{reals_at}
use Rattle.sqlite_store.proofs.Causes.{wider_limit}
use Rattle.page_files.proofs.edits.put.Goals as goal

pub returns-in_err-insert-clause-done : goal.returns-in_err-insert-clause-done
returns-in_err-insert-clause-done g c clean =
    λ schema tree db names typed.
    let size = g.P.Pages.size c.args.store.now in
    let pages = g.P.Pages.pages c.args.store.now in
    let laid = named_laid db names in
    let raw = laid.1.0 in
    let id = to_z w64 (of_z w64 c.args.rowid) in
    let same : id ≡ c.args.rowid = to_z-of_z c.ranges.rowid in
    let p = err_from_is_err_and c.from_residual.result c.from_residual.ensures.1 in
    rw (p.1, p.2) (wider_limit _ _ _ (HasDeepTree size (g.P.Pages.pages c.args.store.now) c.args.root) _ (λ limit. record { tree = kind.Table; keys = plain; layout = _; entries = laid.1.1.entries; stored = laid.1.1.stored; laid = laid.0; deep = limit.0 }) ((c.in_err-insert.ensures.done (omega (arith, c.insert.ensures.kept.clean))) _ raw laid.0 laid.1.1))

pub returns-clause-done : goal.returns-clause-done
returns-clause-done g c clean =
    λ schema tree db names typed.
    let size = g.P.Pages.size c.args.store.now in
    let pages = g.P.Pages.pages c.args.store.now in
    let laid = named_laid db names in
    let raw = laid.1.0 in
    let id = to_z w64 (of_z w64 c.args.rowid) in
    let same : id ≡ c.args.rowid = to_z-of_z c.ranges.rowid in
    let done = ((c.in_ok-insert.ensures.done (omega (arith, c.insert.ensures.kept.clean))) _ raw laid.0 laid.1.1).1 in
    let after = g.P.Pages.pages c.insert.new.store in
    subst (λ n. Edits size schema pages after tree (put_row (table_row (n, c.args.fields.now)))) same (edited db names done.new done.moves (_, done.fact, Each-put_at_cut (λ row. IsRecord row.1) _ raw _ c.requires.strict laid.1.2) (put_row (table_row (id, c.args.fields.now)))
    (table_reads after done.moves.laid done.fact ∙ put_row-map (id, c.args.fields.now) raw ∙ ap (put_row (table_row (id, c.args.fields.now))) (sym (table_reads pages laid.0 laid.1.1)))
    (put_row-shown _ _ (subst (λ n. shown Table (reals_at schema tree) (table_row (n, c.args.fields.now)) ≡ table_row (n, c.args.fields.now)) (sym same) typed)))
