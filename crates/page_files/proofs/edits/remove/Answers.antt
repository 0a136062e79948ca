use Rattle.std.proofs.Common.{arith, sym, ap, ◌∙◌}
use Rattle.sqlite_record.specs.Strict.{IsRecord}
use Rattle.sqlite_store.specs.Db.{record_order}
use Rattle.sqlite_store.proofs.RowLemmas.{remove_entry-map}
use Rattle.sqlite_store.proofs.OrderLemmas.{strict, probe_at}
use Rattle.sqlite_store.proofs.DbLemmas.{Each-drop_at_cut, index_reads, named_laid, edited}
use Rattle.sqlite_trees.specs.Tree.{remove_entry}
use Rattle.sqlite_btree.proofs.ViewLemmas.{ascends_records}
use Rattle.std.proofs.lemmas.Result.{err_from_is_err_and}
use Rattle.sqlite_store.specs.Limit.{HasDeepTree}
use Rattle.sqlite_format.specs.declared.kind.Tree.TheVariants as kind
use Rattle.sqlite_store.proofs.ShownLemmas.{remove_entry-shown}
use Rattle.sqlite_store.proofs.Causes.{wider_limit}
use Rattle.page_files.proofs.edits.remove.Goals as goal

pub returns-in_err-remove_record-clause-done : goal.returns-in_err-remove_record-clause-done
returns-in_err-remove_record-clause-done g c clean =
    λ schema tree db names.
    let size = g.P.Pages.size c.args.store.now in
    let pages = g.P.Pages.pages c.args.store.now in
    let laid = named_laid db names in
    let raw = laid.1.0 in
    let p = err_from_is_err_and c.from_residual.result c.from_residual.ensures.1 in
    rw (p.1, p.2) (wider_limit _ _ _ (HasDeepTree size (g.P.Pages.pages c.args.store.now) c.args.root) _ (λ limit. record { tree = kind.Index; keys = c.args.order; layout = _; entries = laid.1.1.entries; stored = laid.1.1.stored; laid = laid.0; deep = limit.0 }) ((c.in_err-remove_record.ensures.done (omega (arith, c.remove_record.ensures.kept.clean))) (record_order c.args.order) _ raw (strict c.args.order) (probe_at c.args.order c.args.entry.now) laid.0 laid.1.1))

pub returns-clause-done : goal.returns-clause-done
returns-clause-done g c clean =
    λ schema tree db names.
    let size = g.P.Pages.size c.args.store.now in
    let pages = g.P.Pages.pages c.args.store.now in
    let laid = named_laid db names in
    let raw = laid.1.0 in
    let done = ((c.in_ok-remove_record.ensures.done (omega (arith, c.remove_record.ensures.kept.clean))) (record_order c.args.order) _ raw (strict c.args.order) (probe_at c.args.order c.args.entry.now) laid.0 laid.1.1).1 in
    let after = g.P.Pages.pages c.remove_record.new.store in
    edited db names done.new done.moves (_, done.fact, Each-drop_at_cut IsRecord _ raw laid.1.2) (remove_entry c.args.order c.args.entry.now)
    (index_reads after done.moves.laid done.fact ∙ remove_entry-map c.args.order c.args.entry.now raw (ascends_records laid.1.1) ∙ ap (remove_entry c.args.order c.args.entry.now) (sym (index_reads pages laid.0 laid.1.1)))
    (remove_entry-shown _ c.args.order c.args.entry.now)
