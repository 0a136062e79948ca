use Rattle.std.proofs.Common.{arith, refl, cond, map, sym, ap, ◌∙◌}
use Rattle.std.proofs.lemmas.Bool.{cond_both}
use Rattle.sqlite_btree.specs.Cut.{Each, put_at_cut}
use Rattle.sqlite_record.specs.Strict.{IsRecord}
use Rattle.sqlite_store.specs.Db.{record_order}
use Rattle.sqlite_store.proofs.RowLemmas.{insert_entry-map}
use Rattle.sqlite_store.proofs.OrderLemmas.{strict, probe_at, place_for}
use Rattle.sqlite_store.proofs.DbLemmas.{Each-put_at_cut, index_reads, named_laid, edited}
use Rattle.sqlite_trees.specs.Tree.{insert_entry}
use Rattle.sqlite_record.specs.Record.{decode}
use Rattle.sqlite_value.specs.Keys.{entry_cmp}
use Rattle.std.proofs.lemmas.Result.{err_from_is_err_and}
use Rattle.sqlite_store.specs.Limit.{HasDeepTree}
use Rattle.sqlite_format.specs.declared.kind.Tree.TheVariants as kind
use Rattle.sqlite_store.proofs.ShownLemmas.{insert_entry-shown}
use Rattle.sqlite_store.proofs.Causes.{wider_limit}
use Rattle.page_files.proofs.tree_appends.insert_one.Goals as goal

pub returns-in_err-insert_record-clause-done : goal.returns-in_err-insert_record-clause-done
returns-in_err-insert_record-clause-done g c clean =
    λ schema tree db names typed.
    let size = g.P.Pages.size c.args.store.now in
    let pages = g.P.Pages.pages c.args.store.now in
    let laid = named_laid db names in
    let raw = laid.1.0 in
    let p = err_from_is_err_and c.from_residual.result c.from_residual.ensures.1 in
    rw (p.1, p.2) (wider_limit _ _ _ (HasDeepTree size (g.P.Pages.pages c.args.store.now) c.args.root) _ (λ limit. record { tree = kind.Index; keys = c.args.order; layout = _; entries = laid.1.1.entries; stored = laid.1.1.stored; laid = laid.0; deep = limit.0 }) ((c.in_err-insert_record.ensures.done (omega (arith, c.insert_record.ensures.kept.clean))) (record_order c.args.order) _ raw (strict c.args.order) (probe_at c.args.order (decode c.args.fields.now)) laid.0 laid.1.1 (place_for c.args.order c.args.fields.now (decode c.args.fields.now) refl)))

pub returns-clause-done : goal.returns-clause-done
returns-clause-done g c clean =
    λ schema tree db names typed.
    let size = g.P.Pages.size c.args.store.now in
    let pages = g.P.Pages.pages c.args.store.now in
    let laid = named_laid db names in
    let raw = laid.1.0 in
    let done = ((c.in_ok-insert_record.ensures.done (omega (arith, c.insert_record.ensures.kept.clean))) (record_order c.args.order) _ raw (strict c.args.order) (probe_at c.args.order (decode c.args.fields.now)) laid.0 laid.1.1 (place_for c.args.order c.args.fields.now (decode c.args.fields.now) refl)).1 in
    let after = g.P.Pages.pages c.insert_record.new.store in
    edited db names done.new done.moves (_, done.fact, cond_both c.in_ok-insert_record.field-0 _ raw (Each IsRecord) (λ _. Each-put_at_cut IsRecord _ raw _ c.requires.strict laid.1.2) (λ _. laid.1.2)) (insert_entry c.args.order (decode c.args.fields.now))
    (index_reads after done.moves.laid done.fact ∙ ap (λ b. map decode (cond b (put_at_cut (λ x. entry_cmp c.args.order (decode x) (decode c.args.fields.now)) raw c.args.fields.now) raw)) ((c.in_ok-insert_record.ensures.done (omega (arith, c.insert_record.ensures.kept.clean))) (record_order c.args.order) _ raw (strict c.args.order) (probe_at c.args.order (decode c.args.fields.now)) laid.0 laid.1.1 (place_for c.args.order c.args.fields.now (decode c.args.fields.now) refl)).0
    ∙ insert_entry-map c.args.order c.args.fields.now (decode c.args.fields.now) raw refl ∙ ap (insert_entry c.args.order (decode c.args.fields.now)) (sym (index_reads pages laid.0 laid.1.1)))
    (insert_entry-shown _ c.args.order _ typed)
