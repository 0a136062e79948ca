use Rattle.std.proofs.Common.{◌≡◌, suc, true, false, sym, ap, subst, subst₂, ◌∙◌, arith}
use Rattle.std.proofs.lemmas.Result.{err_from_is_err_and}
use Rattle.sqlite_btree.proofs.Results.{later_fault, within_limit, steps_on}
use Rattle.sqlite_btree.proofs.ViewLemmas.{ascends_records}
use Rattle.sqlite_btree.specs.Cut.{drop_at_cut}
use Rattle.sqlite_btree.specs.Stored.{IsIndex, IsLaidIn, IsWritten}
use Rattle.sqlite_format.specs.declared.kind.Tree.TheVariants as kind
use Rattle.sqlite_pages.specs.PageMap.{PageMap}
use Rattle.sqlite_record.specs.Record.{decode}
use Rattle.sqlite_store.specs.Db.{record_order}
use Rattle.sqlite_store.proofs.DbLemmas.{named_laid}
use Rattle.sqlite_store.proofs.OrderLemmas.{probe_at, strict}
use Rattle.sqlite_value.specs.Keys.{entry_cmp}
use Rattle.page_files.specs.Removals.{has_prefix, LosesUntil, WasDeep}
use Rattle.page_files.specs.Sought.{IsUnder}
use Rattle.page_files.proofs.Losing.{first_out, none_left, there_hit}
use Rattle.page_files.proofs.tree_removals.remove_first.Goals as goal

pub returns-in_err-find_under-clause-done : goal.returns-in_err-find_under-clause-done
returns-in_err-find_under-clause-done g c = λ clean schema t db names.
    let laid = named_laid db names in
    let p = err_from_is_err_and c.from_residual.result c.from_residual.ensures.1 in
    rw (p.1, p.2) (within_limit (g.P.Pages.faults c.args.store.now) (g.P.Pages.faults c.args.store.now) _ _ _ (omega arith) (c.in_err-find_under.ensures.done clean _ laid.1.0 laid.0 laid.1.1))

pub returns-then-not-branch-clause-done : goal.returns-then-not-branch-clause-done
returns-then-not-branch-clause-done g c = λ clean schema t db names.
    let laid = named_laid db names in
    let picks = has_prefix c.args.order c.args.prefix.now in
    let none = c.in_ok-find_under.ensures.done clean _ laid.1.0 laid.0 laid.1.1 in
    subst (λ after. LosesUntil picks (g.P.Pages.size c.args.store.now) schema (g.P.Pages.pages c.args.store.now) after t false) (sym c.find_under.ensures.pages)
    (none_left c.args.order c.args.prefix.now db names (subst (IsUnder c.args.order c.args.prefix.now laid.1.0 _) c.if-not-branch.true none))

pub returns-in_err-remove_record-clause-done : goal.returns-in_err-remove_record-clause-done
returns-in_err-remove_record-clause-done g c = λ clean schema t db names.
    let k = c.args.order in
    let laid = named_laid db names in
    let mark = decode c.payload.result.now in
    let now = subst (IsLaidIn (db.layouts (suc t))) (sym c.find_under.ensures.pages) laid.0 in
    let index : IsIndex (record_order k) (g.P.Pages.size c.find_under.new.store) (db.layouts (suc t)) c.args.root laid.1.0 =
    subst (λ n. IsIndex (record_order k) n (db.layouts (suc t)) c.args.root laid.1.0) (sym c.find_under.ensures.kept.same_size) laid.1.1 in
    let p = err_from_is_err_and c.from_residual-in_err-remove_record.result c.from_residual-in_err-remove_record.ensures.1 in
    let failed = c.in_err-remove_record.ensures.done clean (record_order k) (db.layouts (suc t)) laid.1.0 (strict k) (probe_at k mark) now index in
    rw (p.1, p.2) (later_fault (g.P.Pages.faults c.args.store.now) (g.P.Pages.faults c.find_under.new.store) _ _ (WasDeep g.P.Pages c.args.store.now c.args.root) _ c.find_under.ensures.kept.more_faults
    (λ limit. record {
      mid = c.find_under.new.store;
      kept = c.find_under.ensures.kept;
      deep = record { tree = kind.Index; keys = k; layout = db.layouts (suc t); entries = index.entries; stored = index.stored; laid = now; deep = limit.0 };
    }) failed)

pub returns-then-not-branch-2-clause-done : goal.returns-then-not-branch-2-clause-done
returns-then-not-branch-2-clause-done g c = λ clean schema t db names.
    let k = c.args.order in
    let laid = named_laid db names in
    let found = c.in_ok-find_under.ensures.done (omega (arith, clean, c.remove_record.ensures.kept.clean)) _ laid.1.0 laid.0 laid.1.1 in
    let under = subst (IsUnder k c.args.prefix.now laid.1.0 _) c.if-not-branch.false found in
    let now = subst (IsLaidIn (db.layouts (suc t))) (sym c.find_under.ensures.pages) laid.0 in
    let index : IsIndex (record_order k) (g.P.Pages.size c.find_under.new.store) (db.layouts (suc t)) c.args.root laid.1.0 =
    subst (λ n. IsIndex (record_order k) n (db.layouts (suc t)) c.args.root laid.1.0) (sym c.find_under.ensures.kept.same_size) laid.1.1 in
    let done = c.in_ok-remove_record.ensures.done clean (record_order k) (db.layouts (suc t)) laid.1.0 (strict k) (probe_at k (decode c.payload.result.now)) now index in
    let there = there_hit k _ laid.1.0 (ascends_records laid.1.1) (subst (λ b. Rattle.sqlite_btree.specs.Cut.IsIn b laid.1.0) (sym c.payload.ensures) under.0) in
    let no = sym c.if-not-branch-2.true ∙ done.0 ∙ there in cc

pub returns-clause-done : goal.returns-clause-done
returns-clause-done g c = λ clean schema t db names.
    let k = c.args.order in
    let laid = named_laid db names in
    let size = g.P.Pages.size c.args.store.now in
    let found = c.in_ok-find_under.ensures.done (omega (arith, clean, c.remove_record.ensures.kept.clean)) _ laid.1.0 laid.0 laid.1.1 in
    let under = subst (IsUnder k c.args.prefix.now laid.1.0 _) c.if-not-branch.false found in
    let now = subst (IsLaidIn (db.layouts (suc t))) (sym c.find_under.ensures.pages) laid.0 in
    let index : IsIndex (record_order k) (g.P.Pages.size c.find_under.new.store) (db.layouts (suc t)) c.args.root laid.1.0 =
    subst (λ n. IsIndex (record_order k) n (db.layouts (suc t)) c.args.root laid.1.0) (sym c.find_under.ensures.kept.same_size) laid.1.1 in
    let mark = c.payload.result.now in
    let done = c.in_ok-remove_record.ensures.done clean (record_order k) (db.layouts (suc t)) laid.1.0 (strict k) (probe_at k (decode mark)) now index in
    first_out k c.args.prefix.now db names mark (subst (λ b. has_prefix k c.args.prefix.now (decode b) ≡ true) (sym c.payload.ensures) under.1)
    (subst₂ (λ n (p : PageMap). IsWritten (db.layouts (suc t)) p (g.P.Pages.pages c.remove_record.new.store) (λ new. IsIndex (record_order k) n new c.args.root (drop_at_cut (λ x. entry_cmp k (decode x) (decode mark)) laid.1.0)))
    c.find_under.ensures.kept.same_size c.find_under.ensures.pages done.1)

pub returns-in_err-find_under-clause-kept : goal.returns-in_err-find_under-clause-kept
returns-in_err-find_under-clause-kept g c = c.find_under.ensures.kept

pub returns-then-not-branch-clause-kept : goal.returns-then-not-branch-clause-kept
returns-then-not-branch-clause-kept g c = c.find_under.ensures.kept

pub returns-in_err-remove_record-clause-kept : goal.returns-in_err-remove_record-clause-kept
returns-in_err-remove_record-clause-kept g c = steps_on g.met.P.Pages.follows_trans c.find_under.ensures.kept c.remove_record.ensures.kept

pub returns-then-not-branch-2-clause-kept : goal.returns-then-not-branch-2-clause-kept
returns-then-not-branch-2-clause-kept g c = steps_on g.met.P.Pages.follows_trans c.find_under.ensures.kept c.remove_record.ensures.kept

pub returns-clause-kept : goal.returns-clause-kept
returns-clause-kept g c = steps_on g.met.P.Pages.follows_trans c.find_under.ensures.kept c.remove_record.ensures.kept
