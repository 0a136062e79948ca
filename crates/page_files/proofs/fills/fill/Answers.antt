use Rattle.std.proofs.Common.{◌≡◌, ◌++◌, ◌≤◌, true, length, sym, ap, subst, subst₂, ◌∙◌, arith, take, List, refl}
use Rattle.std.proofs.lemmas.Result.{IfOk-from_err, err_from_is_err_and}
use Rattle.std.proofs.lemmas.Bool.{OnTrue_at}
use Rattle.sqlite_format.specs.Page.{IsPage, page_cells}
use Rattle.sqlite_btree.specs.Chain.{Entry}
use Rattle.sqlite_btree.specs.Part.{ChangesOwn, IsPartOf, with_page}
use Rattle.sqlite_btree.specs.Stored.{IsWhole, IsWritten, form_of}
use Rattle.sqlite_btree.specs.Tree.{IsNode, cells_of}
use Rattle.sqlite_btree.proofs.Results.{within_limit, steps_on}
use Rattle.sqlite_btree.proofs.TreeLemmas.{node_live}
use Rattle.page_files.specs.Filled.{IsFilled}
use Rattle.page_files.specs.Leaves.{leaf_of, HoldRows}
use Rattle.page_files.specs.Rows.{ComesAfter, entries_of, row_at}
use Rattle.page_files.proofs.FilledLemmas.{stored_filled, top_leaf}
use Rattle.page_files.proofs.NewCells.{row_entries, each_chained, written_back}
use Rattle.page_files.proofs.Nothing.{none_taken}
use Rattle.page_files.proofs.Rising.{rows_rise}
use Rattle.page_files.proofs.fills.fill.Goals as goal

pub returns-in_err-leaf-clause-done : goal.returns-in_err-leaf-clause-done
returns-in_err-leaf-clause-done g c = λ clean strict layout entries laid whole.
    let stored = whole.0 in
    let form = form_of (g.R.NewRows.kind c.args.rows.now) (g.R.NewRows.order c.args.rows.now) (g.P.Pages.size c.args.store.now) layout.spill in
    let p = err_from_is_err_and c.from_residual.result c.from_residual.ensures.1 in
    rw (p.1, p.2) (c.in_err-leaf.ensures.done clean form layout.nodes stored.height laid.nodes stored.shape.top (omega (arith, stored.shape.shallow)))

pub returns-in_err-bytes-clause-done : goal.returns-in_err-bytes-clause-done
returns-in_err-bytes-clause-done g c = λ clean strict layout entries laid whole.
    let stored = whole.0 in
    let form = form_of (g.R.NewRows.kind c.args.rows.now) (g.R.NewRows.order c.args.rows.now) (g.P.Pages.size c.args.store.now) layout.spill in
    let p = err_from_is_err_and c.from_residual-in_err-bytes.result c.from_residual-in_err-bytes.ensures.1 in
    let is = c.in_ok-leaf.ensures.done (omega (arith, clean, c.copy.ensures.kept.clean)) form layout.nodes stored.height laid.nodes stored.shape.top (omega (arith, stored.shape.shallow)) in
    let node : IsNode form true layout.nodes c.in_ok-leaf.leaf = subst (IsNode form true layout.nodes) (sym is) (top_leaf form layout.nodes stored.height c.args.root stored.shape.top) in
    rw (p.1, p.2) (within_limit (g.P.Pages.faults c.args.store.now) (g.P.Pages.faults c.last_below.new.store) _ _ _ (omega (arith, c.last_below.ensures.kept.more_faults))
    (c.in_err-bytes.ensures.done clean layout.nodes (subst (IsPartOf layout.nodes) (sym c.last_below.ensures.pages) laid.nodes) (node_live node)))

pub returns-in_err-starts_after-clause-done : goal.returns-in_err-starts_after-clause-done
returns-in_err-starts_after-clause-done g c = λ clean strict layout entries laid whole.
    let stored = whole.0 in
    let form = form_of (g.R.NewRows.kind c.args.rows.now) (g.R.NewRows.order c.args.rows.now) (g.P.Pages.size c.args.store.now) layout.spill in
    let is = c.in_ok-leaf.ensures.done (omega (arith, clean, c.copy.ensures.kept.clean)) form layout.nodes stored.height laid.nodes stored.shape.top (omega (arith, stored.shape.shallow)) in
    let node : IsNode form true layout.nodes c.in_ok-leaf.leaf = subst (IsNode form true layout.nodes) (sym is) (top_leaf form layout.nodes stored.height c.args.root stored.shape.top) in
    let copied = c.in_ok-bytes.ensures.done clean layout.nodes (subst (IsPartOf layout.nodes) (sym c.last_below.ensures.pages) laid.nodes) (node_live node) in
    absurd (c.in_err-starts_after.ensures form layout.nodes refl (c.as_slice.ensures.value ∙ copied) node)

pub returns-in_err-put-clause-done : goal.returns-in_err-put-clause-done
returns-in_err-put-clause-done g c = λ clean strict layout entries laid whole.
    let stored = whole.0 in
    let form = form_of (g.R.NewRows.kind c.args.rows.now) (g.R.NewRows.order c.args.rows.now) (g.P.Pages.size c.args.store.now) layout.spill in
    let p = err_from_is_err_and c.from_residual-in_err-put.result c.from_residual-in_err-put.ensures.1 in
    let is = c.in_ok-leaf.ensures.done (omega (arith, clean, c.copy.ensures.kept.clean, c.put.ensures.kept.clean)) form layout.nodes stored.height laid.nodes stored.shape.top (omega (arith, stored.shape.shallow)) in
    let node : IsNode form true layout.nodes c.in_ok-leaf.leaf = subst (IsNode form true layout.nodes) (sym is) (top_leaf form layout.nodes stored.height c.args.root stored.shape.top) in
    rw (p.1, p.2) (within_limit (g.P.Pages.faults c.args.store.now) (g.P.Pages.faults c.copy.new.store) _ _ _ (omega (arith, c.last_below.ensures.kept.more_faults, c.copy.ensures.kept.more_faults))
    (c.in_err-put.ensures.done clean layout.nodes (subst (IsPartOf layout.nodes) (sym (c.copy.ensures.pages ∙ c.last_below.ensures.pages)) laid.nodes) (node_live node)))

pub returns-clause-done : goal.returns-clause-done
returns-clause-done g c = λ clean strict layout entries laid whole.
    let stored = whole.0 in
    let pages = g.P.Pages.pages in
    let size = g.P.Pages.size c.args.store.now in
    let tree = g.R.NewRows.kind c.args.rows.now in
    let order = g.R.NewRows.order c.args.rows.now in
    let rows = g.R.NewRows.rows c.args.rows.now in
    let kind = leaf_of tree in
    let form = form_of tree order size layout.spill in
    let taken = c.in_ok-taken.taken in
    let leaf = c.in_ok-leaf.leaf in
    let is = c.in_ok-leaf.ensures.done (omega (arith, clean, c.copy.ensures.kept.clean, c.put.ensures.kept.clean)) form layout.nodes stored.height laid.nodes stored.shape.top (omega (arith, stored.shape.shallow)) in
    let node : IsNode form true layout.nodes leaf = subst (IsNode form true layout.nodes) (sym is) (top_leaf form layout.nodes stored.height c.args.root stored.shape.top) in
    let found = subst (IsPartOf layout.nodes) (sym c.last_below.ensures.pages) laid.nodes in
    let copied = c.in_ok-bytes.ensures.done (omega (arith, clean, c.put.ensures.kept.clean)) layout.nodes found (node_live node) in
    let was = c.as_mut_slice.ensures.value ∙ copied in
    let after : ComesAfter tree order size (cells_of form true layout.nodes leaf) (row_at rows 0) =
    OnTrue_at {P = ComesAfter tree order size (cells_of form true layout.nodes leaf) (row_at rows 0)} c.if-not-branch.false (c.in_ok-starts_after.ensures form layout.nodes refl (c.as_slice.ensures.value ∙ copied) node) in
    let put = c.in_ok-taken.ensures.done (subst₂ (IsPage kind) (sym was) (sym c.header.ensures.value) node.sound) in
    let again = subst (IsPartOf layout.nodes) (sym c.copy.ensures.pages) found in
    let changed = c.in_ok-put.ensures.done clean layout.nodes again (node_live node) in
    let bytes = c.as_slice-2.result.now in
    let is_now : bytes ≡ c.put_rows.new.bytes =
    c.as_slice-2.ensures.value ∙ written_back c.in_ok-bytes.bytes.len c.put_rows.new.bytes c.in_ok-bytes.bytes.items (c.put_rows.ensures.len ∙ ap length c.as_mut_slice.ensures.value) (omega (arith, c.in_ok-bytes.bytes.ok.0)) in
    let hold : HoldRows tree size put.more (entries_of tree (take taken rows)) = subst (λ n. HoldRows tree n put.more (entries_of tree (take taken rows))) (ap length was ∙ node.size) put.hold in
    let at = c.header.result in
    let filled : IsFilled form layout.nodes leaf bytes put.more = record {
      node = record { sound = subst₂ (IsPage kind) (sym is_now) c.header.ensures.value put.sound; size = ap length is_now ∙ c.put_rows.ensures.len ∙ ap length was ∙ node.size };
      cells = subst (λ h. page_cells kind bytes h ≡ page_cells kind (layout.nodes leaf) h ++ put.more) c.header.ensures.value
          (ap (λ b. page_cells kind b at) is_now ∙ put.cells ∙ ap (λ b. page_cells kind b at ++ put.more) was);
    } in
    let within : taken ≤ length rows = c.in_ok-taken.ensures.within in
    let rises = rows_rise stored strict rows taken put.more within c.in_ok-taken.ensures.rise hold (subst (λ l. ComesAfter tree order size (cells_of form true layout.nodes l) (row_at rows 0)) is after) in
    let w = stored_filled bytes put.more (pages c.args.store.now) (pages c.put.new.store) stored whole.1 strict laid leaf (sym is) filled rises (each_chained form layout put.more (hold.chained layout))
    (subst (λ p. ChangesOwn layout.nodes p (with_page layout.nodes leaf bytes) (pages c.put.new.store)) (c.copy.ensures.pages ∙ c.last_below.ensures.pages) changed) in (
      within,
      subst (λ (news : List Entry). IsWritten layout (pages c.args.store.now) (pages c.put.new.store) (λ new. IsWhole tree order size new c.args.root (entries ++ news))) (row_entries form layout.spill put.more (entries_of tree (take taken rows)) (hold.says layout.spill)) w,
    )

pub returns-then-count-eq0-clause-done : goal.returns-then-count-eq0-clause-done
returns-then-count-eq0-clause-done g c = λ clean strict layout entries laid whole. none_taken (g.R.NewRows.rows c.args.rows.now) refl laid whole

pub returns-then-not-branch-clause-done : goal.returns-then-not-branch-clause-done
returns-then-not-branch-clause-done g c = λ clean strict layout entries laid whole. none_taken (g.R.NewRows.rows c.args.rows.now) (c.copy.ensures.pages ∙ c.last_below.ensures.pages) laid whole

pub returns-in_err-leaf-clause-kept : goal.returns-in_err-leaf-clause-kept
returns-in_err-leaf-clause-kept g c = c.last_below.ensures.kept

pub returns-in_err-bytes-clause-kept : goal.returns-in_err-bytes-clause-kept
returns-in_err-bytes-clause-kept g c = steps_on g.met.P.Pages.follows_trans c.last_below.ensures.kept c.copy.ensures.kept

pub returns-in_err-starts_after-clause-kept : goal.returns-in_err-starts_after-clause-kept
returns-in_err-starts_after-clause-kept g c = steps_on g.met.P.Pages.follows_trans c.last_below.ensures.kept c.copy.ensures.kept

pub returns-then-not-branch-clause-kept : goal.returns-then-not-branch-clause-kept
returns-then-not-branch-clause-kept g c = steps_on g.met.P.Pages.follows_trans c.last_below.ensures.kept c.copy.ensures.kept

pub returns-in_err-taken-clause-kept : goal.returns-in_err-taken-clause-kept
returns-in_err-taken-clause-kept g c = steps_on g.met.P.Pages.follows_trans c.last_below.ensures.kept c.copy.ensures.kept

pub returns-in_err-put-clause-kept : goal.returns-in_err-put-clause-kept
returns-in_err-put-clause-kept g c = steps_on g.met.P.Pages.follows_trans (steps_on g.met.P.Pages.follows_trans c.last_below.ensures.kept c.copy.ensures.kept) c.put.ensures.kept

pub returns-clause-kept : goal.returns-clause-kept
returns-clause-kept g c = steps_on g.met.P.Pages.follows_trans (steps_on g.met.P.Pages.follows_trans c.last_below.ensures.kept c.copy.ensures.kept) c.put.ensures.kept

pub returns-in_err-leaf-clause-within : goal.returns-in_err-leaf-clause-within
returns-in_err-leaf-clause-within g c = IfOk-from_err c.from_residual.result _ c.from_residual.ensures.0

pub returns-in_err-leaf-clause-keyed : goal.returns-in_err-leaf-clause-keyed
returns-in_err-leaf-clause-keyed g c = IfOk-from_err c.from_residual.result _ c.from_residual.ensures.0

pub returns-in_err-bytes-clause-within : goal.returns-in_err-bytes-clause-within
returns-in_err-bytes-clause-within g c = IfOk-from_err c.from_residual-in_err-bytes.result _ c.from_residual-in_err-bytes.ensures.0

pub returns-in_err-bytes-clause-keyed : goal.returns-in_err-bytes-clause-keyed
returns-in_err-bytes-clause-keyed g c = IfOk-from_err c.from_residual-in_err-bytes.result _ c.from_residual-in_err-bytes.ensures.0

pub returns-in_err-starts_after-clause-within : goal.returns-in_err-starts_after-clause-within
returns-in_err-starts_after-clause-within g c = IfOk-from_err c.from_residual-in_err-starts_after.result _ c.from_residual-in_err-starts_after.ensures.0

pub returns-in_err-starts_after-clause-keyed : goal.returns-in_err-starts_after-clause-keyed
returns-in_err-starts_after-clause-keyed g c = IfOk-from_err c.from_residual-in_err-starts_after.result _ c.from_residual-in_err-starts_after.ensures.0

pub returns-in_err-taken-clause-within : goal.returns-in_err-taken-clause-within
returns-in_err-taken-clause-within g c = IfOk-from_err c.from_residual-in_err-taken.result _ c.from_residual-in_err-taken.ensures.0

pub returns-in_err-taken-clause-keyed : goal.returns-in_err-taken-clause-keyed
returns-in_err-taken-clause-keyed g c = IfOk-from_err c.from_residual-in_err-taken.result _ c.from_residual-in_err-taken.ensures.0

pub returns-in_err-put-clause-within : goal.returns-in_err-put-clause-within
returns-in_err-put-clause-within g c = IfOk-from_err c.from_residual-in_err-put.result _ c.from_residual-in_err-put.ensures.0

pub returns-in_err-put-clause-keyed : goal.returns-in_err-put-clause-keyed
returns-in_err-put-clause-keyed g c = IfOk-from_err c.from_residual-in_err-put.result _ c.from_residual-in_err-put.ensures.0
