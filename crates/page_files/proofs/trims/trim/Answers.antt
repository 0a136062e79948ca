use Rattle.std.proofs.Common.{◌≡◌, [], ◌+◌, ◌-◌, ◌<◌, ◌++◌, true, false, length, take, drop, sym, ap, ap₂, subst, subst₂, refl, ◌∙◌, arith, length-drop, length-append, inl, inr}
use Rattle.std.proofs.lemmas.Bool.{OnTrue_at}
use Rattle.std.proofs.lemmas.Result.{IfOk-from_err, err_from_is_err_and}
use Rattle.sqlite_format.specs.Node.{node_cells}
use Rattle.sqlite_format.specs.Page.{IsPage, page_cells}
use Rattle.sqlite_btree.specs.Loaded.{IsNodeOf}
use Rattle.sqlite_btree.specs.Part.{ChangesOwn, IsPartOf, with_page}
use Rattle.sqlite_btree.specs.Stored.{form_of}
use Rattle.sqlite_btree.specs.Tree.{IsNode, cells_of, header_of}
use Rattle.sqlite_btree.proofs.Results.{of_memory, within_limit, steps_on}
use Rattle.sqlite_btree.proofs.TreeLemmas.{node_live}
use Rattle.page_files.specs.Trims.{HoldsAlone}
use Rattle.page_files.proofs.NewCells.{written_back}
use Rattle.page_files.proofs.Rewritten.{IsLeafOf}
use Rattle.page_files.proofs.Trimming.{each_in_range, none_trimmed, stored_trimmed}
use Rattle.page_files.proofs.Ways.{top_below}
use Rattle.page_files.proofs.trims.trim.Goals as goal

pub returns-in_err-leaf-clause-done : goal.returns-in_err-leaf-clause-done
returns-in_err-leaf-clause-done g c = λ clean order strict layout entries laid whole.
    let stored = whole.0 in
    let form = form_of (g.S.Stretch.kind c.args.stretch.now) order (g.P.Pages.size c.args.store.now) layout.spill in
    let p = err_from_is_err_and c.from_residual.result c.from_residual.ensures.1 in
    rw (p.1, p.2) (c.in_err-leaf.ensures.done clean form layout.nodes stored.height laid.nodes stored.shape.top (omega (arith, stored.shape.shallow)))

pub returns-in_err-bytes-clause-done : goal.returns-in_err-bytes-clause-done
returns-in_err-bytes-clause-done g c = λ clean order strict layout entries laid whole.
    let stored = whole.0 in
    let form = form_of (g.S.Stretch.kind c.args.stretch.now) order (g.P.Pages.size c.args.store.now) layout.spill in
    let p = err_from_is_err_and c.from_residual-in_err-bytes.result c.from_residual-in_err-bytes.ensures.1 in
    let below = c.in_ok-leaf.ensures.done (omega (arith, clean, c.copy.ensures.kept.clean)) form layout.nodes stored.height laid.nodes stored.shape.top (omega (arith, stored.shape.shallow)) in
    let node : IsNode form true layout.nodes c.in_ok-leaf.leaf = top_below form layout.nodes stored.height c.args.root c.in_ok-leaf.leaf stored.shape.top below in
    rw (p.1, p.2) (within_limit (g.P.Pages.faults c.args.store.now) (g.P.Pages.faults c.leaf_below.new.store) _ _ _ (omega (arith, c.leaf_below.ensures.kept.more_faults))
    (c.in_err-bytes.ensures.done clean layout.nodes (subst (IsPartOf layout.nodes) (sym c.leaf_below.ensures.pages) laid.nodes) (node_live node)))

pub returns-in_err-node-clause-done : goal.returns-in_err-node-clause-done
returns-in_err-node-clause-done g c = λ clean order strict layout entries laid whole.
    let stored = whole.0 in
    let form = form_of (g.S.Stretch.kind c.args.stretch.now) order (g.P.Pages.size c.args.store.now) layout.spill in
    let below = c.in_ok-leaf.ensures.done (omega (arith, clean, c.copy.ensures.kept.clean)) form layout.nodes stored.height laid.nodes stored.shape.top (omega (arith, stored.shape.shallow)) in
    let node : IsNode form true layout.nodes c.in_ok-leaf.leaf = top_below form layout.nodes stored.height c.args.root c.in_ok-leaf.leaf stored.shape.top below in
    let copied = c.in_ok-bytes.ensures.done clean layout.nodes (subst (IsPartOf layout.nodes) (sym c.leaf_below.ensures.pages) laid.nodes) (node_live node) in
    absurd (c.in_err-node.ensures.found form true layout.nodes (c.as_slice.ensures.value ∙ copied) node)

pub returns-in_err-count-clause-done : goal.returns-in_err-count-clause-done
returns-in_err-count-clause-done g c = λ clean order strict layout entries laid whole.
    let stored = whole.0 in
    let form = form_of (g.S.Stretch.kind c.args.stretch.now) order (g.P.Pages.size c.args.store.now) layout.spill in
    let below = c.in_ok-leaf.ensures.done (omega (arith, clean, c.copy.ensures.kept.clean)) form layout.nodes stored.height laid.nodes stored.shape.top (omega (arith, stored.shape.shallow)) in
    let node : IsNode form true layout.nodes c.in_ok-leaf.leaf = top_below form layout.nodes stored.height c.args.root c.in_ok-leaf.leaf stored.shape.top below in
    let copied = c.in_ok-bytes.ensures.done clean layout.nodes (subst (IsPartOf layout.nodes) (sym c.leaf_below.ensures.pages) laid.nodes) (node_live node) in
    let is = c.in_ok-node.ensures.found form true layout.nodes (c.as_slice.ensures.value ∙ copied) node in
    absurd (c.in_err-count.ensures.done form layout.nodes c.in_ok-leaf.leaf refl is)

pub returns-then-count-lt2-clause-done : goal.returns-then-count-lt2-clause-done
returns-then-count-lt2-clause-done g c = λ clean order strict layout entries laid whole.
    none_trimmed (g.S.Stretch.goes c.args.stretch.now) (c.copy.ensures.pages ∙ c.leaf_below.ensures.pages) laid whole

pub returns-then-not-branch-clause-done : goal.returns-then-not-branch-clause-done
returns-then-not-branch-clause-done g c = λ clean order strict layout entries laid whole.
    none_trimmed (g.S.Stretch.goes c.args.stretch.now) (c.copy.ensures.pages ∙ c.leaf_below.ensures.pages) laid whole

pub returns-in_err-build_without-clause-done : goal.returns-in_err-build_without-clause-done
returns-in_err-build_without-clause-done g c = λ clean order strict layout entries laid whole.
    let stored = whole.0 in
    let form = form_of (g.S.Stretch.kind c.args.stretch.now) order (g.P.Pages.size c.args.store.now) layout.spill in
    let p = err_from_is_err_and c.from_residual-in_err-build_without.result c.from_residual-in_err-build_without.ensures.1 in
    let below = c.in_ok-leaf.ensures.done (omega (arith, clean, c.copy.ensures.kept.clean)) form layout.nodes stored.height laid.nodes stored.shape.top (omega (arith, stored.shape.shallow)) in
    let node : IsNode form true layout.nodes c.in_ok-leaf.leaf = top_below form layout.nodes stored.height c.args.root c.in_ok-leaf.leaf stored.shape.top below in
    let copied = c.in_ok-bytes.ensures.done clean layout.nodes (subst (IsPartOf layout.nodes) (sym c.leaf_below.ensures.pages) laid.nodes) (node_live node) in
    let is = c.in_ok-node.ensures.found form true layout.nodes (c.as_slice.ensures.value ∙ copied) node in
    rw (p.1, p.2) (of_memory _ _ _ _ (c.in_err-build_without.ensures.cause is.sound))

pub returns-in_err-put-clause-done : goal.returns-in_err-put-clause-done
returns-in_err-put-clause-done g c = λ clean order strict layout entries laid whole.
    let stored = whole.0 in
    let form = form_of (g.S.Stretch.kind c.args.stretch.now) order (g.P.Pages.size c.args.store.now) layout.spill in
    let p = err_from_is_err_and c.from_residual-in_err-put.result c.from_residual-in_err-put.ensures.1 in
    let below = c.in_ok-leaf.ensures.done (omega (arith, clean, c.copy.ensures.kept.clean, c.put.ensures.kept.clean)) form layout.nodes stored.height laid.nodes stored.shape.top (omega (arith, stored.shape.shallow)) in
    let node : IsNode form true layout.nodes c.in_ok-leaf.leaf = top_below form layout.nodes stored.height c.args.root c.in_ok-leaf.leaf stored.shape.top below in
    rw (p.1, p.2) (within_limit (g.P.Pages.faults c.args.store.now) (g.P.Pages.faults c.copy.new.store) _ _ _ (omega (arith, c.leaf_below.ensures.kept.more_faults, c.copy.ensures.kept.more_faults))
    (c.in_err-put.ensures.done clean layout.nodes (subst (IsPartOf layout.nodes) (sym (c.copy.ensures.pages ∙ c.leaf_below.ensures.pages)) laid.nodes) (node_live node)))

pub returns-clause-done : goal.returns-clause-done
returns-clause-done g c = λ clean order strict layout entries laid whole.
    let stored = whole.0 in
    let pages = g.P.Pages.pages in
    let tree = g.S.Stretch.kind c.args.stretch.now in
    let Fact = g.S.Stretch.goes c.args.stretch.now in
    let size = g.P.Pages.size c.args.store.now in
    let form = form_of tree order size layout.spill in
    let leaf = c.in_ok-leaf.leaf in
    let at = c.place_in-at.result in
    let n = c.in_ok-count.count - 1 in
    let below = c.in_ok-leaf.ensures.done (omega (arith, clean, c.copy.ensures.kept.clean, c.put.ensures.kept.clean)) form layout.nodes stored.height laid.nodes stored.shape.top (omega (arith, stored.shape.shallow)) in
    let node : IsNode form true layout.nodes leaf = top_below form layout.nodes stored.height c.args.root leaf stored.shape.top below in
    let found = subst (IsPartOf layout.nodes) (sym c.leaf_below.ensures.pages) laid.nodes in
    let copied = c.in_ok-bytes.ensures.done (omega (arith, clean, c.put.ensures.kept.clean)) layout.nodes found (node_live node) in
    let is : IsNodeOf form true layout.nodes leaf c.in_ok-node.node = c.in_ok-node.ensures.found form true layout.nodes (c.as_slice.ensures.value ∙ copied) node in
    let cells = cells_of form true layout.nodes leaf in
    let going = c.in_ok-count.ensures.done form layout.nodes leaf refl is in
    let within : at + n < length cells = omega (arith, c.in_ok-count.ensures.within, is.count, c.if-count-lt2.false) in
    let facts = each_in_range (λ k cell. HoldsAlone tree size (Fact k) cell) [] cells at n (omega (arith, within)) (λ k low. going k (omega (arith, low))) in
    let new = c.build_without.new.out in
    let bytes = c.as_slice-3.result.now in
    let is_now : bytes ≡ new =
    c.as_slice-3.ensures.value ∙ written_back c.in_ok-page.page.len new c.in_ok-page.page.items (c.build_without.ensures.len ∙ ap length c.as_mut_slice.ensures.value) (omega (arith, c.in_ok-page.page.ok.0)) in
    let first = c.in_ok-node.node in
    let header : first.header ≡ header_of leaf = c.in_ok-node.ensures.same.1 in
    let to : at + c.in_ok-count.count - 1 ≡ at + n = omega (arith, c.if-count-lt2.false) in
    let kept = take at cells ++ drop (at + n) cells in
    let built = OnTrue_at {P = IsPage first.kind new first.header × (page_cells first.kind new first.header ≡ take at (node_cells first) ++ drop (at + c.in_ok-count.count - 1) (node_cells first))} c.if-not-branch.false
    (c.in_ok-build_without.ensures.done is.sound) in
    let len : length bytes ≡ form.usable =
    ap length is_now ∙ c.build_without.ensures.len ∙ ap length (c.as_mut_slice.ensures.value ∙ c.in_ok-page.ensures.items ∙ c.as_slice-2.ensures.value ∙ copied) ∙ node.size in
    let other : IsLeafOf form leaf bytes kept = record {
      node = record { sound = subst₂ (λ k h. IsPage k bytes h) is.kind header (subst (λ b. IsPage first.kind b first.header) (sym is_now) built.0); size = len };
      cells_are = subst₂ (λ k h. page_cells k bytes h ≡ kept) is.kind header
          (ap (λ b. page_cells first.kind b first.header) is_now ∙ built.1 ∙ ap₂ (λ xs m. take at xs ++ drop m xs) is.cells to);
      some = omega (arith, within, length-drop (at + n) cells, length-append (take at cells) (drop (at + n) cells));
    } in
    let changed = c.in_ok-put.ensures.done clean layout.nodes (subst (IsPartOf layout.nodes) (sym c.copy.ensures.pages) found) (node_live node) in
    stored_trimmed Fact at n (pages c.args.store.now) (pages c.put.new.store) stored whole.1 strict laid below (omega (arith, within)) other facts
    (subst (λ p. ChangesOwn layout.nodes p (with_page layout.nodes leaf bytes) (pages c.put.new.store)) (c.copy.ensures.pages ∙ c.leaf_below.ensures.pages) changed)

pub returns-in_err-leaf-clause-kept : goal.returns-in_err-leaf-clause-kept
returns-in_err-leaf-clause-kept g c = c.leaf_below.ensures.kept

pub returns-in_err-bytes-clause-kept : goal.returns-in_err-bytes-clause-kept
returns-in_err-bytes-clause-kept g c = steps_on g.met.P.Pages.follows_trans c.leaf_below.ensures.kept c.copy.ensures.kept

pub returns-in_err-node-clause-kept : goal.returns-in_err-node-clause-kept
returns-in_err-node-clause-kept g c = steps_on g.met.P.Pages.follows_trans c.leaf_below.ensures.kept c.copy.ensures.kept

pub returns-in_err-count-clause-kept : goal.returns-in_err-count-clause-kept
returns-in_err-count-clause-kept g c = steps_on g.met.P.Pages.follows_trans c.leaf_below.ensures.kept c.copy.ensures.kept

pub returns-then-count-lt2-clause-kept : goal.returns-then-count-lt2-clause-kept
returns-then-count-lt2-clause-kept g c = steps_on g.met.P.Pages.follows_trans c.leaf_below.ensures.kept c.copy.ensures.kept

pub returns-in_err-page-clause-kept : goal.returns-in_err-page-clause-kept
returns-in_err-page-clause-kept g c = steps_on g.met.P.Pages.follows_trans c.leaf_below.ensures.kept c.copy.ensures.kept

pub returns-in_err-build_without-clause-kept : goal.returns-in_err-build_without-clause-kept
returns-in_err-build_without-clause-kept g c = steps_on g.met.P.Pages.follows_trans c.leaf_below.ensures.kept c.copy.ensures.kept

pub returns-then-not-branch-clause-kept : goal.returns-then-not-branch-clause-kept
returns-then-not-branch-clause-kept g c = steps_on g.met.P.Pages.follows_trans c.leaf_below.ensures.kept c.copy.ensures.kept

pub returns-in_err-put-clause-kept : goal.returns-in_err-put-clause-kept
returns-in_err-put-clause-kept g c = steps_on g.met.P.Pages.follows_trans (steps_on g.met.P.Pages.follows_trans c.leaf_below.ensures.kept c.copy.ensures.kept) c.put.ensures.kept

pub returns-clause-kept : goal.returns-clause-kept
returns-clause-kept g c = steps_on g.met.P.Pages.follows_trans (steps_on g.met.P.Pages.follows_trans c.leaf_below.ensures.kept c.copy.ensures.kept) c.put.ensures.kept

pub returns-in_err-leaf-clause-few : goal.returns-in_err-leaf-clause-few
returns-in_err-leaf-clause-few g c = IfOk-from_err c.from_residual.result _ c.from_residual.ensures.0

pub returns-in_err-bytes-clause-few : goal.returns-in_err-bytes-clause-few
returns-in_err-bytes-clause-few g c = IfOk-from_err c.from_residual-in_err-bytes.result _ c.from_residual-in_err-bytes.ensures.0

pub returns-in_err-node-clause-few : goal.returns-in_err-node-clause-few
returns-in_err-node-clause-few g c = IfOk-from_err c.from_residual-in_err-node.result _ c.from_residual-in_err-node.ensures.0

pub returns-in_err-count-clause-few : goal.returns-in_err-count-clause-few
returns-in_err-count-clause-few g c = IfOk-from_err c.from_residual-in_err-count.result _ c.from_residual-in_err-count.ensures.0

pub returns-in_err-page-clause-few : goal.returns-in_err-page-clause-few
returns-in_err-page-clause-few g c = IfOk-from_err c.from_residual-in_err-page.result _ c.from_residual-in_err-page.ensures.0

pub returns-in_err-build_without-clause-few : goal.returns-in_err-build_without-clause-few
returns-in_err-build_without-clause-few g c = IfOk-from_err c.from_residual-in_err-build_without.result _ c.from_residual-in_err-build_without.ensures.0

pub returns-in_err-put-clause-few : goal.returns-in_err-put-clause-few
returns-in_err-put-clause-few g c = IfOk-from_err c.from_residual-in_err-put.result _ c.from_residual-in_err-put.ensures.0

pub returns-then-count-lt2-clause-few : goal.returns-then-count-lt2-clause-few
returns-then-count-lt2-clause-few g c = inl refl

pub returns-then-not-branch-clause-few : goal.returns-then-not-branch-clause-few
returns-then-not-branch-clause-few g c = inl refl

pub returns-clause-few : goal.returns-clause-few
returns-clause-few g c = inr (omega (arith, c.in_ok-count.ensures.few, c.if-count-lt2.false))

pub returns-in_err-page-clause-done : goal.returns-in_err-page-clause-done
returns-in_err-page-clause-done g c = λ clean order strict layout entries laid whole.
    let p = err_from_is_err_and c.from_residual-in_err-page.result c.from_residual-in_err-page.ensures.1 in
    rw p.1 (of_memory _ _ _ _ p.2)

pub build_without-requires-clause-places : goal.build_without-requires-clause-places
build_without-requires-clause-places g c = (omega (arith, c.if-count-lt2.false), omega (arith, c.in_ok-count.ensures.within, c.if-count-lt2.false))

pub build_without-requires-clause-same : goal.build_without-requires-clause-same
build_without-requires-clause-same g c =
    ap length (c.as_mut_slice.ensures.value ∙ c.in_ok-page.ensures.items ∙ c.as_slice-2.ensures.value ∙ sym (c.in_ok-node.ensures.same.0 ∙ c.as_slice.ensures.value))

pub put-requires-clause-size : goal.put-requires-clause-size
put-requires-clause-size g c =
    let new = c.build_without.new.out in
    let is_now = c.as_slice-3.ensures.value ∙ written_back c.in_ok-page.page.len new c.in_ok-page.page.items (c.build_without.ensures.len ∙ ap length c.as_mut_slice.ensures.value) (omega (arith, c.in_ok-page.page.ok.0)) in
    let len = ap length is_now ∙ c.build_without.ensures.len ∙ ap length (c.as_mut_slice.ensures.value ∙ c.in_ok-page.ensures.items ∙ c.as_slice-2.ensures.value) in
    omega (arith, len, c.in_ok-bytes.ensures.len, c.in_ok-bytes.bytes.ok.0, c.copy.ensures.kept.same_size)

pub put-requires-clause-some : goal.put-requires-clause-some
put-requires-clause-some g c =
    let new = c.build_without.new.out in
    let is_now = c.as_slice-3.ensures.value ∙ written_back c.in_ok-page.page.len new c.in_ok-page.page.items (c.build_without.ensures.len ∙ ap length c.as_mut_slice.ensures.value) (omega (arith, c.in_ok-page.page.ok.0)) in
    let len = ap length is_now ∙ c.build_without.ensures.len ∙ ap length (c.as_mut_slice.ensures.value ∙ c.in_ok-page.ensures.items ∙ c.as_slice-2.ensures.value) in
    omega (arith, len, c.in_ok-bytes.ensures.len, c.in_ok-bytes.bytes.ok.0)
