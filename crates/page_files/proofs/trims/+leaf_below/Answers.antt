use Rattle.std.proofs.Common.{◌≡◌, ◌≤◌, suc, false, length, sym, ap, ap₂, subst, ◌∙◌, arith, refl}
use Rattle.sqlite_format.specs.declared.kind.Kind.{Kind}
use Rattle.sqlite_btree.specs.Loaded.{IsNodeOf}
use Rattle.sqlite_btree.specs.Part.{IsPartOf}
use Rattle.sqlite_btree.specs.Tree.{IsTop, IsTree, cells_of, child_at, child_of, is_leaf_at, right_of}
use Rattle.sqlite_btree.proofs.Results.{so_ok, steps_on, steps_none}
use Rattle.sqlite_btree.proofs.TreeLemmas.{IsTree-top, interior_height, node_live, leaf_height}
use Rattle.page_files.specs.Trims.{IsBelow}
use Rattle.page_files.proofs.Ways.{child_there}
use Rattle.std.proofs.lemmas.Result.{err_from_is_err_and}
use Rattle.page_files.proofs.trims.+leaf_below.Goals as goal

pub returns-clause-done : goal.returns-clause-done
returns-clause-done g t c = λ clean form part height laid top shallow.
    let page = c.args.page in
    let at = c.place_in.result in
    let read = c.in_ok-load.ensures.done (omega (arith, c.load.ensures.kept.clean)) part laid (node_live top.0) in
    let any = c.in_ok-node.ensures.found form (is_leaf_at height) part (c.loaded.ensures.value ∙ read) top.0 in
    let down = interior_height height (sym (ap (λ (k : Kind). k.leaf) any.kind) ∙ c.if-node.false) in
    let tall : IsTop form part (suc down.0) page = subst (λ h. IsTop form part h page) down.1 top in
    let node : IsNodeOf form false part page c.in_ok-node.node = subst (λ h. IsNodeOf form (is_leaf_at h) part page c.in_ok-node.node) down.1 any in
    let child : c.in_ok-child.child ≡ child_of form part page at = c.in_ok-child.ensures.found node.sound ∙ ap₂ (λ cells last. child_at cells last at) node.cells node.right in
    let within : at ≤ length (cells_of form false part page) = omega (arith, c.place_in.ensures, node.count) in
    let below : IsTop form part down.0 (child_of form part page at) =
    (IsTree-top form part down.0 (child_of form part page at) (child_there (IsTree form part down.0) (cells_of form false part page) (right_of part page) at tall.1)).0 in
    so_ok c.leaf_below.result _ _ _ (g.P.Pages.faults c.load.new.store) _ ⊥ ⊥ (omega (arith, c.load.ensures.kept.more_faults)) (λ x. x)
    (c.leaf_below.ensures.done (omega (arith, clean)) form part down.0 (subst (IsPartOf part) (sym c.load.ensures.pages) laid) (subst (IsTop form part down.0) (sym child) below) (omega (arith, down.1)))
    (λ leaf is. subst (λ h. IsBelow form part h page leaf) (sym down.1) (at, within, subst (λ p. IsBelow form part down.0 p leaf) child is))

pub returns-in_err-load-clause-kept : goal.returns-in_err-load-clause-kept
returns-in_err-load-clause-kept g t c = c.load.ensures.kept

pub returns-in_err-load-clause-pages : goal.returns-in_err-load-clause-pages
returns-in_err-load-clause-pages g t c = c.load.ensures.pages

pub returns-in_err-node-clause-kept : goal.returns-in_err-node-clause-kept
returns-in_err-node-clause-kept g t c = c.load.ensures.kept

pub returns-in_err-node-clause-pages : goal.returns-in_err-node-clause-pages
returns-in_err-node-clause-pages g t c = c.load.ensures.pages

pub returns-clause-kept : goal.returns-clause-kept
returns-clause-kept g t c = steps_on g.met.P.Pages.follows_trans c.load.ensures.kept c.leaf_below.ensures.kept

pub returns-clause-pages : goal.returns-clause-pages
returns-clause-pages g t c = c.leaf_below.ensures.pages ∙ c.load.ensures.pages

pub returns-then-node-clause-kept : goal.returns-then-node-clause-kept
returns-then-node-clause-kept g t c = c.load.ensures.kept

pub returns-then-node-clause-pages : goal.returns-then-node-clause-pages
returns-then-node-clause-pages g t c = c.load.ensures.pages

pub returns-in_err-child-clause-kept : goal.returns-in_err-child-clause-kept
returns-in_err-child-clause-kept g t c = c.load.ensures.kept

pub returns-in_err-child-clause-pages : goal.returns-in_err-child-clause-pages
returns-in_err-child-clause-pages g t c = c.load.ensures.pages

pub returns-then-depth-eq-MAX_DEPTH-clause-done : goal.returns-then-depth-eq-MAX_DEPTH-clause-done
returns-then-depth-eq-MAX_DEPTH-clause-done g t c = λ clean form part height laid top shallow. absurd (omega (arith, shallow, c.if-depth-eq-MAX_DEPTH.true))

pub returns-then-depth-eq-MAX_DEPTH-clause-kept : goal.returns-then-depth-eq-MAX_DEPTH-clause-kept
returns-then-depth-eq-MAX_DEPTH-clause-kept g t c = steps_none g.met.P.Pages.follows_refl

pub returns-then-depth-eq-MAX_DEPTH-clause-pages : goal.returns-then-depth-eq-MAX_DEPTH-clause-pages
returns-then-depth-eq-MAX_DEPTH-clause-pages g t c = refl

pub returns-in_err-load-clause-done : goal.returns-in_err-load-clause-done
returns-in_err-load-clause-done g t c = λ clean form part height laid top shallow.
    let p = err_from_is_err_and c.from_residual.result c.from_residual.ensures.1 in
    rw (p.1, p.2) (c.in_err-load.ensures.done clean part laid (node_live top.0))

pub returns-in_err-node-clause-done : goal.returns-in_err-node-clause-done
returns-in_err-node-clause-done g t c = λ clean form part height laid top shallow.
    let read = c.in_ok-load.ensures.done clean part laid (node_live top.0) in
    absurd (c.in_err-node.ensures.found form (is_leaf_at height) part (c.loaded.ensures.value ∙ read) top.0)

pub returns-then-node-clause-done : goal.returns-then-node-clause-done
returns-then-node-clause-done g t c = λ clean form part height laid top shallow.
    let read = c.in_ok-load.ensures.done clean part laid (node_live top.0) in
    let node = c.in_ok-node.ensures.found form (is_leaf_at height) part (c.loaded.ensures.value ∙ read) top.0 in
    let low = leaf_height height (sym (ap (λ (k : Kind). k.leaf) node.kind) ∙ c.if-node.true) in
    subst (λ h. IsBelow form part h c.args.page c.args.page) (sym low) refl

pub returns-in_err-child-clause-done : goal.returns-in_err-child-clause-done
returns-in_err-child-clause-done g t c = λ clean form part height laid top shallow.
    let read = c.in_ok-load.ensures.done clean part laid (node_live top.0) in
    let node = c.in_ok-node.ensures.found form (is_leaf_at height) part (c.loaded.ensures.value ∙ read) top.0 in
    absurd (c.in_err-child.ensures.found node.sound)
