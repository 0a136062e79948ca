use Rattle.std.proofs.Common.{◌≡◌, suc, sym, ap, subst, ◌∙◌, arith, refl}
use Rattle.sqlite_format.specs.declared.kind.Kind.{Kind}
use Rattle.sqlite_btree.specs.Part.{IsPartOf}
use Rattle.sqlite_btree.specs.Tree.{IsTop, is_leaf_at, right_of}
use Rattle.sqlite_btree.proofs.Results.{so_ok, steps_on, steps_none}
use Rattle.sqlite_btree.proofs.TreeLemmas.{IsTree-top, interior_height, last_tree, node_live, leaf_height}
use Rattle.page_files.specs.Filled.{last_leaf}
use Rattle.std.proofs.lemmas.Result.{err_from_is_err_and}
use Rattle.page_files.proofs.leaves.+last_below.Goals as goal

pub returns-clause-done : goal.returns-clause-done
returns-clause-done g t c = λ clean form part height laid top shallow.
    let page = c.args.page in
    let read = c.in_ok-load.ensures.done (omega (arith, c.load.ensures.kept.clean)) part laid (node_live top.0) in
    let node = c.in_ok-node.ensures.found form (is_leaf_at height) part (c.loaded.ensures.value ∙ read) top.0 in
    let down = interior_height height (sym (ap (λ (k : Kind). k.leaf) node.kind) ∙ c.if-node.false) in
    let tall : IsTop form part (suc down.0) page = subst (λ h. IsTop form part h page) down.1 top in
    let right : c.right-right.result ≡ right_of part page = c.right-right.ensures ∙ node.right in
    let below : IsTop form part down.0 (right_of part page) = (IsTree-top form part down.0 (right_of part page) (last_tree form part down.0 page tall.1)).0 in
    so_ok c.last_below.result _ _ _ (g.P.Pages.faults c.load.new.store) _ ⊥ ⊥ (omega (arith, c.load.ensures.kept.more_faults)) (λ x. x)
    (c.last_below.ensures.done (omega (arith, clean)) form part down.0 (subst (IsPartOf part) (sym c.load.ensures.pages) laid) (subst (IsTop form part down.0) (sym right) below) (omega (arith, down.1)))
    (λ leaf is. is ∙ ap (last_leaf part down.0) right ∙ ap (λ h. last_leaf part h page) (sym down.1))

pub returns-in_err-load-clause-kept : goal.returns-in_err-load-clause-kept
returns-in_err-load-clause-kept g t c = c.load.ensures.kept

pub returns-in_err-load-clause-pages : goal.returns-in_err-load-clause-pages
returns-in_err-load-clause-pages g t c = c.load.ensures.pages

pub returns-in_err-node-clause-kept : goal.returns-in_err-node-clause-kept
returns-in_err-node-clause-kept g t c = c.load.ensures.kept

pub returns-in_err-node-clause-pages : goal.returns-in_err-node-clause-pages
returns-in_err-node-clause-pages g t c = c.load.ensures.pages

pub returns-clause-kept : goal.returns-clause-kept
returns-clause-kept g t c = steps_on g.met.P.Pages.follows_trans c.load.ensures.kept c.last_below.ensures.kept

pub returns-clause-pages : goal.returns-clause-pages
returns-clause-pages g t c = c.last_below.ensures.pages ∙ c.load.ensures.pages

pub returns-then-node-clause-kept : goal.returns-then-node-clause-kept
returns-then-node-clause-kept g t c = c.load.ensures.kept

pub returns-then-node-clause-pages : goal.returns-then-node-clause-pages
returns-then-node-clause-pages g t c = c.load.ensures.pages

pub returns-then-depth-eq-MAX_DEPTH-clause-done : goal.returns-then-depth-eq-MAX_DEPTH-clause-done
returns-then-depth-eq-MAX_DEPTH-clause-done g t c = λ clean form part height laid top shallow. absurd (omega (arith, shallow, c.if-depth-eq-MAX_DEPTH.true))

pub returns-then-depth-eq-MAX_DEPTH-clause-kept : goal.returns-then-depth-eq-MAX_DEPTH-clause-kept
returns-then-depth-eq-MAX_DEPTH-clause-kept g t c = steps_none g.met.P.Pages.follows_refl

pub returns-then-depth-eq-MAX_DEPTH-clause-pages : goal.returns-then-depth-eq-MAX_DEPTH-clause-pages
returns-then-depth-eq-MAX_DEPTH-clause-pages g t c = refl

pub returns-in_err-load-clause-done : goal.returns-in_err-load-clause-done
returns-in_err-load-clause-done g t c = λ clean form part height laid top shallow.
    let p = err_from_is_err_and c.from_residual.result c.from_residual.ensures.1 in
    rw (p.1, p.2) (c.in_err-load.ensures.done clean part laid (node_live top.0))

pub returns-in_err-node-clause-done : goal.returns-in_err-node-clause-done
returns-in_err-node-clause-done g t c = λ clean form part height laid top shallow.
    let read = c.in_ok-load.ensures.done clean part laid (node_live top.0) in
    absurd (c.in_err-node.ensures.found form (is_leaf_at height) part (c.loaded.ensures.value ∙ read) top.0)

pub returns-then-node-clause-done : goal.returns-then-node-clause-done
returns-then-node-clause-done g t c = λ clean form part height laid top shallow.
    let read = c.in_ok-load.ensures.done clean part laid (node_live top.0) in
    let node = c.in_ok-node.ensures.found form (is_leaf_at height) part (c.loaded.ensures.value ∙ read) top.0 in
    let low = leaf_height height (sym (ap (λ (k : Kind). k.leaf) node.kind) ∙ c.if-node.true) in
    subst (λ h. c.args.page ≡ last_leaf part h c.args.page) (sym low) refl
