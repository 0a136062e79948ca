use Rattle.std.proofs.Common.{◌≡◌, true, get_or, [], sym, ap, subst, subst₂, ◌∙◌, arith}
use Rattle.std.proofs.lemmas.Bool.{OnTrue_from}
use Rattle.sqlite_format.specs.Cell.{IsBody, body_key, spilled_len}
use Rattle.sqlite_format.specs.Payload.{IsPayloadOf}
use Rattle.sqlite_btree.specs.Items.{body_of, item, item_in}
use Rattle.sqlite_btree.specs.Tree.{cells_of}
use Rattle.sqlite_btree.proofs.SearchLemmas.{node_item}
use Rattle.sqlite_btree.proofs.WriteLemmas.{leaf_rows}
use Rattle.page_files.specs.Leaves.{leaf_of}
use Rattle.page_files.specs.Trims.{HoldsAlone}
use Rattle.page_files.proofs.NewCells.{last_entry}
use Rattle.page_files.proofs.trims.goes_at.Goals as goal

pub returns-in_err-payload : goal.returns-in_err-payload
returns-in_err-payload g c = λ form part page tree is.
    let body = c.in_ok-body.body.now in
    let read = node_item is c.args.at body (omega (arith, c.requires.within)) (c.in_ok-body.ensures.found is.sound) in
    let whole : IsBody form.tree true form.usable body = subst (λ r. IsBody form.tree r form.usable body) (leaf_rows form.tree) read.1 in
    absurd (c.in_err-payload.ensures.found (subst₂ (λ t u. IsBody t true u body) (tree ∙ sym c.tree-tree.ensures) (sym is.size) whole))

pub returns-in_err-key : goal.returns-in_err-key
returns-in_err-key g c = λ form part page tree is.
    let body = c.in_ok-body.body.now in
    let read = node_item is c.args.at body (omega (arith, c.requires.within)) (c.in_ok-body.ensures.found is.sound) in
    let whole : IsBody form.tree true form.usable body = subst (λ r. IsBody form.tree r form.usable body) (leaf_rows form.tree) read.1 in
    absurd (c.in_err-key.ensures.found form.usable (subst (λ t. IsBody t true form.usable body) (tree ∙ sym c.tree-tree.ensures) whole))

pub returns : goal.returns
returns g c = λ form part page tree is.
    let t = g.S.Stretch.kind c.args.stretch.now in
    let Fact = g.S.Stretch.goes c.args.stretch.now c.args.i in
    let body = c.in_ok-body.body.now in
    let cell = get_or (cells_of form true part page) c.args.at [] in
    let read = node_item is c.args.at body (omega (arith, c.requires.within)) (c.in_ok-body.ensures.found is.sound) in
    let row = leaf_rows form.tree in
    let kind : c.tree-tree.result ≡ t = c.tree-tree.ensures in
    let whole : IsBody t true form.usable body = subst₂ (λ u r. IsBody u r form.usable body) tree row read.1 in
    let says : item_in (leaf_of t) form.usable cell ≡ item true body = subst (λ u. item_in (leaf_of u) form.usable cell ≡ item true body) tree (read.0 ∙ ap (λ r. item r body) row) in
    let found = c.in_ok-payload.ensures.found (subst₂ (λ u n. IsBody u true n body) (sym kind) (sym is.size) whole) in
    let payload = subst₂ (λ u n. IsPayloadOf u n body c.in_ok-payload.payload) kind is.size found in
    let key = subst (λ u. c.in_ok-key.key ≡ body_key u true body) kind (c.in_ok-key.ensures.found form.usable (subst (λ u. IsBody u true form.usable body) (sym kind) whole)) in
    let none : spilled_len t form.usable body ≡ 0 = omega (arith, payload.spilled) in
    OnTrue_from _ (HoldsAlone form.tree form.usable Fact cell) (λ yes. subst (λ u. HoldsAlone u form.usable Fact cell) (sym tree) (record {
      says = λ spill. subst Fact (sym (last_entry t form.usable c.in_ok-key.key cell body c.in_ok-payload.payload.local.now spill says none payload.local key)) (c.takes.ensures yes);
      alone = ap (λ x. spilled_len t form.usable (body_of x)) says ∙ none;
    }))
