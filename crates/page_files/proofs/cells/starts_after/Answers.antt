use Rattle.std.proofs.Common.{◌≡◌, ◌-◌, true, length, get_or, [], sym, ap, subst, subst₂, ◌∙◌, arith}
use Rattle.std.proofs.lemmas.Bool.{OnTrue_from}
use Rattle.sqlite_format.specs.Cell.{IsBody, body_key}
use Rattle.sqlite_format.specs.Payload.{IsPayloadOf}
use Rattle.sqlite_btree.specs.Chain.{entry_of}
use Rattle.sqlite_btree.specs.Items.{item, item_in}
use Rattle.sqlite_btree.specs.Stored.{precedes}
use Rattle.sqlite_btree.specs.Tree.{cells_of}
use Rattle.sqlite_btree.proofs.SearchLemmas.{node_item}
use Rattle.sqlite_btree.proofs.WriteLemmas.{leaf_rows}
use Rattle.page_files.specs.Leaves.{leaf_of}
use Rattle.page_files.specs.Rows.{ComesAfter, entry_from, row_at}
use Rattle.page_files.proofs.NewCells.{last_entry}
use Rattle.page_files.proofs.cells.starts_after.Goals as goal

pub returns-in_err-payload : goal.returns-in_err-payload
returns-in_err-payload g c = λ form part tree bytes node.
    let is = c.in_ok-node.ensures.found form true part bytes node in
    let read = node_item is (c.in_ok-node.node.count - 1) c.in_ok-body.body.now (omega arith) (c.in_ok-body.ensures.found is.sound) in
    let whole : IsBody form.tree true form.usable c.in_ok-body.body.now = subst (λ r. IsBody form.tree r form.usable c.in_ok-body.body.now) (leaf_rows form.tree) read.1 in
    absurd (c.in_err-payload.ensures.found (subst₂ (λ t u. IsBody t true u c.in_ok-body.body.now) (tree ∙ sym c.tree-tree.ensures) (sym (ap length bytes ∙ node.size)) whole))

pub returns-in_err-key : goal.returns-in_err-key
returns-in_err-key g c = λ form part tree bytes node.
    let is = c.in_ok-node.ensures.found form true part bytes node in
    let read = node_item is (c.in_ok-node.node.count - 1) c.in_ok-body.body.now (omega arith) (c.in_ok-body.ensures.found is.sound) in
    let whole : IsBody form.tree true form.usable c.in_ok-body.body.now = subst (λ r. IsBody form.tree r form.usable c.in_ok-body.body.now) (leaf_rows form.tree) read.1 in
    absurd (c.in_err-key.ensures.found form.usable (subst (λ t. IsBody t true form.usable c.in_ok-body.body.now) (tree ∙ sym c.tree-tree.ensures) whole))

pub returns : goal.returns
returns g c = λ form part tree bytes node.
    let t = g.R.NewRows.kind c.args.rows.now in
    let order = g.R.NewRows.order c.args.rows.now in
    let first = row_at (g.R.NewRows.rows c.args.rows.now) 0 in
    let cells = cells_of form true part c.args.page in
    let body = c.in_ok-body.body.now in
    let is = c.in_ok-node.ensures.found form true part bytes node in
    let i = c.in_ok-node.node.count - 1 in
    let read = node_item is i body (omega arith) (c.in_ok-body.ensures.found is.sound) in
    let row = leaf_rows form.tree in
    let kind : c.tree-tree.result ≡ t = c.tree-tree.ensures in
    let whole : IsBody t true form.usable body = subst₂ (λ u r. IsBody u r form.usable body) tree row read.1 in
    let cell = get_or cells i [] in
    let says : item_in (leaf_of t) form.usable cell ≡ item true body = subst (λ u. item_in (leaf_of u) form.usable cell ≡ item true body) tree (read.0 ∙ ap (λ r. item r body) row) in
    let found = c.in_ok-payload.ensures.found (subst₂ (λ u n. IsBody u true n body) (sym kind) (sym (ap length bytes ∙ node.size)) whole) in
    let payload = subst₂ (λ u n. IsPayloadOf u n body c.in_ok-payload.payload) kind (ap length bytes ∙ node.size) found in
    let key = subst (λ u. c.in_ok-key.key ≡ body_key u true body) kind (c.in_ok-key.ensures.found form.usable (subst (λ u. IsBody u true form.usable body) (sym kind) whole)) in
    OnTrue_from _ _ (λ yes. subst (λ u. ComesAfter u order form.usable cells first) (sym tree) (λ spill some.
    let last : length cells - 1 ≡ i = omega (arith, is.count) in
    subst (λ n. precedes t order (entry_of t form.usable spill (item_in (leaf_of t) form.usable (get_or cells n []))) (entry_from t first) ≡ true) (sym last)
    (subst (λ e. precedes t order e (entry_from t first) ≡ true) (sym (last_entry t form.usable c.in_ok-key.key cell body c.in_ok-payload.payload.local.now spill says (omega (arith, payload.spilled)) payload.local key)) (c.follows.ensures yes))))
