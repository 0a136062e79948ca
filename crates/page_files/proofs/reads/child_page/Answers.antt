use Rattle.std.proofs.Common.{sym, ◌∙◌, arith}
use Rattle.sqlite_btree.proofs.Results.{ok_of_some}
use Rattle.sqlite_btree.proofs.TreeLemmas.{child_at-cell, child_at-last}
use Rattle.sqlite_format.proofs.PageLemmas.{length-page_cells}
use Rattle.sqlite_format.specs.Node.{node_cells}
use Rattle.sqlite_format.specs.Page.{right_child}
use Rattle.page_files.proofs.reads.child_page.Goals as goal

pub returns-then-i-node-clause-found : goal.returns-then-i-node-clause-found
returns-then-i-node-clause-found c =
    let n = c.args.node.now in
    λ sound. c.right.ensures ∙ sym (child_at-last (node_cells n) (right_child n.bytes.now n.header) c.args.i (omega (arith, length-page_cells n.kind n.bytes.now n.header, n.counted)))

pub returns-clause-found : goal.returns-clause-found
returns-clause-found c =
    let n = c.args.node.now in
    λ sound. rw (child_at-cell (node_cells n) (right_child n.bytes.now n.header) c.args.i (omega (arith, length-page_cells n.kind n.bytes.now n.header, n.counted)))
    (ok_of_some c.child.result _ _ _ c.ok_or.ensures.value (c.child.ensures sound))
