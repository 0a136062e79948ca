use Rattle.std.proofs.Common.{◌-◌, ◌++◌, ◌∷◌, [], List, ℕ, map, take, drop, get_or, length, sym, ap, ap₂, ◌∙◌, arith}
use Rattle.std.specs.Borrow.{Bor}
use Rattle.std.proofs.lemmas.List.{append_assoc, map-append}
use Rattle.sqlite_format.specs.Node.{node_cells}
use Rattle.sqlite_format.proofs.PageLemmas.{length-page_cells}
use Rattle.page_files.proofs.Ranges.{range_more}
use Rattle.page_files.proofs.trims.push_cells.Goals as goal

pub loop-i-preserved : goal.loop-i-preserved
loop-i-preserved c = (
  omega (arith, c.loop-i.invariant.0),
  omega (arith, c.loop-i-test.true),
  λ sound.
      let node = c.args.node.now in
      let cells = node_cells node in
      let i = c.loop-i.i in
      let bytes = λ (l : List (Bor (List ℕ))). map (λ (cell : Bor (List ℕ)). cell.now) l in
      let was = c.loop-i.invariant.2 sound in
      let pushed = ap bytes c.in_ok-push.ensures.items ∙ map-append (λ (cell : Bor (List ℕ)). cell.now) c.loop-i.cells.items (c.in_ok-cell_at.field-0 ∷ []) in
      let one = c.in_ok-cell_at.ensures.found sound in
      pushed ∙ ap₂ (λ a (b : List ℕ). a ++ b ∷ []) was one ∙ append_assoc (bytes c.args.cells.now.items) (take (i - c.args.from) (drop c.args.from cells)) (get_or cells i [] ∷ [])
      ∙ ap (λ l. bytes c.args.cells.now.items ++ l) (sym (range_more cells c.args.from i [] c.loop-i.invariant.0 (omega (arith, c.loop-i-test.true, c.requires, node.counted, length-page_cells node.kind node.bytes.now node.header)))),
)
