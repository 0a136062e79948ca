use Rattle.std.proofs.Common.{◌≡◌, ◌-◌, ◌++◌, List, ℕ, All, map, take, drop, length, sym, ap, ap₂, subst, ◌∙◌, arith, take_all, length-drop}
use Rattle.std.specs.Borrow.{Bor}
use Rattle.std.proofs.lemmas.Bool.{OnTrue_from}
use Rattle.std.proofs.lemmas.List.Elements.{All-append, All-drop, All-take}
use Rattle.sqlite_format.specs.Cell.{IsCell}
use Rattle.sqlite_format.specs.Node.{node_cells}
use Rattle.sqlite_format.specs.Page.{IsPage, page_cells}
use Rattle.sqlite_format.specs.PageEdit.{IsBuiltOf}
use Rattle.sqlite_format.proofs.PageLemmas.{length-page_cells, page_cells_whole}
use Rattle.page_files.proofs.Ranges.{all_of_map, if_true}
use Rattle.page_files.proofs.trims.build_without.Goals as goal

pub returns-clause-done : goal.returns-clause-done
returns-clause-done c = λ sound.
    let node = c.args.node.now in
    let cells = node_cells node in
    let from = c.args.from in
    let to = c.args.to in
    let Whole = IsCell node.kind (length c.args.out.now) in
    let bytes = λ (l : List (Bor (List ℕ))). map (λ (cell : Bor (List ℕ)). cell.now) l in
    let count : length cells ≡ node.count = omega (arith, node.counted, length-page_cells node.kind node.bytes.now node.header) in
    let none : from - 0 ≡ from = omega arith in
    let first = c.in_ok-push_cells.ensures.done sound ∙ ap (λ (l : List (List ℕ)). l ++ take (from - 0) cells) (ap bytes c.new-cells.ensures.items) ∙ ap (λ n. take n cells) none in
    let rest : take (node.count - to) (drop to cells) ≡ drop to cells = take_all (node.count - to) (drop to cells) (omega (arith, length-drop to cells)) in
    let all = ap bytes c.as_slice.ensures.value ∙ c.in_ok-push_cells-2.ensures.done sound ∙ ap₂ (λ (a b : List (List ℕ)). a ++ b) first rest in
    let each : All Whole cells = subst (λ n. All (IsCell node.kind n) cells) (sym c.requires.same) (page_cells_whole sound) in
    let whole : All Whole (bytes c.as_slice.result.now) = subst (All Whole) (sym all) (All-append Whole (take from cells) (drop to cells) (All-take Whole from cells each) (All-drop Whole to cells each)) in
    let kept = take from cells ++ drop to cells in
    OnTrue_from c.build.result (IsPage node.kind c.build.new.page node.header × (page_cells node.kind c.build.new.page node.header ≡ kept)) (λ yes.
    let built = if_true c.build.result (IsBuiltOf node.kind c.build.new.page node.header c.right.result (bytes c.as_slice.result.now)) _ yes
    (c.build.ensures (all_of_map (λ (cell : Bor (List ℕ)). cell.now) Whole c.as_slice.result.now whole)) in
    (built.sound, built.holds ∙ all))
