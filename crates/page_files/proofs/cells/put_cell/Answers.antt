use Rattle.std.proofs.Common.{◌≡◌, ◌^◌, ◌<◌, length, [], ◌∷◌, sym, subst, arith}
use Rattle.std.proofs.lemmas.Bool.{OnTrue_from, OnTrue_at}
use Rattle.sqlite_format.specs.Cell.{IsCellOf, local_len}
use Rattle.sqlite_format.specs.Page.{IsPage}
use Rattle.sqlite_format.specs.Cell.{IsCell}
use Rattle.sqlite_format.specs.PageEdit.{AddsCell}
use Rattle.sqlite_btree.specs.Aims.{new_entry}
use Rattle.page_files.specs.Leaves.{leaf_of, TakesRows}
use Rattle.page_files.proofs.NewCells.{new_row, at_end}
use Rattle.page_files.proofs.cells.put_cell.Goals as goal

pub returns-clause-done : goal.returns-clause-done
returns-clause-done c sound = OnTrue_from _ (TakesRows c.args.tree c.args.bytes.now c.insert_cell.new.page c.args.header (new_entry c.args.tree c.args.key c.args.payload.now ∷ [])) (λ is.
    let kind = leaf_of c.args.tree in
    let old = c.args.bytes.now in
    let new = c.insert_cell.new.page in
    let header = c.args.header in
    let cell = c.as_slice.result.now in
    let row = c.in_ok-write_row.ensures in
    let padded = subst (λ x. IsCellOf kind (length old) x 0 c.write_row.new.out.items) (sym c.as_slice.ensures.value) (c.in_ok-pad.ensures c.args.tree (length old) row.whole) in
    let fits : local_len c.args.tree (length old) (length c.args.payload.now) ≡ length c.args.payload.now =
    omega (arith, c.local.ensures.value, c.local.ensures.within) in
    let limit : length c.args.payload.now < 2 ^ 31 = omega (arith, c.local.ensures.bound, c.local.ensures.within) in
    let adds = OnTrue_at {P = IsPage kind old header → IsCell kind (length old) cell → AddsCell kind old new header c.get_u16-count.result cell} is c.insert_cell.ensures.added sound padded.whole in
    record { sound = adds.sound; more = cell ∷ []; cells = at_end adds c.get_u16-count.ensures.value; hold = new_row row fits padded limit })
