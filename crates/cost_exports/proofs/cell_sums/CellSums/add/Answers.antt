use Rattle.std.proofs.Common.{List, ℕ, ap, ◌∙◌, arith}
use Rattle.std.specs.Rc.{rc_slice_items}
use Rattle.cost_rows.specs.Plain.{plain_cell}
use Rattle.report_texts.specs.Amounts.{amount_of}
use Rattle.report_texts.specs.Csv.{EventSpot}
use Rattle.cost_exports.specs.Views.{names_of_row, spot_with, sums_in}
use Rattle.cost_exports.proofs.AmountLemmas.{amount-merge}
use Rattle.cost_exports.proofs.SpreadLemmas.{event_spot-apart}
use Rattle.cost_exports.proofs.cell_sums.CellSums.add.Goals as goal

pub invariant_of-self-inside-2 : goal.invariant_of-self-inside-2
invariant_of-self-inside-2 c =
    let names = names_of_row (plain_cell c.args.row.now) in
    let total : List (EventSpot × ℕ) → ℕ = λ sums. amount_of sums in
    let grown = ap total (c.in_ok-add.ensures.ok names c.in_ok-slot.ensures.slot)
    ∙ amount-merge event_spot-apart (sums_in c.slot_of_row.new.places) (spot_with names (record { line = c.args.row.now.line; event = rc_slice_items c.in_ok-event.event })) c.args.row.now.cost in
    let before = ap total c.slot_of_row.ensures.sums in
    let view = ap total c.self.view_is in
    (omega (arith, grown, before, c.self.inside.is_total), (omega (arith, view, c.self.inside.is_total, c.requires.small), tt))
