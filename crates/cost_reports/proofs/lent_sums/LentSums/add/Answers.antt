use Rattle.std.proofs.Common.{ap, ◌∙◌, arith}
use Rattle.cost_rows.specs.Keys.{lent_place, named_cmp}
use Rattle.cost_rows.specs.KeySums.{Sums, total_of, with_row}
use Rattle.cost_rows.specs.Plain.{plain_cell}
use Rattle.cost_rows.specs.Stacks.{counts_added}
use Rattle.cost_rows.proofs.KeySumsLemmas.{row-with, total-merge}
use Rattle.cost_rows.proofs.SeenLemmas.{seen-with, sum-seen}
use Rattle.cost_reports.specs.Rows.{lent_sums}
use Rattle.cost_reports.proofs.lent_sums.LentSums.add.Goals as goal

pub merge_cost-requires : goal.merge_cost-requires
merge_cost-requires c =
    let held = sum-seen lent_place c.self.inside.sums.entries in
    let view = ap (λ (s : Sums). total_of s.sums) c.self.view_is in
    record { small = omega (arith, held, view, c.requires.small) }

pub invariant_of-self-inside-2 : goal.invariant_of-self-inside-2
invariant_of-self-inside-2 c =
    let merged = seen-with lent_place named_cmp counts_added c.self.inside.sums.entries c.merge_cost.new.sums.entries c.part.result _ c.args.row.now.cost c.in_ok-merge_cost.ensures.ok c.part.ensures in
    let total = total-merge _ (lent_sums c.self.inside.sums.entries) _ c.args.row.now.cost merged in
    let view = ap (λ (s : Sums). total_of s.sums) c.self.view_is in
    (omega (arith, total, c.self.inside.is_total), (omega (arith, view, c.self.inside.is_total, c.requires.small), tt))

pub returns-clause-ok : goal.returns-clause-ok
returns-clause-ok c =
    let merged = seen-with lent_place named_cmp counts_added c.self.inside.sums.entries c.merge_cost.new.sums.entries c.part.result _ c.args.row.now.cost c.in_ok-merge_cost.ensures.ok c.part.ensures in
    row-with (record { key = c.self.inside.key; sums = lent_sums c.self.inside.sums.entries }) (plain_cell c.args.row.now) (lent_sums c.merge_cost.new.sums.entries) c.if-row-eq0.false merged
    ∙ ap (λ s. with_row s (plain_cell c.args.row.now)) c.self.view_is
