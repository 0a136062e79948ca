use Rattle.std.proofs.Common.{◌≡◌, ap, arith}
use Rattle.cost_rows.specs.KeySums.{total_of}
use Rattle.report_texts.specs.Inclusive.{InclusiveCosts, names_costs}
use Rattle.cost_reports.proofs.FrameLemmas.{total_in}
use Rattle.cost_reports.proofs.inclusives.FrameSums.add_stack.Goals as goal

pub add_functions-added-requires : goal.add_functions-added-requires
add_functions-added-requires c =
    let count = c.args.row.now.count in
    let most = total_in count c.args.row.now.stack.now in
    let same = ap (λ names. total_of (names_costs count names)) c.in_ok-functions.ensures in
    let held : total_of c.self.inside.merged.sums ≡ total_of c.args.self.now.sums = ap (λ (s : InclusiveCosts). total_of s.sums) c.self.view_is in
    record { small = omega (arith, most, same, held, c.requires.sum) }
