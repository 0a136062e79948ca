use Rattle.std.proofs.Common.{◌≡◌, ◌-◌, ◌∙◌, ◌++◌, replicate, length, vec_len, ap, take, arith}
use Rattle.std.proofs.lemmas.List.{take_all}
use Rattle.profile_records.specs.Columns.{added}
use Rattle.profile_records.proofs.ColumnsLemmas.{added-widened}
use Rattle.profile_records.proofs.columns.widen.Goals as goal

pub returns-in_ok-resize-clause-sums : goal.returns-in_ok-resize-clause-sums
returns-in_ok-resize-clause-sums c =
    let sums = c.args.sums.now.items in
    let costs = c.args.costs.now in
    let missing = length costs - vec_len c.args.sums.now in
    let now : c.resize.new.self.items ≡ take (length costs) sums ++ replicate missing 0 = c.in_ok-resize.ensures.items in
    ap (λ s. added s costs) (now ∙ ap (λ s. s ++ replicate missing 0) (take_all (length costs) sums (omega arith)))
    ∙ added-widened sums costs missing (omega arith)
