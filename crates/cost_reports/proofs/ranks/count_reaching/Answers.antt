use Rattle.std.proofs.Common.{◌++◌, take, drop, sym, ap, ◌∙◌}
use Rattle.std.proofs.lemmas.List.{append-nil}
use Rattle.cost_reports.specs.Rows.{plain_rows}
use Rattle.cost_reports.proofs.CutLemmas.{reached}
use Rattle.cost_reports.proofs.ranks.count_reaching.Goals as goal

pub returns-then-before-need : goal.returns-then-before-need
returns-then-before-need c =
    let none = reached c.args.need c.loop-k.before (plain_rows (drop c.loop-k.k c.args.rows.now)) c.if-before-need.true in
    sym (append-nil (plain_rows (take c.loop-k.k c.args.rows.now)))
    ∙ ap (λ more. plain_rows (take c.loop-k.k c.args.rows.now) ++ more) (sym none)
    ∙ c.loop-k.invariant.found
