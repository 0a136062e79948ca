use Rattle.std.proofs.Common.{◌≡◌, ◌++◌, drop, map}
use Rattle.report_texts.specs.Verifying.{checks_from}
use Rattle.cost_reports.specs.Rows.{plain_check}
use Rattle.cost_reports.proofs.verifying.checks_of.Given as goal

-- the checks so far, and those to come
abbrev pub invariant-loop-k : goal.invariant-loop-k
invariant-loop-k l = map plain_check l.checks.items ++ checks_from l.sums l.stated l.k (drop l.k l.events) ≡ checks_from l.sums l.stated 0 l.events
