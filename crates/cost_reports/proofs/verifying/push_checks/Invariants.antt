use Rattle.std.proofs.Common.{◌≡◌, ◌++◌, drop, map}
use Rattle.report_texts.specs.Verifying.{check_lines}
use Rattle.cost_reports.specs.Rows.{plain_check}
use Rattle.cost_reports.proofs.verifying.push_checks.Given as goal

-- the lines so far, and those to come
abbrev pub invariant-loop-check : goal.invariant-loop-check
invariant-loop-check l =
    l.text.items ++ check_lines l.run (map plain_check (drop l.check-index l.checks))
    ≡ l.initial.text.items ++ check_lines l.run (map plain_check l.checks)
