use Rattle.std.proofs.Common.{◌∙◌, ◌+◌, [], ◌∷◌, length, length-append, sym, ap}
use Rattle.run_lists.specs.HeldCalls.{lines_from}
use Rattle.run_lists.proofs.CallRows.{zero_more}
use Rattle.run_lists.proofs.Steps.{no_err}
use Rattle.run_lists.proofs.call_rows.fill.Goals as goal

pub columns-preserved : goal.columns-preserved
columns-preserved c =
    let pushed = no_err c.push.result (sym c.is_err.ensures.value ∙ c.if-is_err.false) c.push.ensures.ok in
    (λ first part. ap (lines_from first part) pushed ∙ zero_more first part c.columns.costs ∙ c.columns.invariant.0 first part, ap length pushed ∙ length-append c.columns.costs (0 ∷ []) ∙ ap (λ n. n + 1) c.columns.invariant.1)
