use Rattle.std.proofs.Common.{ap, ◌∙◌}
use Rattle.run_lists.specs.RunLines.{lines_of_run}
use Rattle.run_lists.proofs.LinesOfRuns.{left_out_twice}
use Rattle.run_lists.proofs.run_lines.RunLines.of_run.Goals as goal

pub returns-then-self-clause-all : goal.returns-then-self-clause-all
returns-then-self-clause-all g c =
    let of = g.L.OfRun.run_of in
    let found = c.lines_of.ensures ∙ ap (lines_of_run of c.args.run) c.deref.ensures.value in
    ap (lines_of_run of c.args.run) found ∙ left_out_twice of c.args.run c.self.inside.lines.items ∙ ap (lines_of_run of c.args.run) c.self.view_is
