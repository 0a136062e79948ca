use Rattle.std.proofs.Common.{sym, ◌∙◌}
use Rattle.cost_reports.proofs.StepLemmas.{comes_first, comes_second, comes_of_both, comes_last, comes_last_of_second}
use Rattle.cost_reports.proofs.differences.next_of.Goals as goal

pub returns-in-Less : goal.returns-in-Less
returns-in-Less c firsts seconds one two =
    let m = c.in-Some-Some in
    comes_first c.args.first c.args.second firsts seconds one two c.alone.result m.first m.second m.is-0 m.is-1 (sym c.cmp.ensures ∙ c.in-Less.is) c.alone.ensures

pub returns-in-Greater : goal.returns-in-Greater
returns-in-Greater c firsts seconds one two =
    let m = c.in-Some-Some in
    comes_second c.args.first c.args.second firsts seconds one two c.alone-in-Greater.result m.first m.second m.is-0 m.is-1 (sym c.cmp.ensures ∙ c.in-Greater.is) c.alone-in-Greater.ensures

pub returns-in-Equal : goal.returns-in-Equal
returns-in-Equal c firsts seconds one two =
    let m = c.in-Some-Some in
    comes_of_both c.args.first c.args.second firsts seconds one two m.first m.second m.is-0 m.is-1 (sym c.cmp.ensures ∙ c.in-Equal.is)

pub returns-in-Some-None : goal.returns-in-Some-None
returns-in-Some-None c firsts seconds one two =
    comes_last c.args.first c.args.second firsts seconds one two c.alone-in-Some-None.result c.in-Some-None.first c.in-Some-None.is-0 c.in-Some-None.is-1 c.alone-in-Some-None.ensures

pub returns-in-None-Some : goal.returns-in-None-Some
returns-in-None-Some c firsts seconds one two =
    comes_last_of_second c.args.first c.args.second firsts seconds one two c.alone-in-None-Some.result c.in-None-Some.second c.in-None-Some.is-0 c.in-None-Some.is-1 c.alone-in-None-Some.ensures
