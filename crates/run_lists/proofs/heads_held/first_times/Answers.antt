use Rattle.std.proofs.Common.{map, drop, sym, ap, ◌∙◌}
use Rattle.run_lists.specs.HeadLines.{entry_of_coef}
use Rattle.run_lists.proofs.HeadServed.{first_of, first_said}
use Rattle.run_lists.proofs.heads_held.first_times.Goals as goal

pub returns-in-Some-clause-all : goal.returns-in-Some-clause-all
returns-in-Some-clause-all c = λ times row rows said.
    let coefs = c.args.coefs.now in
    let coef = c.in-Some.coef.now in
    first_said c.args.place c.args.event times row rows (entry_of_coef coef) (map entry_of_coef (drop 1 coefs)) (sym (ap (map entry_of_coef) (first_of coefs coef c.in-Some.ensures.value)) ∙ said) c.if-coef-place.true c.if-coef-event.true
