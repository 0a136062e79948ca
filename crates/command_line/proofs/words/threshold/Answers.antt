use Rattle.std.proofs.Common.{codes}
use Rattle.clap.specs.Words.{found_of, rows_of}
use Rattle.command_line.proofs.PlansLemmas.{above_most, no_option_read, option_read, within_byte}
use Rattle.command_line.proofs.words.threshold.Goals as goal

pub returns-in-Some-clause-number : goal.returns-in-Some-clause-number
returns-in-Some-clause-number c = option_read 8 (found_of c.args.words.now) (codes "threshold") c.in-Some.percent c.in-Some.ensures.none c.in-Some.ensures.value

pub returns-in_default-clause-none : goal.returns-in_default-clause-none
returns-in_default-clause-none c =
    let read = option_read 8 (found_of c.args.words.now) (codes "threshold") c.in-Some.percent c.in-Some.ensures.none c.in-Some.ensures.value in
    above_most (rows_of (found_of c.args.words.now)) (codes "threshold") 100 c.in-Some.percent read c.if-percent-le-MAX_PERCENT.false

pub returns-in_default-2-clause-none : goal.returns-in_default-2-clause-none
returns-in_default-2-clause-none c = λ percent p. no_option_read 8 (found_of c.args.words.now) (codes "threshold") percent (within_byte percent p.0) c.in_default.ensures.value p.1
