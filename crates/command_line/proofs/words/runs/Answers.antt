use Rattle.clap.specs.Words.{found_of, rows_of}
use Rattle.command_line.proofs.PlansLemmas.{no_runs_found, no_runs_named, numbers_found}
use Rattle.command_line.proofs.words.runs.Goals as goal

pub returns-in-Some-clause-numbers : goal.returns-in-Some-clause-numbers
returns-in-Some-clause-numbers c =
    numbers_found (rows_of (found_of c.args.words.now)) c.in-Some.texts.now c.runs_of.result c.in-Some.ensures.words c.runs_of.ensures.value c.runs_of.ensures.all

pub returns-in-Some-clause-none : goal.returns-in-Some-clause-none
returns-in-Some-clause-none c = no_runs_found (rows_of (found_of c.args.words.now)) c.in-Some.texts.now c.runs_of.result c.in-Some.ensures.words c.runs_of.ensures.all

pub returns-in-None-clause-none : goal.returns-in-None-clause-none
returns-in-None-clause-none c = no_runs_named (rows_of (found_of c.args.words.now)) c.in-None.ensures.none
