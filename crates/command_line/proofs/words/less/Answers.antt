use Rattle.clap.specs.Words.{found_of, rows_of}
use Rattle.command_line.proofs.PlansLemmas.{nothing_less, on_none}
use Rattle.command_line.proofs.words.less.Goals as goal

pub returns-in_err-selection_by-clause-none : goal.returns-in_err-selection_by-clause-none
returns-in_err-selection_by-clause-none c = on_none c.from_residual.result _ c.from_residual.ensures (nothing_less (rows_of (found_of c.args.words.now)) c.in_err-selection_by.ensures.none)
