use Rattle.std.proofs.Common.{codes}
use Rattle.clap.specs.Words.{found_of}
use Rattle.command_line.specs.Plans.{IsLimit}
use Rattle.command_line.proofs.PlansLemmas.{limit_fits, no_option_tried, option_tried}
use Rattle.command_line.proofs.words.limit.Goals as goal

pub returns-clause-number : goal.returns-clause-number
returns-clause-number c = rw c.ok.ensures.value (option_tried 32 (found_of c.args.words.now) (codes "limit") c.try_get_one.result c.try_get_one.ensures.none c.try_get_one.ensures.value)

pub returns-clause-none : goal.returns-clause-none
returns-clause-none c = rw c.ok.ensures.value (no_option_tried 32 IsLimit (found_of c.args.words.now) (codes "limit") c.try_get_one.result limit_fits c.try_get_one.ensures.none c.try_get_one.ensures.value)
