use Rattle.std.proofs.Common.{codes}
use Rattle.clap.specs.Words.{found_of}
use Rattle.command_line.specs.Plans.{IsPort}
use Rattle.command_line.proofs.PlansLemmas.{no_option_got, option_got, port_fits}
use Rattle.command_line.proofs.words.port.Goals as goal

pub returns-clause-number : goal.returns-clause-number
returns-clause-number c = option_got 16 (found_of c.args.words.now) (codes "port") c.get_one.result c.get_one.ensures.none c.get_one.ensures.value

pub returns-clause-none : goal.returns-clause-none
returns-clause-none c = no_option_got 16 IsPort (found_of c.args.words.now) (codes "port") c.get_one.result port_fits c.get_one.ensures.value
