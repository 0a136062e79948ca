use Rattle.clap.specs.Words.{found_of}
use Rattle.command_line.proofs.PlansLemmas.{flag_found}
use Rattle.command_line.proofs.words.is_given.Goals as goal

pub returns : goal.returns
returns c = flag_found (found_of c.args.words.now) c.args.id.now c.get_flag.result c.get_flag.ensures.none c.get_flag.ensures.value c.get_flag.ensures.other
