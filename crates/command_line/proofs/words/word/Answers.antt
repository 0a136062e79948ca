use Rattle.clap.specs.Words.{found_of}
use Rattle.command_line.proofs.PlansLemmas.{word_found, word_missing}
use Rattle.command_line.proofs.words.word.Goals as goal

pub returns-clause-word : goal.returns-clause-word
returns-clause-word c = word_found (found_of c.args.words.now) c.args.id.now c.get_str.result c.get_str.ensures

pub returns-clause-none : goal.returns-clause-none
returns-clause-none c = word_missing (found_of c.args.words.now) c.args.id.now c.get_str.result c.get_str.ensures
