use Rattle.text_pieces.proofs.ReadersLemmas.{handed_first}
use Rattle.folded_reader.specs.Files.{stacks_from}
use Rattle.folded_reader.specs.Lines.{reading_of}
use Rattle.folded_reader.specs.Looking.{adds}
use Rattle.folded_reader.proofs.ExactLemmas.{exact-stacks}
use Rattle.folded_reader.proofs.laws.handed_on_at_each_moment.Goals as goal

pub returns-clause-exact : goal.returns-clause-exact
returns-clause-exact c = λ r text told reads. reads.handed

pub returns-clause-prefix : goal.returns-clause-prefix
returns-clause-prefix c = λ r text bytes told reads. handed_first reading_of (stacks_from 1) adds exact-stacks text bytes told reads.handed
