use Rattle.std.proofs.Common.{[]}
use Rattle.cg_text.specs.Readings.{reading_of}
use Rattle.text_pieces.proofs.ReadersLemmas.{handed_first}
use Rattle.callgrind_reader.specs.Accept.{adds}
use Rattle.callgrind_reader.specs.Files.{sound_records}
use Rattle.callgrind_reader.proofs.ExactLemmas.{exact-records}
use Rattle.callgrind_reader.proofs.laws.handed_on_at_each_moment.Goals as goal

pub returns-clause-exact : goal.returns-clause-exact
returns-clause-exact c = λ r text told reads. reads.handed

pub returns-clause-prefix : goal.returns-clause-prefix
returns-clause-prefix c = λ r text bytes told reads. handed_first reading_of (sound_records []) adds exact-records text bytes told reads.handed
