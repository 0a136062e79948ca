use Rattle.std.proofs.Common.{[]}
use Rattle.text_pieces.proofs.ReadersLemmas.{goes_on, breaks_off}
use Rattle.callgrind_reader.specs.Files.{sound_records}
use Rattle.callgrind_reader.proofs.ExactLemmas.{exact-records}
use Rattle.callgrind_reader.proofs.reader.Reader.feed.Goals as goal

pub returns-clause-reads : goal.returns-clause-reads
returns-clause-reads g c = goes_on _ (sound_records []) exact-records c.args.self.now.pieces c.args.self.now.state c.args.sink.now c.feed.result _ _ _ c.args.piece.now c.feed.ensures.takes

pub returns-clause-prefix : goal.returns-clause-prefix
returns-clause-prefix g c = breaks_off _ (sound_records []) exact-records c.args.self.now.pieces c.args.self.now.state c.args.sink.now c.feed.result _ _ _ c.args.piece.now c.feed.ensures.takes
