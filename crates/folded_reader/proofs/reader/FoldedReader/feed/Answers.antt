use Rattle.text_pieces.proofs.ReadersLemmas.{goes_on, breaks_off}
use Rattle.folded_reader.specs.Files.{stacks_from}
use Rattle.folded_reader.proofs.ExactLemmas.{exact-stacks}
use Rattle.folded_reader.proofs.reader.FoldedReader.feed.Goals as goal

pub returns-clause-reads : goal.returns-clause-reads
returns-clause-reads g c = goes_on _ (stacks_from 1) exact-stacks c.args.self.now.pieces c.args.self.now.state c.args.sink.now c.feed.result _ _ _ c.args.piece.now c.feed.ensures.takes

pub returns-clause-prefix : goal.returns-clause-prefix
returns-clause-prefix g c = breaks_off _ (stacks_from 1) exact-stacks c.args.self.now.pieces c.args.self.now.state c.args.sink.now c.feed.result _ _ _ c.args.piece.now c.feed.ensures.takes
