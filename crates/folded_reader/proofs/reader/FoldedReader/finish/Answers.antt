use Rattle.std.proofs.Common.{sym, ◌∙◌}
use Rattle.text_pieces.proofs.ReadersLemmas.{hands_all, part_none, stands_at_end}
use Rattle.folded_reader.specs.Lines.{reading_of}
use Rattle.folded_reader.specs.Files.{stacks_from, readings_of}
use Rattle.folded_reader.specs.Looking.{adds}
use Rattle.folded_reader.proofs.ExactLemmas.{exact-fault, exact-stacks}
use Rattle.folded_reader.proofs.reader.FoldedReader.finish.Goals as goal

pub returns-in-Err-clause-told : goal.returns-in-Err-clause-told
returns-in-Err-clause-told g c = λ text told reads.
    part_none reading_of (stacks_from 1) adds exact-stacks g.S.StackSink.step text told _ _ reads.handed c.in-Err.ensures.err

pub returns-in-Some-clause-ended : goal.returns-in-Some-clause-ended
returns-in-Some-clause-ended g c = λ text told reads.
    let represents = stands_at_end _ (stacks_from 1) exact-stacks c.args.self.pieces c.args.self.state c.args.sink.now _ _ text told c.in-Ok.ensures.ends reads in
    exact-fault (readings_of text) ∙ sym represents.fault ∙ c.in-Some.is

pub returns-in-Some-clause-told : goal.returns-in-Some-clause-told
returns-in-Some-clause-told g c = λ text told reads. hands_all _ (stacks_from 1) exact-stacks c.args.self.pieces c.args.self.state c.args.sink.now _ _ text told c.in-Ok.ensures.ends reads

pub returns-in-None-clause-ended : goal.returns-in-None-clause-ended
returns-in-None-clause-ended g c = λ text told reads.
    let represents = stands_at_end _ (stacks_from 1) exact-stacks c.args.self.pieces c.args.self.state c.args.sink.now _ _ text told c.in-Ok.ensures.ends reads in
    (exact-fault (readings_of text) ∙ sym represents.fault ∙ c.in-None.is, c.args.self.samples)

pub returns-in-None-clause-told : goal.returns-in-None-clause-told
returns-in-None-clause-told g c = λ text told reads. hands_all _ (stacks_from 1) exact-stacks c.args.self.pieces c.args.self.state c.args.sink.now _ _ text told c.in-Ok.ensures.ends reads
