use Rattle.std.proofs.Common.{[]}
use Rattle.cg_text.specs.Readings.{reading_of}
use Rattle.text_pieces.proofs.ReadersLemmas.{hands_all, part_none, stands_at_end, part_of}
use Rattle.callgrind_reader.specs.Accept.{adds}
use Rattle.callgrind_reader.specs.Files.{sound_records, records_of_file, end_of}
use Rattle.callgrind_reader.proofs.EndsLemmas.{ended, either_way}
use Rattle.callgrind_reader.proofs.ExactLemmas.{exact-records}
use Rattle.callgrind_reader.proofs.reader.Reader.finish.Goals as goal

pub returns-in-Ok-clause-ended : goal.returns-in-Ok-clause-ended
returns-in-Ok-clause-ended g c = λ text told reads.
    ended c.head.result text (c.head.ensures.comes (end_of text) (stands_at_end _ (sound_records []) exact-records c.args.self.pieces c.args.self.state c.args.sink.now _ _ text told c.in-Ok.ensures.ends reads))

pub returns-in-Ok-clause-told : goal.returns-in-Ok-clause-told
returns-in-Ok-clause-told g c = λ text told reads.
    let all = hands_all _ (sound_records []) exact-records c.args.self.pieces c.args.self.state c.args.sink.now _ _ text told c.in-Ok.ensures.ends reads in
    either_way c.head.result _ _ all (part_of records_of_file g.S.Sink.step text told _ _ all)

pub returns-in-Err-clause-told : goal.returns-in-Err-clause-told
returns-in-Err-clause-told g c = λ text told reads.
    part_none reading_of (sound_records []) adds exact-records g.S.Sink.step text told _ _ reads.handed c.in-Err.ensures.err
