use Rattle.std.proofs.Common.{◌++◌, [], fold, sym, ◌∙◌, ap, arith}
use Rattle.std.proofs.lemmas.Grind.{fold-append}
use Rattle.std.proofs.lemmas.List.{length-append}
use Rattle.file_reading.specs.Sums.{add_record}
use Rattle.file_reading.specs.Running.{HasTaken}
use Rattle.file_reading.proofs.total.TotalByteSink.feed.Goals as goal

pub returns : goal.returns
returns c = λ form text has.
    let was : HasTaken c.args.self.now text = has in
    let told = was.sums.0 in
    let fed = c.in_ok-feed.ensures.reads text told was.sums.1 in
    let joined = length-append text c.args.piece.now in
    let before = was.room in
    let less = c.in_ok-feed.ensures.stays.room in
    record {
      ready = c.in_ok-feed.ensures.stays.takes;
      sums = (told ++ fed.0, fed.1, fed.2 ∙ ap (λ m. fold add_record m fed.0) was.sums.2 ∙ sym (fold-append add_record [] told fed.0));
      room = omega (arith, joined, before, less);
    }
