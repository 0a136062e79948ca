use Rattle.std.proofs.Common.{◌≡◌, ◌+◌, ◌-◌, ◌≤◌, [], ◌∷◌, ◌++◌, length, take, sym, ap, subst, ◌∙◌, arith, append-nil}
use Rattle.std.proofs.lemmas.List.{length-take-le}
use Rattle.byte_io.specs.Outcomes.{Gave, Failed, bytes_of}
use Rattle.byte_io.specs.Takes.{HasRoom, Takes}
use Rattle.byte_io.specs.Reads.{IsUnreadFor}
use Rattle.byte_io.specs.declared.reading.Unread.TheVariants as reasons
use Rattle.byte_io.proofs.Outcomes.{passed_on, come_on, bytes_on, left_on, unfailed_on, ended_now, failed_now, too_long_now, takes_on, less_room, room_on}
use Rattle.byte_io.proofs.reading.read_through.Goals as goal

pub feed-requires : goal.feed-requires
feed-requires g c =
    let many : length (take c.in-Ok.count c.read.new.buf) ≡ c.in-Ok.count = length-take-le c.in-Ok.count c.read.new.buf c.in-Ok.ensures.within in
    less_room g.T.ByteSink.has_taken c.reads.takes c.reads.left (length (take c.in-Ok.count c.read.new.buf)) (omega (arith, many, c.if-count-left.false)) c.reads.invariant.room

pub returns-in_default : goal.returns-in_default
returns-in_default g c =
    let was = c.reads.invariant in
    record {
      outcomes = was.outcomes ++ Failed ∷ [];
      came = come_on g.S.Source.reads c.args.source.now c.reads.source c.read.new.self was.outcomes Failed was.came c.in_default.ensures.came;
      read = failed_now c.args.limit c.reads.left was.outcomes was.left was.unfailed;
    }

pub returns-then-count-eq0 : goal.returns-then-count-eq0
returns-then-count-eq0 g c =
    let was = c.reads.invariant in
    let nothing : take c.in-Ok.count c.read.new.buf ≡ [] = ap (λ n. take n c.read.new.buf) c.if-count-eq0.true in
    record {
      outcomes = was.outcomes ++ Gave [] ∷ [];
      came = come_on g.S.Source.reads c.args.source.now c.reads.source c.read.new.self was.outcomes (Gave []) was.came (subst (λ l. g.S.Source.reads c.reads.source (Gave l) c.read.new.self) nothing c.in-Ok.ensures.came);
      read = (
        ended_now c.args.limit c.reads.left was.outcomes was.left was.unfailed,
        subst (λ l. Takes g.T.ByteSink.has_taken c.args.takes.now l c.reads.takes) (sym (bytes_on was.outcomes [] ∙ append-nil (bytes_of was.outcomes))) was.took,
      );
    }

pub returns-then-count-left : goal.returns-then-count-left
returns-then-count-left g c =
    let was = c.reads.invariant in
    let piece = take c.in-Ok.count c.read.new.buf in
    let many : length piece ≡ c.in-Ok.count = length-take-le c.in-Ok.count c.read.new.buf c.in-Ok.ensures.within in
    record {
      outcomes = was.outcomes ++ Gave piece ∷ [];
      came = come_on g.S.Source.reads c.args.source.now c.reads.source c.read.new.self was.outcomes (Gave piece) was.came c.in-Ok.ensures.came;
      read = too_long_now c.args.limit c.reads.left was.outcomes was.left was.unfailed piece (omega (arith, many, c.if-count-left.true));
    }

pub returns-in_err-feed : goal.returns-in_err-feed
returns-in_err-feed g c =
    let was = c.reads.invariant in
    let piece = take c.in-Ok.count c.read.new.buf in
    record {
      outcomes = was.outcomes ++ Gave piece ∷ [];
      came = come_on g.S.Source.reads c.args.source.now c.reads.source c.read.new.self was.outcomes (Gave piece) was.came c.in-Ok.ensures.came;
      read = passed_on c.from_residual.result reasons.Memory _ (IsUnreadFor c.args.limit (was.outcomes ++ Gave piece ∷ [])) c.from_residual.ensures.1 tt;
    }

pub reads-preserved : goal.reads-preserved
reads-preserved g c =
    let was = c.reads.invariant in
    let piece = take c.in-Ok.count c.read.new.buf in
    let many : length piece ≡ c.in-Ok.count = length-take-le c.in-Ok.count c.read.new.buf c.in-Ok.ensures.within in
    let fits : length piece ≤ c.reads.left = omega (arith, many, c.if-count-left.false) in
    record {
      outcomes = was.outcomes ++ Gave piece ∷ [];
      came = come_on g.S.Source.reads c.args.source.now c.reads.source c.read.new.self was.outcomes (Gave piece) was.came c.in-Ok.ensures.came;
      unfailed = unfailed_on c.args.limit c.reads.left was.outcomes was.left was.unfailed piece;
      left = ap (λ n. length (bytes_of (was.outcomes ++ Gave piece ∷ [])) + (c.reads.left - n)) (sym many) ∙ left_on c.args.limit c.reads.left was.outcomes was.left was.unfailed piece fits;
      some = omega (arith, c.read.auto.buf, was.some);
      room =
          subst (λ n. HasRoom g.T.ByteSink.has_taken c.feed.new.self (c.reads.left - n)) many (room_on g.T.ByteSink.has_taken c.reads.takes c.feed.new.self c.reads.left piece fits c.in_ok-feed.ensures was.room);
      took = takes_on g.T.ByteSink.has_taken c.args.takes.now c.reads.takes c.feed.new.self was.outcomes piece was.took c.in_ok-feed.ensures;
    }
