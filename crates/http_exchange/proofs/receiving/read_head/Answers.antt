use Rattle.std.proofs.Common.{◌≡◌, ◌+◌, ◌-◌, ◌<◌, ◌≤◌, [], ◌∷◌, ◌++◌, length, take, refl, sym, ap, subst, ◌∙◌, arith}
use Rattle.std.proofs.lemmas.List.{length-take-le}
use Rattle.byte_io.specs.Outcomes.{Gave, Failed}
use Rattle.byte_io.proofs.Outcomes.{come_on, bytes_on}
use Rattle.http_exchange.specs.Heads.{IsHeadFound}
use Rattle.http_exchange.specs.declared.heads.Head.TheVariants.{Complete}
use Rattle.http_exchange.proofs.Steps.{filled_on, same_room, room_left, left_len}
use Rattle.http_exchange.proofs.HeadLemmas.{await_first, cut_off, ended_early, await_on, bad_head}
use Rattle.http_exchange.proofs.receiving.read_head.Goals as goal

pub reads-init : goal.reads-init
reads-init g c = let limit = c.requires.limit in ([], refl, refl, await_first, omega (arith, limit), c.requires.limit, c.requires.room)

pub returns-in-Err : goal.returns-in-Err
returns-in-Err g c =
    let was = c.reads.invariant in (
      was.0 ++ Failed ∷ [],
      come_on g.T.Stream.reads c.args.stream.now c.reads.stream c.read.new.self was.0 Failed was.1 c.in-Err.ensures.came,
      cut_off was.0 was.3,
    )

pub returns-then-count-eq0 : goal.returns-then-count-eq0
returns-then-count-eq0 g c =
    let was = c.reads.invariant in
    let nothing : take c.in-Ok.count c.read.new.buf ≡ [] = ap (λ n. take n c.read.new.buf) c.if-count-eq0.true in (
      was.0 ++ Gave [] ∷ [],
      come_on g.T.Stream.reads c.args.stream.now c.reads.stream c.read.new.self was.0 (Gave []) was.1 (subst (λ l. g.T.Stream.reads c.reads.stream (Gave l) c.read.new.self) nothing c.in-Ok.ensures.came),
      ended_early was.0 was.3,
    )

pub returns-in-Complete : goal.returns-in-Complete
returns-in-Complete g c =
    let was = c.reads.invariant in
    let piece = take c.in-Ok.count c.read.new.buf in
    let fits : c.reads.filled ≤ length c.reads.buffer = let below = was.4 in omega (arith, below) in
    let all = bytes_on was.0 piece ∙ ap (λ l. l ++ piece) was.2 ∙ sym (filled_on c.reads.filled c.in-Ok.count (length c.reads.buffer - c.reads.filled) c.reads.buffer c.read.new.buf fits c.in-Ok.ensures.within) in
    let room = room_left c.reads.filled c.in-Ok.count c.reads.buffer c.read.new.buf fits c.read.auto.buf c.in-Ok.ensures.within in
    let same = same_room c.reads.filled (length c.reads.buffer - c.reads.filled) c.reads.buffer c.read.new.buf refl fits (c.read.auto.buf ∙ left_len c.reads.filled c.reads.buffer fits) in (
      was.0 ++ Gave piece ∷ [],
      come_on g.T.Stream.reads c.args.stream.now c.reads.stream c.read.new.self was.0 (Gave piece) was.1 c.in-Ok.ensures.came,
      record {
        within = let limit = was.5 in omega (arith, room, limit);
        held = all;
        buffer_kept = same ∙ was.5;
        fields_kept = c.in-Complete.ensures.room;
        found = subst (λ l. IsHeadFound l c.find_head.new.fields (Complete c.in-Complete.spans)) (sym all) c.in-Complete.ensures.found;
        awaited = (was.0, Gave piece, refl, was.3);
      },
    )

pub reads-preserved : goal.reads-preserved
reads-preserved g c =
    let was = c.reads.invariant in
    let piece = take c.in-Ok.count c.read.new.buf in
    let many : length piece ≡ c.in-Ok.count = length-take-le c.in-Ok.count c.read.new.buf c.in-Ok.ensures.within in
    let some : 0 < length piece = let not_zero = c.if-count-eq0.false in omega (arith, many, not_zero) in
    let fits : c.reads.filled ≤ length c.reads.buffer = let below = was.4 in omega (arith, below) in
    let all = bytes_on was.0 piece ∙ ap (λ l. l ++ piece) was.2 ∙ sym (filled_on c.reads.filled c.in-Ok.count (length c.reads.buffer - c.reads.filled) c.reads.buffer c.read.new.buf fits c.in-Ok.ensures.within) in
    let room = room_left c.reads.filled c.in-Ok.count c.reads.buffer c.read.new.buf fits c.read.auto.buf c.in-Ok.ensures.within in
    let same = same_room c.reads.filled (length c.reads.buffer - c.reads.filled) c.reads.buffer c.read.new.buf refl fits (c.read.auto.buf ∙ left_len c.reads.filled c.reads.buffer fits) in
    let filled = length-take-le (c.reads.filled + c.in-Ok.count) _ (subst (λ n. c.reads.filled + c.in-Ok.count ≤ n) (sym same) room) in
    let short = c.in-Unfinished.ensures.found.2 in (
      was.0 ++ Gave piece ∷ [],
      come_on g.T.Stream.reads c.args.stream.now c.reads.stream c.read.new.self was.0 (Gave piece) was.1 c.in-Ok.ensures.came,
      all,
      await_on was.0 was.3 piece _ c.find_head.new.fields all some c.in-Unfinished.ensures.found,
      let limit = same ∙ was.5 in omega (arith, filled, short, limit),
      same ∙ was.5,
      c.in-Unfinished.ensures.room,
    )

pub returns-in-Malformed : goal.returns-in-Malformed
returns-in-Malformed g c =
    let was = c.reads.invariant in
    let piece = take c.in-Ok.count c.read.new.buf in
    let fits : c.reads.filled ≤ length c.reads.buffer = let below = was.4 in omega (arith, below) in
    let all = bytes_on was.0 piece ∙ ap (λ l. l ++ piece) was.2 ∙ sym (filled_on c.reads.filled c.in-Ok.count (length c.reads.buffer - c.reads.filled) c.reads.buffer c.read.new.buf fits c.in-Ok.ensures.within) in (
      was.0 ++ Gave piece ∷ [],
      come_on g.T.Stream.reads c.args.stream.now c.reads.stream c.read.new.self was.0 (Gave piece) was.1 c.in-Ok.ensures.came,
      bad_head was.0 was.3 piece _ c.find_head.new.fields all c.in-Malformed.ensures.found,
    )
