use Rattle.std.proofs.Common.{◌≡◌, ◌-◌, ◌<◌, [], ◌∷◌, ◌++◌, length, take, drop, refl, sym, ap, subst, ◌∙◌, arith}
use Rattle.std.proofs.lemmas.List.{take_rest, length-drop, length-take-le}
use Rattle.std.proofs.Math.Seq.{take-add}
use Rattle.http_exchange.specs.Streams.{Took, Broke, is_stopped}
use Rattle.http_exchange.proofs.Steps.{wrote_on, written_on, any_join, has_taken, cut_at}
use Rattle.http_exchange.proofs.sending.write_all.Goals as goal

pub returns-then-count-eq0 : goal.returns-then-count-eq0
returns-then-count-eq0 g c =
    let was = c.writes.invariant in
    let part = take (length c.args.bytes.now - c.writes.at) (drop c.writes.at c.args.bytes.now) in
    let none : take c.in-Ok.count part ≡ [] = ap (λ n. take n part) c.if-count-eq0.true in (
      was.0 ++ Took [] ∷ [],
      wrote_on g.T.Stream.writes c.args.stream.now c.writes.stream c.write.new.self was.0 (Took []) was.1 (subst (λ l. g.T.Stream.writes c.writes.stream (Took l) c.write.new.self) none c.in-Ok.ensures.went),
      cut_at c.args.bytes.now c.writes.at was.0 (Took []) c.writes-test.true was.2 was.4 refl refl,
    )

pub writes-preserved : goal.writes-preserved
writes-preserved g c =
    let was = c.writes.invariant in
    let part = take (length c.args.bytes.now - c.writes.at) (drop c.writes.at c.args.bytes.now) in
    let piece = take c.in-Ok.count part in
    let rest : part ≡ drop c.writes.at c.args.bytes.now = take_rest c.args.bytes.now c.writes.at in
    let many = ap length rest ∙ length-drop c.writes.at c.args.bytes.now in
    let whole = length-take-le c.in-Ok.count part c.in-Ok.ensures.within in
    let some : 0 < length piece = let not_zero = c.if-count-eq0.false in omega (arith, whole, not_zero) in (
      was.0 ++ Took piece ∷ [],
      wrote_on g.T.Stream.writes c.args.stream.now c.writes.stream c.write.new.self was.0 (Took piece) was.1 c.in-Ok.ensures.went,
      written_on was.0 piece ∙ ap (λ l. l ++ piece) was.2 ∙ ap (λ l. take c.writes.at c.args.bytes.now ++ take c.in-Ok.count l) rest ∙ sym (take-add c.writes.at c.in-Ok.count c.args.bytes.now),
      omega (arith, many, c.in-Ok.ensures.within, was.3),
      any_join is_stopped was.0 (Took piece ∷ []) was.4 (has_taken piece some),
    )

pub returns-in-Err : goal.returns-in-Err
returns-in-Err g c =
    let was = c.writes.invariant in (
      was.0 ++ Broke ∷ [],
      wrote_on g.T.Stream.writes c.args.stream.now c.writes.stream c.write.new.self was.0 Broke was.1 c.in-Err.ensures.went,
      cut_at c.args.bytes.now c.writes.at was.0 Broke c.writes-test.true was.2 was.4 refl refl,
    )
