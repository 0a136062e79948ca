use Rattle.std.proofs.Common.{◌++◌, ℕ, List, MatchResult, ap, subst, ◌∙◌, append_assoc}
use Rattle.byte_io.specs.Gone.{IsOn}
use Rattle.byte_io.specs.Sinks.{HasStopped}
use Rattle.byte_io.proofs.OnLemmas.{part_of, passed}
use Rattle.byte_io.proofs.gathering.put_part.Goals as goal

pub returns-in_err-put : goal.returns-in_err-put
returns-in_err-put g c from text on =
    let bytes = c.deref.result.now in
    let name = c.args.part.now.name.value.items in
    passed c.from_residual.result _ _ _ c.from_residual.ensures.1
    (part_of g.W.TextSink.takes from g.W.TextSink.stops c.put.new.out (text ++ bytes) name (text ++ (c.args.part.now.bytes.items ++ name))
    (append_assoc text bytes name ∙ ap (λ l. text ++ (l ++ name)) c.deref.ensures.value) (c.in_err-put.ensures from text on))

pub returns : goal.returns
returns g c from text on =
    let bytes = c.deref.result.now in
    let name = c.deref-2.result.now in
    let held = c.put-2.new.held.items in
    let to = c.put-2.new.out in
    subst (λ (l : List ℕ). MatchResult c.put-2.result (λ x. IsOn g.W.TextSink.takes from held to l) (λ x. HasStopped g.W.TextSink.takes g.W.TextSink.stops from l to))
    (append_assoc text bytes name ∙ ap (λ l. text ++ (l ++ name)) c.deref.ensures.value ∙ ap (λ l. text ++ (c.args.part.now.bytes.items ++ l)) (c.deref-2.ensures.value ∙ ap (λ v. v.items) c.as_ref.ensures))
    (c.put-2.ensures from (text ++ bytes) (c.in_ok-put.ensures from text on))
