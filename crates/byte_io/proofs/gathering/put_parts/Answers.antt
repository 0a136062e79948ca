use Rattle.std.proofs.Common.{◌<◌, ◌+◌, ◌++◌, ℕ, List, drop, flat_map, length, sym, ap, subst, ◌∙◌, append_assoc, append-nil, arith}
use Rattle.std.proofs.lemmas.List.{drop_all}
use Rattle.byte_io.specs.Gone.{IsOn}
use Rattle.byte_io.specs.Parts.{part_text}
use Rattle.byte_io.proofs.OnLemmas.{drop_at, part_of, passed}
use Rattle.byte_io.proofs.gathering.put_parts.Goals as goal

pub loop-part-preserved : goal.loop-part-preserved
loop-part-preserved g c from text on =
    let parts = c.args.parts.now in
    let at = c.loop-part.part-index in
    let part = c.part-item.result in
    let within : at < length parts = omega arith in
    let was = c.loop-part.invariant from text on in (
      was.0 ++ part_text part,
      c.in_ok-put_part.ensures from was.0 was.1,
      append_assoc was.0 (part_text part) (flat_map part_text (drop (at + 1) parts)) ∙ ap (λ more. was.0 ++ flat_map part_text more) (sym (drop_at parts at part within c.part-item.is)) ∙ was.2,
    )

pub returns-in_err-put_part : goal.returns-in_err-put_part
returns-in_err-put_part g c from text on =
    let parts = c.args.parts.now in
    let at = c.loop-part.part-index in
    let part = c.part-item.result in
    let within : at < length parts = omega arith in
    let was = c.loop-part.invariant from text on in
    let more = flat_map part_text (drop (at + 1) parts) in
    let same = append_assoc was.0 (part_text part) more ∙ ap (λ more. was.0 ++ flat_map part_text more) (sym (drop_at parts at part within c.part-item.is)) ∙ was.2 in
    passed c.from_residual.result _ _ _ c.from_residual.ensures.1
    (part_of g.W.TextSink.takes from g.W.TextSink.stops c.put_part.new.out (was.0 ++ part_text part) more (text ++ flat_map part_text parts) same (c.in_err-put_part.ensures from was.0 was.1))

pub returns : goal.returns
returns g c from text on =
    let parts = c.args.parts.now in
    let was = c.loop-part.invariant from text on in
    let none = drop_all c.loop-part.part-index parts (omega arith) in
    subst (λ (l : List ℕ). IsOn g.W.TextSink.takes from c.loop-part.held.items c.loop-part.out l)
    (sym (append-nil was.0) ∙ ap (λ more. was.0 ++ flat_map part_text more) (sym none) ∙ was.2) was.1
