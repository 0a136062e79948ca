use Rattle.std.proofs.Common.{rules, ◌≡◌, ◌+◌, ◌<◌, ◌-◌, length, take, drop, Err, sym, ap, ◌∙◌, arith}
use Rattle.std.proofs.lemmas.List.{take_all, length-drop}
use Rattle.folded_reader.specs.Lines.{behind_blank, count_of}
use Rattle.folded_reader.specs.Views.{said_is}
use Rattle.folded_reader.proofs.LineLemmas.{no-count}
use Rattle.folded_reader.proofs.stacks.text_says.Goals as goal

pub returns-in_err-count-in-Some-clause-says : goal.returns-in_err-count-in-Some-clause-says
returns-in_err-count-in-Some-clause-says c =
    let text = c.args.text.now in
    let same : c.from_residual.result ≡ Err c.in_err-count-in-Some.field-0.0 = search rules in
    let within : c.in-Some.end < length text = search rules in
    let behind : c.in-Some.end + 1 + behind_blank text ≡ length text = search rules in
    let some : c.in-Some.end ≡ 0 → ⊥ = search rules in
    let rest = length-drop (c.in-Some.end + 1) text in
    let whole : take (length text - (c.in-Some.end + 1)) (drop (c.in-Some.end + 1) text) ≡ drop (c.in-Some.end + 1) text = take_all _ _ (omega (arith, rest)) in
    let none : count_of (drop (c.in-Some.end + 1) text) ≡ Err c.in_err-count-in-Some.field-0.0 = ap count_of (sym whole) ∙ sym c.in_err-count-in-Some.ensures.value in
    ap said_is same ∙ no-count text c.in-Some.end c.in_err-count-in-Some.field-0.0 within some behind none
