use Rattle.std.proofs.Common.{◌≡◌, ◌∙◌, ◌++◌, ◌∷◌, [], length, sym, ap, ap₂}
use Rattle.run_stores.specs.HeldHeads.{placed}
use Rattle.run_lists.specs.HeadLines.{event_place}
use Rattle.std.proofs.lemmas.List.{map_more}
use Rattle.run_lists.proofs.HeadReading.{at_place, placed-one_more}
use Rattle.std.proofs.lemmas.Result.{err_from_is_err_and}
use Rattle.run_lists.proofs.HeadServed.{next_place}
use Rattle.run_lists.proofs.Steps.{no_err}
use Rattle.run_lists.proofs.heads_held.event_names.Goals as goal

pub lines-preserved : goal.lines-preserved
lines-preserved c =
    let names = c.lines.names in
    let name = c.in_ok-name.name in
    let line = c.line-item.result in
    let pushed : c.push.new.self ≡ names ++ name ∷ [] = no_err c.push.result (sym c.is_err.ensures.value ∙ c.if-is_err.false) c.push.ensures.ok in
    let one : event_place line ≡ at_place (length names) name = ap₂ at_place (c.in_ok-name.ensures.read.0 ∙ c.len.ensures) (sym (c.in_ok-name.ensures.read.1 ∙ c.deref.ensures.value)) in
    map_more event_place c.args.lines.now c.lines.line-index line c.lines-test.true ∙ ap₂ (λ l x. l ++ event_place x ∷ []) c.lines.invariant (sym c.line-item.is) ∙ ap (λ p. placed 0 names ++ p ∷ []) one ∙ sym (placed-one_more names name) ∙ sym (ap (placed 0) pushed)

pub returns-in_err-name-clause-serves : goal.returns-in_err-name-clause-serves
returns-in_err-name-clause-serves c = λ names are.
    let p = err_from_is_err_and c.from_residual.result c.from_residual.ensures.1 in
    let next = next_place event_place c.args.lines.now names c.lines.names c.lines.line-index c.line-item.result are c.lines.invariant c.lines-test.true c.line-item.is in
    rw (p.1, p.2) (c.in_err-name.ensures.serves (next ∙ sym c.len.ensures))
