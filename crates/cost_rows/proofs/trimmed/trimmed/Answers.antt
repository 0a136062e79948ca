use Rattle.std.proofs.Common.{◌≡◌, [], ◌∷◌, ◌++◌, sym, ap, ◌∙◌, arith}
use Rattle.cost_rows.specs.Trimmed.{trimmed}
use Rattle.cost_rows.proofs.TrimmedLemmas.{not_zero, trimmed-some, trimmed-zero}
use Rattle.cost_rows.proofs.trimmed.trimmed.Goals as goal

pub returns-then-last-gt0 : goal.returns-then-last-gt0
returns-then-last-gt0 c =
    let whole : c.loop-last.rest.now ≡ c.in-Some.front.now ++ c.in-Some.last.now ∷ [] = c.in-Some.ensures.cases.0 in
    whole ∙ sym (trimmed-some c.in-Some.front.now c.in-Some.last.now (not_zero c.in-Some.last.now c.if-last-gt0.true)) ∙ ap trimmed (sym whole) ∙ c.loop-last.invariant

pub loop-last-preserved : goal.loop-last-preserved
loop-last-preserved c =
    let whole : c.loop-last.rest.now ≡ c.in-Some.front.now ++ c.in-Some.last.now ∷ [] = c.in-Some.ensures.cases.0 in
    let none : c.in-Some.last.now ≡ 0 = omega (arith, c.if-last-gt0.false) in
    sym (trimmed-zero c.in-Some.front.now) ∙ ap (λ n. trimmed (c.in-Some.front.now ++ n ∷ [])) (sym none) ∙ ap trimmed (sym whole) ∙ c.loop-last.invariant
