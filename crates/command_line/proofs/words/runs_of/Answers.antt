use Rattle.std.proofs.Common.{ℕ, List, [], ◌∷◌, ◌++◌, map, refl, subst, take, ap, sym, All, ◌∙◌}
use Rattle.std.proofs.lemmas.List.{map_more, take_all}
use Rattle.std.proofs.lemmas.List.Elements.{All-push}
use Rattle.std.proofs.lemmas.Result.{err_from_is_err_and}
use Rattle.std.specs.Borrow.{Bor}
use Rattle.command_line.specs.Plans.{IsRunNumber, SaysRun, number_of}
use Rattle.command_line.proofs.PlansLemmas.{all_more}
use Rattle.command_line.proofs.words.runs_of.Goals as goal

abbrev said : Bor (List ℕ) → ℕ
said text = number_of text.now

abbrev SaysOne : Bor (List ℕ) → Type 0
SaysOne text = SaysRun text.now

pub loop-text-preserved : goal.loop-text-preserved
loop-text-preserved c =
    let number = c.in-Some.number in
    let before = c.loop-text.numbers.items in
    let texts = c.args.texts.now in
    record {
      range = rw c.in_ok-push.ensures.items (All-push IsRunNumber before number c.loop-text.invariant.range (rw c.in-Some.ensures.value (c.in-Some.ensures.one.0 refl).1));
      value = c.in_ok-push.ensures.items ∙ ap (λ numbers. numbers ++ number ∷ []) c.loop-text.invariant.value
          ∙ ap (λ n. map said (take c.loop-text.text-index texts) ++ n ∷ []) c.in-Some.ensures.value ∙ sym (map_more said texts c.loop-text.text-index _ c.loop-text-test.true);
      said = all_more SaysOne texts c.loop-text.text-index _ c.loop-text-test.true c.loop-text.invariant.said (c.in-Some.ensures.one.0 refl);
    }

pub returns-clause-range : goal.returns-clause-range
returns-clause-range c = rw c.from_vec.ensures c.loop-text.invariant.range

pub returns-in_err-push-clause-value : goal.returns-in_err-push-clause-value
returns-in_err-push-clause-value c =
    let end = err_from_is_err_and c.from_residual.result c.from_residual.ensures.1 in
    rw end.1 tt

pub returns-clause-all : goal.returns-clause-all
returns-clause-all c = ((λ some. subst (All SaysOne) (take_all c.loop-text.text-index c.args.texts.now c.loop-text-test.false) c.loop-text.invariant.said), (λ all. refl))
