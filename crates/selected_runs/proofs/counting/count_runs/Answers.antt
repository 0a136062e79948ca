use Rattle.std.proofs.Common.{◌≡◌, [], ◌++◌, subst, sym, ap, ◌∙◌, rules}
use Rattle.selected_runs.specs.Counted.{AreCounted}
use Rattle.histories.proofs.Questions.{if_ok_so}
use Rattle.selected_runs.proofs.CountedLemmas.{counted_added}
use Rattle.selected_runs.proofs.counting.count_runs.Goals as goal

pub returns-clause-told : goal.returns-clause-told
returns-clause-told g c clean t represents =
    let event = c.args.event.now in
    let numbers = c.args.numbers.now in
    let none : c.new.result.items ≡ [] = search rules in
    if_ok_so c.fold_runs.result (λ runs added.
    let all = counted_added (λ (v : _). v.items) t event numbers _ runs added in
    subst (AreCounted t event numbers) (sym (all.2 ∙ ap (λ l. l ++ all.0) none)) all.1) (c.fold_runs.ensures.told clean t represents)
