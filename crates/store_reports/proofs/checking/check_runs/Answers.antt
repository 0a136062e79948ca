use Rattle.std.proofs.Common.{◌≡◌, [], ◌++◌, subst, sym, ap, ◌∙◌, rules}
use Rattle.run_stores.proofs.Calls.{asked_reads}
use Rattle.store_reports.specs.Checked.{AreChecked}
use Rattle.store_reports.proofs.CheckLemmas.{lines_added}
use Rattle.store_reports.proofs.checking.check_runs.Goals as goal

pub returns-clause-told : goal.returns-clause-told
returns-clause-told g c clean t represents =
    let numbers = c.args.numbers.now in
    let early = (c.in_ok-text.ensures.asks clean).stays.was_faithful in
    let mid = asked_reads g.S.StoreState t _ _ (c.in_ok-names.ensures.asks early) represents in
    let none : c.new.result.items ≡ [] = search rules in
    let text : c.from_vec.result ≡ c.in_ok-text.text.items = search rules in
    let all = lines_added (λ (v : _). v.items) t (c.in_ok-names.ensures.told early t represents) numbers _ _ (c.in_ok-text.ensures.told clean t mid) in
    subst (AreChecked t numbers) (sym (c.from_list.ensures ∙ text ∙ all.2 ∙ ap (λ l. l ++ all.0) none)) all.1
