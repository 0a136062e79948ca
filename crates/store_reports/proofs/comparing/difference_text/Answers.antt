use Rattle.std.proofs.Common.{ap, ap₂, ◌∙◌}
use Rattle.run_stores.proofs.Calls.{asked_reads_yet}
use Rattle.report_texts.specs.Differences.{difference_of, difference_text}
use Rattle.histories.proofs.Questions.{if_ok_so}
use Rattle.store_reports.specs.Compared.{named_sums}
use Rattle.store_reports.proofs.MergeLemmas.{key_is, named_costs}
use Rattle.store_reports.proofs.comparing.difference_text.Goals as goal

pub returns-in-Ok-clause-told : goal.returns-in-Ok-clause-told
returns-in-Ok-clause-told g c clean t represents =
    let key = c.args.key in
    let firsts = c.args.firsts.now in
    let seconds = c.args.seconds.now in
    let later = (c.text_of_both-text.ensures.asks clean).stays.was_faithful in
    let early = (c.in-Ok.ensures.asks later).stays.was_faithful in
    let one = asked_reads_yet g.S.StoreState t _ _ (c.in_ok-first.ensures.asks early) represents in
    let two = asked_reads_yet g.S.StoreState t _ _ (c.in-Ok.ensures.asks later) one in
    let first = c.in_ok-first.first in
    let second = c.in-Ok.second in
    let first_is = c.in_ok-first.ensures.told early t represents in
    let second_is = c.in-Ok.ensures.told later t one in
    let event = c.args.event.now in
    if_ok_so c.text_of_both-text.result (λ text told. told
    ∙ ap (λ k. difference_text event (difference_of k (named_sums t.names first) (named_sums t.names second))) (key_is t key firsts first first_is)
    ∙ ap₂ (λ a b. difference_text event (difference_of key a b)) (named_costs t key firsts first first_is) (named_costs t key seconds second second_is))
    (c.text_of_both-text.ensures.told clean t two)
