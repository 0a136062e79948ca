use Rattle.std.proofs.Common.{fold, ap, ◌∙◌}
use Rattle.report_texts.specs.Folded.{folded_text, with_stack}
use Rattle.store_reports.specs.FoldedRuns.{stacks_over}
use Rattle.store_reports.proofs.FoldedLemmas.{stacks_added}
use Rattle.store_reports.proofs.folded_writing.text_of_runs.Goals as goal

pub returns-clause-told : goal.returns-clause-told
returns-clause-told g c clean t represents =
    let numbers = c.args.numbers.now in
    let all = stacks_added (λ (r : _). r.sums) t numbers _ _ (c.in_ok-all.ensures.told clean t represents) in
    c.in_ok-stacks_text.ensures.text ∙ ap folded_text (all ∙ ap (λ sums. fold with_stack sums (stacks_over t numbers)) c.new.ensures)
