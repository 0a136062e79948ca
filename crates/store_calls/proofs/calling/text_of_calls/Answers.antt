use Rattle.std.proofs.Common.{ap, ◌∙◌}
use Rattle.report_texts.specs.Calls.{call_report_of, call_report_text}
use Rattle.store_calls.proofs.calling.text_of_calls.Goals as goal

pub returns-clause-told : goal.returns-clause-told
returns-clause-told g c clean t represents =
    c.in_ok-text.ensures
    ∙ ap (λ sums. call_report_text c.args.event.now (call_report_of sums)) (c.in_ok-sums.ensures t.names (c.in_ok-names.ensures.told clean t represents).same)
