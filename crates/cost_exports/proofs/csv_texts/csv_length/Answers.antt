use Rattle.std.proofs.Common.{◌≤◌, subst, ◌∙◌}
use Rattle.report_texts.specs.Csv.{csv_text}
use Rattle.cost_exports.proofs.HeldLemmas.{counted_all, counted_from_none}
use Rattle.cost_exports.proofs.csv_texts.csv_length.Goals as goal

pub returns-in-Ok-clause-length : goal.returns-in-Ok-clause-length
returns-in-Ok-clause-length c = c.len.ensures.count ∙ counted_from_none c.new-text.result (csv_text c.args.sums.now) c.write_csv.new.out c.new-text.ensures.count c.in-Ok.ensures.whole

pub returns-in-Ok-clause-short : goal.returns-in-Ok-clause-short
returns-in-Ok-clause-short c =
    let all = counted_all c.new-text.result (csv_text c.args.sums.now) c.write_csv.new.out c.in-Ok.ensures.whole in
    subst (λ n. c.len.result ≤ n) (all.1 ∙ c.new-text.ensures.most) c.len.ensures.short
