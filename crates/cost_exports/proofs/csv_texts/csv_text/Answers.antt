use Rattle.std.proofs.Common.{◌++◌, ◌≤◌, length, ap, subst, ◌∙◌}
use Rattle.report_texts.specs.Csv.{csv_text}
use Rattle.cost_exports.proofs.HeldLemmas.{held_all}
use Rattle.cost_exports.proofs.csv_texts.csv_text.Goals as goal

pub returns-in-Ok-clause-text : goal.returns-in-Ok-clause-text
returns-in-Ok-clause-text c =
    let all = held_all c.new-text.result (csv_text c.args.sums.now) c.write_csv.new.out c.in-Ok.ensures.whole in
    c.into_text.ensures.text ∙ all.0 ∙ ap (λ l. l ++ csv_text c.args.sums.now) c.new-text.ensures.text

pub returns-in-Ok-clause-short : goal.returns-in-Ok-clause-short
returns-in-Ok-clause-short c =
    let all = held_all c.new-text.result (csv_text c.args.sums.now) c.write_csv.new.out c.in-Ok.ensures.whole in
    subst (λ n. length c.into_text.result ≤ n) (all.1 ∙ c.new-text.ensures.most) c.into_text.ensures.short
