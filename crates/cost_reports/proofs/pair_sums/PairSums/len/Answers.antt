use Rattle.std.proofs.Common.{List, length, sym, ap, ◌∙◌}
use Rattle.cost_rows.proofs.SeenLemmas.{length-seen}
use Rattle.cost_rows.specs.Sums.{Spot}
use Rattle.cost_rows.specs.Keys.{lent_place}
use Rattle.report_texts.specs.declared.pairs.Pair.{Pair}
use Rattle.cost_reports.proofs.pair_sums.PairSums.len.Goals as goal

pub returns : goal.returns
returns c = c.len.ensures.len ∙ sym (length-seen lent_place c.self.inside.sums.entries) ∙ ap (λ (sums : List (Spot × Pair)). length sums) c.self.view_is
