use Rattle.std.proofs.Common.{length, sym, ap, ◌∙◌}
use Rattle.cost_rows.specs.KeySums.{Sums}
use Rattle.cost_rows.proofs.SeenLemmas.{length-seen}
use Rattle.cost_rows.specs.Keys.{lent_place}
use Rattle.cost_reports.proofs.lent_sums.LentSums.len.Goals as goal

pub returns : goal.returns
returns c = c.len.ensures.len ∙ sym (length-seen lent_place c.self.inside.sums.entries) ∙ ap (λ (s : Sums). length s.sums) c.self.view_is
