use Rattle.cost_exports.proofs.ReadBackLemmas.{read-back}
use Rattle.cost_exports.proofs.laws.folded_texts_read_back.Goals as goal

pub returns : goal.returns
returns c = read-back
