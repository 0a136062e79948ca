use Rattle.cost_exports.proofs.KnownLemmas.{known-records}
use Rattle.cost_exports.proofs.laws.files_are_known_by_their_rows.Goals as goal

pub returns : goal.returns
returns c = known-records
