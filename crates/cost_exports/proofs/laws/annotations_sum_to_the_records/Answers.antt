use Rattle.cost_exports.proofs.LineLemmas.{annotation-records}
use Rattle.cost_exports.proofs.laws.annotations_sum_to_the_records.Goals as goal

pub returns : goal.returns
returns c = annotation-records
