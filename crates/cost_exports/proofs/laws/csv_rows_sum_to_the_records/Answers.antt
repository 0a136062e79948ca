use Rattle.cost_exports.proofs.ColumnLemmas.{csv-records}
use Rattle.cost_exports.proofs.laws.csv_rows_sum_to_the_records.Goals as goal

pub returns : goal.returns
returns c = csv-records
