use Rattle.cost_exports.proofs.CsvReadLemmas.{csv-read}
use Rattle.cost_exports.proofs.laws.csv_texts_read_back.Goals as goal

pub returns : goal.returns
returns c = csv-read
