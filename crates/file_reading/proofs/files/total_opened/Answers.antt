use Rattle.std.proofs.Common.{ap, ◌∙◌}
use Rattle.file_reading.proofs.ReadersLemmas.{answer_known}
use Rattle.file_reading.proofs.files.total_opened.Goals as goal

pub returns : goal.returns
returns g c = λ text known.
    let read = c.total_read.ensures in
    answer_known (λ o. g.F.Read.remaining o.file) c.new-source.result c.total_read.new.source read.0 text (ap g.F.Read.remaining c.new-source.ensures ∙ known) read.1 c.total_read.result read.2
