use Rattle.sqlite_format.specs.Cell.{body_key}
use Rattle.page_files.proofs.reads.key_of_row.Goals as goal

pub returns-in-Index-clause-found : goal.returns-in-Index-clause-found
unfolding body_key
returns-in-Index-clause-found c =
    λ usable whole. rw c.in-Index.is
