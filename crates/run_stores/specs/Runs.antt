-- What a file that is inserted makes of the rows.
use Rattle.std.specs.Prelude.{ℕ, List}
use Rattle.cost_rows.specs.Rows.{content_of}
use Rattle.plain_tables.specs.Tables.{Tables}
use Rattle.run_stores.specs.BookRuns.{with_file}
use Rattle.profile_records.specs.declared.kinds.Kind.{Kind}
use Rattle.run_stores.specs.declared.summed.SummedFile.{SummedFile}

-- a file under a number
abbrev pub with_summed : ℕ → Kind → List ℕ → List ℕ → SummedFile → Tables → Tables
with_summed number kind digest label file = with_file number kind digest label file.head.now (content_of file.rows.now)
