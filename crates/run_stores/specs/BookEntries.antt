-- What is told of the runs that are held.
use Rattle.std.specs.Prelude.{ℕ, List}
use Rattle.plain_tables.specs.Tables.{RunRow}

-- what is told of a run
pub record HeldRun : Type 0 where
  pub number : ℕ
  pub kind : ℕ
  pub digest : List ℕ
  pub label : List ℕ

abbrev pub held_run : RunRow → HeldRun
held_run r = record { number = r.number; kind = r.kind; digest = r.digest; label = r.label }
