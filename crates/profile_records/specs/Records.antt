-- The records of a file, as plain data.
use Rattle.std.specs.Prelude.{ℕ, List}

-- what a cost line says: costs, one for each event, and where they belong
pub record Cost : Type 0 where
  pub at : ℕ
  pub object : List ℕ
  pub file : List ℕ
  pub function : List ℕ
  pub line : ℕ
  pub thread : ℕ
  pub costs : List ℕ

-- whom calls called, and how many of them there were
pub record Callee : Type 0 where
  pub object : List ℕ
  pub file : List ℕ
  pub function : List ℕ
  pub count : ℕ

-- a self record, or a call record, whose costs are inclusive
pub data Record : Type 0 where
  Own : Cost → Record
  Called : Callee → Cost → Record
