use Rattle.std.proofs.Common.{◌≡◌, Bool, List, ℕ, IfOk, IsTrue, Result, Ok, Err}
use Rattle.sqlite_resolve.specs.Compile.{table_defined_by}
use Rattle.sqlite_schema.specs.declared.schema.Table.{Table}
use Rattle.page_lists.specs.Alike.{MakeAlike, MakesLike}
use Rattle.page_lists.proofs.alike.have_same_rows.Goals as goal

both : {E : Type 0} (r : Result Bool E) (one other : List ℕ) (table : Table) → table_defined_by one ≡ Ok table → IfOk r (λ is. IsTrue is → MakesLike table other)
    → IfOk r (λ are. IsTrue are → MakeAlike one other)
both (Ok are) one other table makes alike = λ is. record { table = table; makes = makes; alike = alike is }
both (Err e) one other table makes alike = tt

pub returns-in-Some : goal.returns-in-Some
returns-in-Some c = both _ _ _ _ (rw c.in-Some.is at c.in_ok-one.ensures) c.makes_alike-made.ensures
