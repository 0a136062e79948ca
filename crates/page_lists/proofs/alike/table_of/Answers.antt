use Rattle.std.proofs.Common.{◌≡◌, Option, None, Some, IfSome, IfOk, Result, Ok, Err, subst}
use Rattle.sqlite_resolve.specs.Lowering.{Checked, Gives}
use Rattle.sqlite_schema.specs.declared.schema.Table.{Table}
use Rattle.page_lists.proofs.alike.table_of.Goals as goal

-- what was made is what the text defines
defined : {E : Type 0} (outcome made : Checked Table) (r : Result (Option Table) E) → Gives outcome made → IfOk r (λ it. IfSome it (λ table. made ≡ Ok table))
    → IfOk r (λ it. IfSome it (λ table. outcome ≡ Ok table))
defined outcome made (Ok (Some table)) gives is = subst (Gives outcome) is gives
defined outcome made (Ok None) gives is = tt
defined outcome made (Err e) gives is = tt

pub returns : goal.returns
returns c = defined _ _ _ c.define_table.ensures c.table_in.ensures.made
