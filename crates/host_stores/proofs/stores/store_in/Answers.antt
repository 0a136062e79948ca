use Rattle.std.specs.Result.{IfErr}
use Rattle.std.proofs.Common.{Result, Ok, Err, sym, subst}
use Rattle.sqlite.specs.Held.{state}
use Rattle.sqlite.specs.State.{HasCleanDisk}
use Rattle.host_stores.specs.Stores.{Refuses}
use Rattle.host_stores.proofs.stores.store_in.Goals as goal

both_err : {T E : Type 0} {P Q R : E → Type 0} (r : Result T E) → IfErr r P → IfErr r Q → ((e : E) → P e → Q e → R e) → IfErr r R
both_err (Ok x) p q f = tt
both_err (Err e) p q f = f e p q

pub returns-then-is_new-clause-refused : goal.returns-then-is_new-clause-refused
returns-then-is_new-clause-refused g c =
    subst (λ new. IfErr c.create.result (λ e. HasCleanDisk (state g.S.Store e.1) → Refuses g.S.Store new e.0 c.args.conn e.1)) (sym c.if-is_new.true)
    (both_err c.create.result c.create.ensures.refused c.create.ensures.wrong (λ e made wrong clean. (made clean, wrong)))
