-- Refusals that are passed on.
use Rattle.std.proofs.Common.{◌≡◌, Result, Ok, Err, IsErrAnd, IfErr, sym, subst}
use Rattle.plain_tables.specs.declared.errors.StoreError.{StoreError}
use Rattle.plain_tables.specs.declared.errors.StoreError.TheVariants.{Memory, Store}
use Rattle.page_imports.specs.RowFits.{RefusesUnless}

refuses_for : (P Q : Type 0) (e : StoreError) → (Q → P) → RefusesUnless P e → RefusesUnless Q e
refuses_for P Q Memory more refuses = tt
refuses_for P Q Store more refuses = λ holds. refuses (more holds)

-- what is refused of a part is refused of the whole
pub refused_on : {T : Type 0} (r : Result T StoreError) (e : StoreError) (P Q : Type 0) → IsErrAnd r (λ x. x ≡ e) → (Q → P) → RefusesUnless P e → IfErr r (RefusesUnless Q)
refused_on (Ok x) e P Q is more refuses = tt
refused_on (Err x) e P Q is more refuses = refuses_for P Q x more (subst (RefusesUnless P) (sym is) refuses)

-- and so is a lack of memory
pub refused_memory : {T : Type 0} (r : Result T StoreError) (Q : Type 0) → IsErrAnd r (λ x. x ≡ Memory) → IfErr r (RefusesUnless Q)
refused_memory (Ok x) Q is = tt
refused_memory (Err x) Q is = rw is tt
