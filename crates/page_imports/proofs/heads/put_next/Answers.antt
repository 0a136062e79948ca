use Rattle.std.proofs.Common.{◌≡◌, [], ◌∷◌, ap, inl, refl, subst, sym, ◌∙◌}
use Rattle.sqlite_rules.specs.Lists.{Has}
use Rattle.std.proofs.lemmas.Result.{IfOk-from_err, err_from_is_err_and}
use Rattle.sqlite_trees.specs.Tree.{put_row}
use Rattle.sqlite_trees.specs.View.{IsShaped}
use Rattle.sqlite_trees.specs.declared.store.Shape.TheVariants as shape
use Rattle.sqlite_value.specs.declared.value.Value.TheVariants.{Null}
use Rattle.prof_store.specs.Schema.{schema_two, meta_at}
use Rattle.prof_store.specs.Tables.{meta_columns, number}
use Rattle.page_places.proofs.Numbered.{next_replaced}
use Rattle.sqlite_trees.specs.View.{IsStorableRow}
use Rattle.page_places.proofs.Failing.{memory_fails, row_fails}
use Rattle.page_imports.specs.Causes.{CanBeWritten}
use Rattle.page_imports.proofs.Failing.{fails_for}
use Rattle.page_imports.proofs.Kept.{changed_keeps}
use Rattle.page_imports.proofs.Mapped.{next_put}
use Rattle.page_places.proofs.Showing.{table_at}
use Rattle.sqlite_pool.specs.StoredLaws.{Keeps-refl}
use Rattle.page_imports.proofs.heads.put_next.Goals as goal

pub returns-in-Ok-clause-done : goal.returns-in-Ok-clause-done
returns-in-Ok-clause-done g c clean = λ wanted known was t shows are above.
    let n = c.args.next in
    let now = shows.next in
    let rows : now 0 ≡ meta_columns t.next ∷ [] = shows.holds.contain.contents_are.0.rows_are in
    let there = subst (λ l. Has l (meta_columns t.next)) (sym rows) (inl refl) in
    let made = c.in-Ok.ensures.done clean schema_two wanted known was now meta_at (table_at c.args.file.now shows.writes shows.holds 0 meta_at refl _ (record { root = are.meta; keys = tt })) (Null ∷ number 2 ∷ number t.next ∷ [], there, tt) in
    let is : made.next 0 ≡ meta_columns n ∷ [] = made.rows_are ∙ ap (λ l. put_row (number 1 ∷ l) (now 0)) c.in_ok-columns.ensures ∙ ap (put_row (meta_columns n)) rows ∙ next_put t.next n in
    record {
      shows = record { next = made.next; writes = made.writes; holds = next_replaced t now made.next shows.holds made.only (subst (IsShaped shape.Table) (sym made.rows_are) made.shaped) n is above };
      kept = changed_keeps meta_at now made.next made.only;
    }

pub returns-clause-done : goal.returns-clause-done
returns-clause-done g c clean = λ wanted known was t shows are above.
    let file = c.args.file.now in
    let new = c.replace.new.file in
    let now = shows.next in
    let rows : now 0 ≡ meta_columns t.next ∷ [] = shows.holds.contain.contents_are.0.rows_are in
    let there = subst (λ l. Has l (meta_columns t.next)) (sym rows) (inl refl) in
    let failed = c.in-Err.ensures.done clean schema_two wanted known was now meta_at (table_at file shows.writes shows.holds 0 meta_at refl _ (record { root = are.meta; keys = tt })) (Null ∷ number 2 ∷ number t.next ∷ [], there, tt) in
    fails_for file new _ (λ (can : CanBeWritten meta_at (meta_columns c.args.next)). subst (λ l. IsStorableRow 0 (number 1 ∷ l)) (sym c.in_ok-columns.ensures) can.row)
    (row_fails file new c.in-Err.error _ c.error_of_row.ensures failed)

pub returns-in_err-columns-clause-done : goal.returns-in_err-columns-clause-done
returns-in_err-columns-clause-done g c clean = λ wanted known was t shows are above.
    let p = err_from_is_err_and c.from_residual.result c.from_residual.ensures.1 in
    rw p.1 (memory_fails c.args.file.now c.args.file.now p.0 p.2)

pub returns-in_err-columns-clause-leaves : goal.returns-in_err-columns-clause-leaves
returns-in_err-columns-clause-leaves g c = record { usable = IfOk-from_err c.from_residual.result _ c.from_residual.ensures.0; keeps = Keeps-refl _ }

pub returns-in-Ok-clause-leaves : goal.returns-in-Ok-clause-leaves
returns-in-Ok-clause-leaves g c = record { usable = c.in-Ok.ensures.leaves.usable; keeps = c.replace.ensures.leaves.keeps }

pub returns-clause-leaves : goal.returns-clause-leaves
returns-clause-leaves g c = record { usable = tt; keeps = c.replace.ensures.leaves.keeps }
