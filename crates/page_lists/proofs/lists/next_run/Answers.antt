use Rattle.std.proofs.Common.{◌≡◌, ◌∷◌, [], ℕ, List, sym, ap, map, ◌∙◌}
use Rattle.std.proofs.lemmas.Result.{err_from_is_err_and, IfOk-weaker}
use Rattle.prof_store.specs.Tables.{number, meta_columns}
use Rattle.sqlite_value.specs.Order.{Row}
use Rattle.sqlite_value.specs.declared.value.Value.TheVariants.{Null}
use Rattle.page_lists.specs.declared.small.Meta.{Meta}
use Rattle.page_lists.proofs.Columns.{all_seen}
use Rattle.page_lists.proofs.lists.next_run.Goals as goal

-- the only row has the columns of the only line
only_row : (lines : List Meta) (next : ℕ) (rows : List Row) → lines ≡ record { schema = 2; next = next } ∷ []
    → map (λ (m : Meta). number 1 ∷ Null ∷ number m.schema ∷ number m.next ∷ []) lines ≡ map (λ (row : Row). row) rows → rows ≡ meta_columns next ∷ []
only_row lines next rows is columns =
    sym (all_seen rows) ∙ sym columns ∙ ap (map (λ (m : Meta). number 1 ∷ Null ∷ number m.schema ∷ number m.next ∷ [])) is

pub returns-clause-next : goal.returns-clause-next
returns-clause-next g c faithful = λ rows shows.
    IfOk-weaker c.next_in.result _ _ (λ next is. only_row _ next rows (sym c.as_slice.ensures.value ∙ is) (c.in_ok-lines.ensures.read faithful rows shows)) c.next_in.ensures.next

pub returns-in_err-lines-clause-next : goal.returns-in_err-lines-clause-next
returns-in_err-lines-clause-next g c = λ faithful rows shows. rw (err_from_is_err_and c.from_residual.result c.from_residual.ensures.1).1 tt

pub returns-in_err-lines-clause-reads : goal.returns-in_err-lines-clause-reads
returns-in_err-lines-clause-reads g c = c.all_rows.ensures.reads

pub returns-clause-reads : goal.returns-clause-reads
returns-clause-reads g c = c.all_rows.ensures.reads
