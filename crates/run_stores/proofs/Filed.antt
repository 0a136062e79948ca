-- A file that is inserted is in the book.
use Rattle.std.proofs.Common.{◌≡◌, ℕ, suc, List, [], ◌∷◌, refl}
use Rattle.std.specs.List.{AllByRecursion}
use Rattle.plain_tables.proofs.Lists.{all-append}
use Rattle.cg_formulas.specs.declared.heads.FileHead.{FileHead}
use Rattle.cost_rows.specs.Content.{Content}
use Rattle.plain_tables.specs.Tables.{EventRow, DerivedRow, CoefRow}
use Rattle.run_stores.specs.Book.{AreOf}
use Rattle.run_stores.specs.BookRuns.{Filed, GoesInBook, IsOfItsRun}
use Rattle.run_stores.proofs.Books.{book_insert, named_insert}
use Rattle.run_stores.specs.Heads.{event_rows, event_rows_from, derived_rows, derived_rows_from, coef_rows, coef_row_of, coef_rows_at, coef_rows_from}
use Rattle.cost_rows.proofs.AboveLemmas.{all-above}

events_of_run : (run : ℕ) (head : FileHead) (c : Content) (place : ℕ) (names : List (List ℕ)) → AllByRecursion (λ (e : EventRow). e.run ≡ run) (event_rows_from run head c place names)
events_of_run run head c place [] = tt
events_of_run run head c place (name ∷ names) = (refl, events_of_run run head c (suc place) names)

derived_of_run : (run place : ℕ) (derived : List (List ℕ × List ℕ)) → AllByRecursion (λ (d : DerivedRow). d.run ≡ run) (derived_rows_from run place derived)
derived_of_run run place [] = tt
derived_of_run run place (d ∷ derived) = (refl, derived_of_run run (suc place) derived)

coefs_of_run : (run place : ℕ) (derived : List (List ℕ × List ℕ)) → AllByRecursion (λ (k : CoefRow). k.run ≡ run) (coef_rows_from run place derived)
coefs_of_run run place [] = tt
coefs_of_run run place (d ∷ derived) = all-append (λ (k : CoefRow). k.run ≡ run) (coef_rows_at run place 0 d.1) (coef_rows_from run (suc place) derived) (all-above (λ (k : CoefRow). k.run ≡ run) (coef_row_of run place) (λ event times above. refl) 0 d.1) (coefs_of_run run (suc place) derived)

-- each row of a head says its run
pub head_of_run : (run : ℕ) (head : FileHead) (c : Content) → AreOf run (event_rows run head c) (derived_rows run head) (coef_rows run head)
head_of_run run head c = record { events_of = events_of_run run head c 0 head.events; derived_of = derived_of_run run 0 head.derived.derived; coefs_of = coefs_of_run run 0 head.derived.derived }

-- what is written under the next number is in the book
pub goes_in_book : (f : Filed) → IsOfItsRun f → GoesInBook f
goes_in_book f of t next = record {
  book = book_insert f.line f.events f.derived f.coefs f.rows t next.was next.is next.named next.held next.number of;
  named = named_insert f.line f.events f.derived f.coefs f.rows t next.was next.is next.named next.held next.number of;
}
