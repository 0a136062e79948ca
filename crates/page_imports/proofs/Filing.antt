-- What is written of a file, as the code has it and in the words of the public call.
use Rattle.std.proofs.Common.{◌≡◌, ℕ, List, map, Result, MatchResult, IsErrAnd, ap, sym, subst, ◌∙◌}
use Rattle.cost_rows.specs.Content.{Content}
use Rattle.page_files.specs.declared.files.PageFile.{PageFile}
use Rattle.page_files.specs.Files.{IsFaithful}
use Rattle.page_files.specs.Held.{Rests, Writes}
use Rattle.page_places.specs.declared.roots.StoreRoots.{StoreRoots}
use Rattle.page_places.specs.Failures.{FailsToStore}
use Rattle.page_places.specs.Roots.{AreRoots}
use Rattle.page_places.proofs.Failing.{store_fails_later}
use Rattle.page_places.proofs.Outcomes.{match_result}
use Rattle.plain_tables.specs.Tables.{Tables, EventRow, DerivedRow, CoefRow}
use Rattle.plain_tables.specs.declared.errors.StoreError.{StoreError}
use Rattle.page_imports.specs.Runs.{with_head_of}
use Rattle.run_stores.specs.BookRuns.{Filed, IsOfItsRun, with_filed}
use Rattle.run_stores.specs.Files.{with_head, with_rows}
use Rattle.sqlite_disk.specs.declared.Disk.{Ghosts}
use Rattle.sqlite_pool.specs.Pool.{state}
use Rattle.sqlite_pool.specs.Stored.{Keeps}
use Rattle.sqlite_store.specs.declared.catalog.Wanted.{Wanted}
use Rattle.sqlite_trees.specs.Tree.{Trees}
use Rattle.prof_store.specs.Lines.{run_row, event_row, derived_row, coef_row}
use Rattle.prof_store.specs.Tables.{Holds}
use Rattle.prof_store.specs.declared.table_rows.HeadRows.{HeadRows}
use Rattle.prof_store.specs.declared.table_rows.RunRow.{RunRow}
use Rattle.page_imports.specs.Causes.{CanBeFiled, CanPutHead, CanPutHeadOf, CanPutRows}
use Rattle.page_imports.specs.Imports.{IsNew}
use Rattle.page_imports.specs.Needs.{CanBegin, HasNoRow}
use Rattle.page_imports.specs.Steps.{Begins, HasMade, Makes, head_tables, row_tables}
use Rattle.page_imports.proofs.Carried.{rows_still}
use Rattle.page_imports.proofs.Results.{err_on}
use Rattle.page_imports.proofs.Runs.{added_has_none}

abbrev pub made : ℕ → ℕ → ℕ → List ℕ → List ℕ → List EventRow → List DerivedRow → List CoefRow → Content → Filed
made n k calls digest label events derived coefs content = record {
  line = record { number = n; kind = k; digest = digest; label = label; call_count = calls };
  events = events;
  derived = derived;
  coefs = coefs;
  rows = content;
}

pub filed_same : (n k m calls count : ℕ) (digest label : List ℕ) (es gs : List EventRow) (ds hs : List DerivedRow) (ks ls : List CoefRow) (c : Content) → k ≡ m → calls ≡ count → es ≡ gs → ds ≡ hs → ks ≡ ls
    → made n k calls digest label es ds ks c ≡ made n m count digest label gs hs ls c
filed_same n k m calls count digest label es gs ds hs ks ls c kind counted events derived coefs =
    ap (λ x. made n x calls digest label es ds ks c) kind ∙ ap (λ x. made n m x digest label es ds ks c) counted ∙ ap (λ x. made n m count digest label x ds ks c) events
    ∙ ap (λ x. made n m count digest label gs x ks c) derived ∙ ap (λ x. made n m count digest label gs hs x c) coefs

-- what is written of a run, from lines as the code has them
abbrev written : RunRow → HeadRows → Content → Filed
written run lines content = record {
  line = run_row run;
  events = map event_row lines.events.items;
  derived = map derived_row lines.derived.items;
  coefs = map coef_row lines.coefs.items;
  rows = content;
}

-- the lines of a head are put in, where these are what is written of a file
module _ (run : RunRow) (lines : HeadRows) (f : Filed) (is : written run lines f.rows ≡ f) (of_run : IsOfItsRun f) {D : Type 0} {g : Ghosts D} (old read new : PageFile D g) (roots : StoreRoots) (r : Result Unit StoreError)
    (keeps : Keeps (state old.pool) (state read.pool)) where
  pub head_then : Makes read new roots head_tables (CanBegin run lines) (with_head_of run lines) (λ _. CanPutHeadOf run lines) r
      → IsFaithful new → (wanted : List Wanted) (known : List ℕ) (db : Trees) (t : Tables) → Writes wanted known db db read → Holds t db → IsNew f.line.number f.line.digest t → AreRoots known roots
      → MatchResult r (λ _. AreRoots known roots × HasMade head_tables wanted known db db (with_head f.line f.events f.derived f.coefs t) new) (FailsToStore old new (CanPutHead f.line f.events f.derived f.coefs db))
  head_then makes clean wanted known db t writes holds is_new are =
      match_result r (λ (made : HasMade head_tables wanted known db db (with_head_of run lines t) new). (
        are,
        record {
          shows = record {
            next = made.shows.next;
            writes = made.shows.writes;
            holds = subst (λ (it : Filed). Holds (with_head it.line it.events it.derived it.coefs t) made.shows.next) is made.shows.holds;
          };
          kept = made.kept;
        },
      ))
      (λ e. store_fails_later old read new e keeps (subst (λ (it : Filed). CanPutHead it.line it.events it.derived it.coefs db) (sym is)))
      (makes clean wanted known db t (record { next = db; writes = writes; holds = holds }) are (record {
        is_new = subst (λ (it : Filed). IsNew it.line.number it.line.digest t) (sym is) is_new;
        lines = subst IsOfItsRun (sym is) of_run;
      }))

-- or there is an error
pub begins_not : {D : Type 0} {g : Ghosts D} (old new : PageFile D g) (f : Filed) (Can : Tables → Trees → Type 0) (r : Result StoreRoots StoreError) (e : StoreError) → IsErrAnd r (λ d. d ≡ e)
    → (IsFaithful new → (wanted : List Wanted) (known : List ℕ) (db : Trees) (t : Tables) → Rests wanted known db old → Holds t db → IsNew f.line.number f.line.digest t → FailsToStore old new (Can t db) e) → Begins old new f Can r
begins_not old new f Can r e is fails clean wanted known db t rests holds new_run = err_on r _ _ e is (fails clean wanted known db t rests holds new_run)

-- behind them the rows are put in
module _ {D : Type 0} {g : Ghosts D} (old mid new : PageFile D g) (f : Filed) (roots : StoreRoots) {A : Type 0} (r : Result A StoreError) (keeps : Keeps (state old.pool) (state mid.pool)) where
  pub rows_then : Makes mid new roots row_tables (HasNoRow f.line.number) (with_rows f.line.number f.rows) (CanPutRows f.line.number f.rows) r
      → IsFaithful new → (wanted : List Wanted) (known : List ℕ) (db : Trees) (t : Tables) → Holds t db → IsNew f.line.number f.line.digest t
      → AreRoots known roots × HasMade head_tables wanted known db db (with_head f.line f.events f.derived f.coefs t) mid
      → MatchResult r (λ _. (next : Trees) × Writes wanted known db next new × Holds (with_filed f t) next) (FailsToStore old new (CanBeFiled f t db))
  rows_then makes clean wanted known db t holds is_new (are, begun) =
      let headed = with_head f.line f.events f.derived f.coefs t in
      match_result r (λ (made : HasMade row_tables wanted known db begun.shows.next (with_filed f t) new). (made.shows.next, made.shows.writes, made.shows.holds))
      (λ e. store_fails_later old mid new e keeps (λ (can : CanBeFiled f t db). rows_still f.line.number f.rows headed can.rows begun.kept))
      (makes clean wanted known db headed begun.shows are (added_has_none f.line f.events f.derived f.coefs t db holds is_new.next))
