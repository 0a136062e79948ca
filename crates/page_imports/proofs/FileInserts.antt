-- A file that is inserted, as it is written and in the words of the public call.
use Rattle.std.proofs.Common.{◌≡◌, ℕ, List, map, ap, ◌∙◌}
use Rattle.cg_formulas.specs.declared.heads.FileHead.{FileHead}
use Rattle.cost_rows.specs.Rows.{content_of}
use Rattle.cost_rows.specs.Totals.{count_total}
use Rattle.cost_rows.specs.declared.file_rows.FileRows.{FileRows}
use Rattle.plain_tables.specs.Tables.{Tables, EventRow, DerivedRow, CoefRow}
use Rattle.run_stores.specs.Files.{with_rows, with_head}
use Rattle.run_stores.specs.Heads.{event_rows, derived_rows, coef_rows}
use Rattle.profile_records.specs.Kinds.{kind_number}
use Rattle.prof_store.specs.Lines.{event_row, derived_row, coef_row}
use Rattle.run_stores.specs.BookRuns.{with_file, run_row_of}
use Rattle.profile_records.specs.declared.kinds.Kind.{Kind}
use Rattle.prof_store.specs.declared.table_rows.HeadRows.{HeadRows}

-- its run and its lines are those of the head and the rows
pub file_is : (n k calls : ℕ) (digest label : List ℕ) (head : HeadRows) (rows : FileRows) (t : Tables) (kind : Kind) (h : FileHead) → k ≡ kind_number kind → calls ≡ count_total (content_of rows).calls
    → map event_row head.events.items ≡ event_rows n h (content_of rows) → map derived_row head.derived.items ≡ derived_rows n h → map coef_row head.coefs.items ≡ coef_rows n h
    → with_rows n (content_of rows) (with_head (record { number = n; kind = k; digest = digest; label = label; call_count = calls }) (map event_row head.events.items) (map derived_row head.derived.items) (map coef_row head.coefs.items) t)
    ≡ with_file n kind digest label h (content_of rows) t
file_is n k calls digest label head rows t kind h kind_is count events derived coefs =
    let c = content_of rows in
    let first = map event_row head.events.items in
    let second = map derived_row head.derived.items in
    let third = map coef_row head.coefs.items in
    let line = run_row_of n kind digest label c in
    ap (λ (m : ℕ). with_rows n c (with_head (record { number = n; kind = m; digest = digest; label = label; call_count = calls }) first second third t)) kind_is
    ∙ ap (λ (m : ℕ). with_rows n c (with_head (record { number = n; kind = kind_number kind; digest = digest; label = label; call_count = m }) first second third t)) count
    ∙ ap (λ (l : List EventRow). with_rows n c (with_head line l second third t)) events
    ∙ ap (λ (l : List DerivedRow). with_rows n c (with_head line (event_rows n h c) l third t)) derived
    ∙ ap (λ (l : List CoefRow). with_rows n c (with_head line (event_rows n h c) (derived_rows n h) l t)) coefs
