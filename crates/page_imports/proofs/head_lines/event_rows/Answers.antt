use Rattle.std.proofs.Common.{◌≡◌, ◌+◌, ◌<◌, ◌≤◌, ◌^◌, ◌++◌, ℕ, suc, List, [], ◌∷◌, map, get_or, drop, length, refl, sym, ap, ap₂, ◌∙◌, arith, append_assoc, add-one, drop-cons}
use Rattle.std.proofs.lemmas.List.{map-append}
use borrow.Author.Count.{below_more}
use Rattle.cg_formulas.specs.declared.heads.FileHead.{FileHead}
use Rattle.cost_rows.specs.Content.{Content}
use Rattle.plain_tables.specs.Tables.{EventRow}
use Rattle.run_stores.specs.Heads.{event_row_of, event_rows_from, ColumnFits}
use Rattle.page_imports.specs.Sums.{AllFit}
use Rattle.prof_store.specs.Lines.{event_row}
use Rattle.page_imports.proofs.Refusals.{refused_on, refused_memory}
use Rattle.page_imports.proofs.head_lines.event_rows.Goals as goal

-- the lines so far, and one more
lines_more : (run : ℕ) (head : FileHead) (content : Content) (place : ℕ) (names : List (List ℕ)) (name other : List ℕ) (row : EventRow) (rows all : List EventRow) → place < length names
    → name ≡ get_or names place other → row ≡ event_row_of run head content place name → rows ++ event_rows_from run head content place (drop place names) ≡ all
    → (rows ++ row ∷ []) ++ event_rows_from run head content (place + 1) (drop (place + 1) names) ≡ all
lines_more run head content place names name other row rows all below named is so_far =
    let split : drop place names ≡ get_or names place other ∷ drop (place + 1) names = rw (add-one, drop-cons names place other) refl in
    let one : place + 1 ≡ suc place = omega arith in
    let more = drop (place + 1) names in
    let next : event_rows_from run head content place (drop place names) ≡ event_row_of run head content place name ∷ event_rows_from run head content (suc place) more =
    ap (event_rows_from run head content place) split ∙ ap (λ n. event_row_of run head content place n ∷ event_rows_from run head content (suc place) more) (sym named) in
    append_assoc rows (row ∷ []) (event_rows_from run head content (place + 1) more)
    ∙ ap (λ l. rows ++ l) (ap₂ (λ r p. r ∷ event_rows_from run head content p more) is one ∙ sym next)
    ∙ so_far

pub events-preserved : goal.events-preserved
events-preserved c =
    let place = c.events.place in
    let below : place < length c.args.head.now.events = omega (arith, ap length c.as_slice-events.ensures) in
    let name = c.as_slice.result.now in
    let other = c.index-events-place.result in
    record {
      value = λ content are.
          ap (λ lines. map event_row lines ++ event_rows_from c.args.run c.args.head.now content (place + 1) (drop (place + 1) c.args.head.now.events)) c.in_ok-add.ensures
          ∙ ap (λ rows. rows ++ event_rows_from c.args.run c.args.head.now content (place + 1) (drop (place + 1) c.args.head.now.events)) (map-append event_row c.events.lines.items (c.in_ok-line.line ∷ []))
          ∙ lines_more c.args.run c.args.head.now content place c.args.head.now.events name other (event_row c.in_ok-line.line) (map event_row c.events.lines.items) _ below
          (c.as_slice.ensures ∙ c.index-events-place.is ∙ ap (λ names. get_or names place other) c.as_slice-events.ensures) (c.in_ok-line.ensures.value content are below) (c.events.invariant.value content are);
      fits = λ content are. below_more (λ k. ColumnFits content k) place (c.events.invariant.fits content are) (c.in_ok-line.ensures.fits content are below);
    }

pub returns-in_err-line-clause-refused : goal.returns-in_err-line-clause-refused
returns-in_err-line-clause-refused c = λ content are.
    let place = c.events.place in
    let events = length c.args.head.now.events in
    let below : place < events = omega (arith, ap length c.as_slice-events.ensures) in
    refused_on c.from_residual.result _ (ColumnFits content place × (place < 2 ^ 32)) (AllFit c.args.head.now content × (events ≤ 2 ^ 32)) c.from_residual.ensures.1
    (λ fits. (fits.0 place below, omega (arith, fits.1, below))) (c.in_err-line.ensures.refused content are below)

pub returns-in_err-add-clause-refused : goal.returns-in_err-add-clause-refused
returns-in_err-add-clause-refused c = λ content are. refused_memory c.from_residual-in_err-add.result _ c.from_residual-in_err-add.ensures.1
