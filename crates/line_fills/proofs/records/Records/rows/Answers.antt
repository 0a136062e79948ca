use Rattle.std.proofs.Common.{◌≡◌, ◌<◌, ◌^◌, ◌+◌, ℤ, List, ℕ, [], ◌∷◌, ◌++◌, get_or, length, map, take, to_z, w64, arith, sym, ap, ap₂, ◌∙◌}
use Rattle.std.specs.Borrow.{Bor}
use Rattle.std.proofs.lemmas.Int.{to_z_pos}
use Rattle.std.proofs.lemmas.List.{get_or-map, length-map, map-append, take_more}
use Rattle.sqlite_record.specs.Record.{decode}
use Rattle.sqlite_store.specs.Db.{table_row}
use Rattle.sqlite_value.specs.declared.value.Value.TheVariants.{Int}
use Rattle.sqlite_value.specs.Order.{Row}
use Rattle.page_files.specs.Places.{rows_given}
use Rattle.line_fills.specs.Rows.{row_at}
use Rattle.line_fills.proofs.Numbers.{numbered-more}
use Rattle.std.proofs.lemmas.Result.{IfOk-from_err}
use Rattle.line_fills.proofs.records.Records.rows.Goals as goal

-- the record at a place, and the row of it
module _ (first : ℕ) (records : List (List ℕ)) (at : ℕ) (bytes : List ℕ) (low : at < length records) (is : bytes ≡ get_or records at []) where
  next_record : take (at + 1) records ≡ take at records ++ bytes ∷ []
  next_record = take_more records at [] low ∙ ap (λ b. take at records ++ b ∷ []) (sym is)

  next_row : first + at < 2 ^ 63 → table_row (to_z w64 (first + at), bytes) ≡ row_at first (map decode records) at
  next_row fits = ap₂ (λ z (l : Row). Int z ∷ l) (to_z_pos w64 (first + at) fits) (ap decode is ∙ sym (get_or-map decode records at [] [] low))

pub loop-at-preserved : goal.loop-at-preserved
loop-at-preserved c =
    let records = c.args.self.now in
    let first = c.args.first in
    let at = c.loop-at.at in
    let old = c.loop-at.rows.items in
    let slices = c.in_ok-slices.slices.items in
    let slice = c.index.result.now in
    let same = c.in_ok-slices.ensures in
    let held : at < length slices = omega (arith, c.loop-at-test.true, c.len-at-end.ensures) in
    let count : length slices ≡ length records = sym (length-map slices (λ (b : Bor (List ℕ)). b.now)) ∙ ap length same in
    let low : at < length records = omega (arith, held, count) in
    let is : slice.now ≡ get_or records at [] =
    ap (λ (b : Bor (List ℕ)). b.now) c.index.ensures ∙ sym (get_or-map (λ (b : Bor (List ℕ)). b.now) slices at slice [] held) ∙ ap (λ (l : List (List ℕ)). get_or l at []) same in
    let one : List (ℤ × Bor (List ℕ)) = (to_z w64 (first + at), slice) ∷ [] in
    record {
      rows = ap rows_given c.in_ok-push.ensures.items ∙ map-append (λ (r : ℤ × Bor (List ℕ)). table_row (r.0, r.1.now)) old one
          ∙ ap₂ ◌++◌ c.loop-at.invariant.rows (ap (λ (r : Row). r ∷ []) (next_row first records at slice.now low is (omega (arith, low, c.requires))))
          ∙ sym (numbered-more first (map decode records) at (omega (arith, low, length-map records decode)));
      records = ap (map (λ (r : ℤ × Bor (List ℕ)). r.1.now)) c.in_ok-push.ensures.items ∙ map-append (λ (r : ℤ × Bor (List ℕ)). r.1.now) old one
          ∙ ap (λ l. l ++ slice.now ∷ []) c.loop-at.invariant.records ∙ sym (next_record first records at slice.now low is);
    }

pub returns-in_err-slices-clause-rows : goal.returns-in_err-slices-clause-rows
returns-in_err-slices-clause-rows c = IfOk-from_err c.from_residual.result _ c.from_residual.ensures.0

pub returns-in_err-slices-clause-records : goal.returns-in_err-slices-clause-records
returns-in_err-slices-clause-records c = IfOk-from_err c.from_residual.result _ c.from_residual.ensures.0

pub returns-in_err-rows-clause-rows : goal.returns-in_err-rows-clause-rows
returns-in_err-rows-clause-rows c = IfOk-from_err c.from_residual-in_err-rows.result _ c.from_residual-in_err-rows.ensures.0

pub returns-in_err-rows-clause-records : goal.returns-in_err-rows-clause-records
returns-in_err-rows-clause-records c = IfOk-from_err c.from_residual-in_err-rows.result _ c.from_residual-in_err-rows.ensures.0

pub returns-in_err-push-clause-rows : goal.returns-in_err-push-clause-rows
returns-in_err-push-clause-rows c = IfOk-from_err c.from_residual-in_err-push.result _ c.from_residual-in_err-push.ensures.0

pub returns-in_err-push-clause-records : goal.returns-in_err-push-clause-records
returns-in_err-push-clause-records c = IfOk-from_err c.from_residual-in_err-push.result _ c.from_residual-in_err-push.ensures.0
