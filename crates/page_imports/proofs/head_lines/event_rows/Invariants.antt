use Rattle.std.proofs.Common.{◌≡◌, ◌++◌, ◌<◌, ℕ, map, drop, length}
use Rattle.cost_rows.specs.Content.{Content}
use Rattle.cost_rows.specs.Totals.{AreTotals}
use Rattle.run_stores.specs.Heads.{event_rows, event_rows_from, ColumnFits}
use Rattle.prof_store.specs.Lines.{event_row}
use Rattle.page_imports.proofs.head_lines.event_rows.Given as goal

-- the lines so far, and those of the events that are left, are all of them, and the columns so far fit
abbrev pub invariant-events : goal.invariant-events
invariant-events l = record {
  value : (c : Content) → AreTotals l.totals c (length l.head.events) → map event_row l.lines.items ++ event_rows_from l.run l.head c l.place (drop l.place l.head.events) ≡ event_rows l.run l.head c;
  fits : (c : Content) → AreTotals l.totals c (length l.head.events) → (k : ℕ) → k < l.place → ColumnFits c k;
}
