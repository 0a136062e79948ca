use Rattle.std.proofs.Common.{◌≡◌, ◌++◌, ℕ, List}
use Rattle.report_texts.specs.Csv.{csv_rows}
use Rattle.cost_exports.specs.Pieces.{IsOn}
use Rattle.cost_exports.specs.Views.{held_slots, spread, sums_in, with_lines}
use Rattle.cost_exports.proofs.csv_texts.put_places.Given as goal

-- the rows so far, and those to come
abbrev pub invariant-loop-names : goal.invariant-loop-names
invariant-loop-names g l =
    (from : _) (text : List ℕ) → IsOn g.W.TextSink.takes from l.initial.pieces l.initial.out text
    → (bytes : List ℕ) × IsOn g.W.TextSink.takes from l.pieces l.out bytes
    × (bytes ++ csv_rows (spread (with_lines l.places.lines (held_slots l.names-iterator))) ≡ text ++ csv_rows (sums_in l.places))
