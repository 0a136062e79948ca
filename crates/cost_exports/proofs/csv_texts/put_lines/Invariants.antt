use Rattle.std.proofs.Common.{◌≡◌, ◌++◌, ℕ, List}
use Rattle.report_texts.specs.Csv.{csv_rows}
use Rattle.cost_exports.specs.Pieces.{IsOn}
use Rattle.cost_exports.specs.Views.{held_lines, held_names, placed}
use Rattle.cost_exports.proofs.csv_texts.put_lines.Given as goal

-- the rows so far, and those to come
abbrev pub invariant-loop-line : goal.invariant-loop-line
invariant-loop-line g l =
    (from : _) (text : List ℕ) → IsOn g.W.TextSink.takes from l.initial.pieces l.initial.out text
    → (bytes : List ℕ) × IsOn g.W.TextSink.takes from l.pieces l.out bytes
    × (bytes ++ csv_rows (placed (held_names l.names) (held_lines l.line-iterator)) ≡ text ++ csv_rows (placed (held_names l.names) l.lines))
