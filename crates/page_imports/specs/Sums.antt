-- What is told of the sums of a file's rows.
use Rattle.std.specs.Prelude.{ℕ, ◌<◌, length}
use Rattle.cg_formulas.specs.declared.heads.FileHead.{FileHead}
use Rattle.cost_rows.specs.Content.{Content}
use Rattle.cost_rows.specs.Totals.{AreTotals}
use Rattle.cost_rows.specs.declared.rows.FileTotals.{FileTotals}
use Rattle.run_stores.specs.Heads.{ColumnFits}

-- of every content with these sums
abbrev pub OfContent : FileHead → FileTotals → (Content → Type 0) → Type 0
OfContent head totals P = (c : Content) → AreTotals totals c (length head.events) → P c

-- and of an event of the head, by its column
abbrev pub OfColumn : FileHead → FileTotals → ℕ → (Content → Type 0) → Type 0
OfColumn head totals place P = OfContent head totals (λ c. place < length head.events → P c)

-- its sums fit their columns
abbrev pub AllFit : FileHead → Content → Type 0
AllFit head c = (k : ℕ) → k < length head.events → ColumnFits c k
