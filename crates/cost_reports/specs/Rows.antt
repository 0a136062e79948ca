-- The rows of reports as the code holds them, and as merged rows give them.
use Rattle.std.specs.Prelude.{ℕ, ◌*◌, List, map}
use Rattle.std.specs.Borrow.{Bor}
use Rattle.cost_rows.specs.Keys.{lent_place, place_of_row}
use Rattle.cost_rows.specs.Merging.{seen}
use Rattle.cost_rows.specs.Plain.{plain_cell}
use Rattle.cost_rows.specs.Sums.{Spot}
use Rattle.cost_rows.specs.declared.keys.LentPlace.{LentPlace}
use Rattle.cost_rows.specs.declared.rows.CellRow.{CellRow}
use Rattle.report_texts.specs.KeyReports.{rank_cmp, reaching, limited}
use Rattle.report_texts.specs.Ranking.{ranked}
use Rattle.report_texts.specs.Verifying.{Checked}
use Rattle.report_texts.specs.declared.cuts.Cut.{Cut}
use Rattle.report_texts.specs.declared.pairs.Pair.{Pair}
use Rattle.report_texts.specs.declared.signed.Signed.{Signed}
use Rattle.cost_reports.specs.declared.rows.CallRow.{CallRow}
use Rattle.cost_reports.specs.declared.rows.DifferenceRow.{DifferenceRow}
use Rattle.cost_reports.specs.declared.rows.Row.{Row}
use Rattle.cost_reports.specs.declared.verifying.Check.{Check}

-- sums and pairs of sums by places
abbrev pub lent_sums : List (LentPlace × ℕ) → List (Spot × ℕ)
lent_sums = seen lent_place

abbrev pub lent_pairs : List (LentPlace × Pair) → List (Spot × Pair)
lent_pairs = seen lent_place

abbrev pub plain_row : Row → Spot × ℕ
plain_row r = (lent_place r.place, r.cost.0)

abbrev pub plain_rows : List Row → List (Spot × ℕ)
plain_rows rows = map plain_row rows

abbrev pub plain_difference : DifferenceRow → Spot × Signed
plain_difference r = (lent_place r.place, record { size = r.size.0; below = r.below })

abbrev pub plain_differences : List DifferenceRow → List (Spot × Signed)
plain_differences rows = map plain_difference rows

abbrev pub plain_call : CallRow → Spot × Pair
plain_call r = (lent_place r.place, record { first = r.cost.0; second = r.count })

abbrev pub plain_calls : List CallRow → List (Spot × Pair)
plain_calls rows = map plain_call rows

-- a check as the code holds it
abbrev pub plain_check : Check → Checked
plain_check c = record { event = c.event.now; sum = c.sum; stated = c.stated }

-- the sum that a merged row has
abbrev pub sum_of_row : CellRow (List ℕ) → Spot × ℕ
sum_of_row r = (place_of_row r, r.cost)

-- the sums that lent rows have, in their order
abbrev pub given_sums : List (CellRow (Bor (List ℕ))) → List (Spot × ℕ)
given_sums rows = map (λ (r : CellRow (Bor (List ℕ))). sum_of_row (plain_cell r)) rows

-- the rows of some sums that a cut shows of a total
abbrev pub shown_of : Cut → ℕ → List (Spot × ℕ) → List (Spot × ℕ)
shown_of cut total sums = limited cut.limit (reaching (cut.threshold * total) 0 (ranked rank_cmp sums))
