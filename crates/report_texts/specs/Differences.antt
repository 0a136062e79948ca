-- What rows cost less what other rows cost, by key.
use Rattle.std.specs.Prelude.{ℕ, ◌+◌, ◌-◌, ◌==◌, not, ◌&&◌, nat_lt, if◌then◌else◌, List, [], ◌∷◌, ◌++◌, map, flat_map, codes}
use Rattle.std.specs.Fmt.{decimal}
use Rattle.std.specs.declared.cmp.Ordering.{Ordering}
use Rattle.std.specs.Ordering.{nat_cmp, bool_cmp, ordering_then}
use Rattle.cost_rows.specs.KeySums.{total_of}
use Rattle.cost_rows.specs.Keys.{named_cmp}
use Rattle.cost_rows.specs.Sums.{Spot}
use Rattle.cost_rows.specs.declared.keys.Key.{Key}
use Rattle.byte_io.specs.Escapes.{escaped}
use Rattle.cost_rows.specs.Keys.{key_name}
use Rattle.report_texts.specs.KeyTexts.{part_text}
use Rattle.report_texts.specs.Pairs.{pairs_by}
use Rattle.report_texts.specs.Ranking.{ranked}
use Rattle.report_texts.specs.declared.differences.Side.{Side}
use Rattle.report_texts.specs.declared.differences.Side.TheVariants.{First, Second}
use Rattle.report_texts.specs.declared.pairs.Pair.{Pair}
use Rattle.report_texts.specs.declared.signed.Signed.{Signed}

-- one number less another
abbrev pub less : ℕ → ℕ → Signed
less m n = record { size = (m - n) + (n - m); below = nat_lt m n }

-- a number on one side, and none on the other
abbrev pub pair_on : Side → ℕ → Pair
pair_on First n = record { first = n; second = 0 }
pair_on Second n = record { first = 0; second = n }

abbrev pub on_side : Side → Spot × ℕ → Spot × Pair
on_side side e = (e.0, pair_on side e.1)

-- the sums of both, side by side
abbrev pub beside : List (Spot × ℕ) → List (Spot × ℕ) → List (Spot × Pair)
beside firsts seconds = pairs_by (map (on_side First) firsts ++ map (on_side Second) seconds)

-- the first sum of each place less the second, where they differ
abbrev pub differing : List (Spot × Pair) → List (Spot × Signed)
differing [] = []
differing (e ∷ sums) = if e.1.first == e.1.second then differing sums else (e.0, less e.1.first e.1.second) ∷ differing sums

-- the greatest first, whatever their signs; of equal ones by the part of the place
abbrev pub difference_cmp : Spot × Signed → Spot × Signed → Ordering
difference_cmp a b = ordering_then (nat_cmp b.1.size a.1.size) (ordering_then (named_cmp a.0 b.0) (bool_cmp a.1.below b.1.below))

pub record DifferenceByKey : Type 0 where
  pub key : Key
  pub rows : List (Spot × Signed)
  pub total : Signed

-- of two lists of sums by one key
abbrev pub difference_of : Key → List (Spot × ℕ) → List (Spot × ℕ) → DifferenceByKey
difference_of key firsts seconds = record {
  key = key;
  rows = ranked difference_cmp (differing (beside firsts seconds));
  total = less (total_of firsts) (total_of seconds);
}

-- ---- the text

-- a number below 0 has its sign, another has none
abbrev pub signed_text : Signed → List ℕ
signed_text n = (if n.below then codes "-" else []) ++ decimal n.size

abbrev pub difference_line : Key → Spot × Signed → List ℕ
difference_line key row = signed_text row.1 ++ (codes " " ++ (part_text key row.0 ++ codes "\n"))

abbrev pub difference_lines : Key → List (Spot × Signed) → List ℕ
difference_lines key rows = flat_map (difference_line key) rows

-- what the difference is by, and of which event
abbrev pub difference_head : Key → List ℕ → List ℕ
difference_head key event = codes "subtract " ++ (key_name key ++ (codes " " ++ (escaped event ++ codes "\n")))

abbrev pub difference_text : List ℕ → DifferenceByKey → List ℕ
difference_text event d = difference_head d.key event ++ (signed_text d.total ++ (codes " total\n" ++ difference_lines d.key d.rows))

-- ---- laws

-- what rows above 0 sum to, and those below
abbrev pub gains_of : List (Spot × Signed) → ℕ
gains_of [] = 0
gains_of (e ∷ rows) = (if e.1.below then 0 else e.1.size) + gains_of rows

abbrev pub losses_of : List (Spot × Signed) → ℕ
losses_of [] = 0
losses_of (e ∷ rows) = (if e.1.below then e.1.size else 0) + losses_of rows

-- the same number with the other sign, where it is not 0
abbrev pub negated : Signed → Signed
negated n = record { size = n.size; below = not n.below && not (n.size == 0) }

abbrev pub negated_row : Spot × Signed → Spot × Signed
negated_row e = (e.0, negated e.1)

abbrev pub negative : DifferenceByKey → DifferenceByKey
negative d = record { key = d.key; rows = map negated_row d.rows; total = negated d.total }
