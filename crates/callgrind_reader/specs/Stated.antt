-- When sums represent the totals that lines have stated.
use Rattle.std.specs.Prelude.{◌≡◌, ℕ, ◌+◌, ◌<◌, Bool, List, ◌∷◌, Ok, nat_lt, slice_index}
use Rattle.cg_text.specs.Readings.{Reading}
use Rattle.cg_text.specs.Kinds.{Header}
use Rattle.cg_text.specs.Fields.{fields_of}
use Rattle.cg_text.specs.Numbers.{amount_of}
use Rattle.callgrind_reader.specs.Faulty.{each}
use Rattle.callgrind_reader.specs.Totals.{header_key, sum_in, is_stated}
use Rattle.callgrind_reader.specs.declared.totals.Sums.{Sums}
use Rattle.callgrind_reader.specs.declared.stated.StatedKey.{StatedKey}
use Rattle.callgrind_reader.specs.declared.stated.StatedKey.TheVariants.{Totals, Summary}
use Rattle.callgrind_reader.specs.declared.stated.Stated.{Stated}

-- sums of these columns, of a key that was given or not
pub record SumsAre (s : Sums) (sum_in : ℕ → ℕ) (is_given : Bool) : Type 0 where
  pub sums : (k : ℕ) → k < 64 → slice_index s.sums.items k ≡ sum_in k
  pub given : nat_lt 0 s.lines ≡ is_given

abbrev pub sums_of : Stated → StatedKey → Sums
sums_of s Totals = s.totals
sums_of s Summary = s.summary

pub record StatedIs (s : Stated) (back : List Reading) : Type 0 where
  pub each : (key : StatedKey) → SumsAre (sums_of s key) (λ k. sum_in key k back) (is_stated key back)

-- a line of a key with these amounts was added
abbrev pub AddsLine : StatedKey → List ℕ → Stated → Stated → Type 0
AddsLine key amounts old new =
    (back : List Reading) (value : List ℕ) → each amount_of (fields_of value) ≡ Ok amounts → StatedIs old back → StatedIs new (Ok (Header (header_key key) value) ∷ back)

-- how many lines have stated totals
abbrev pub stated_lines : Stated → ℕ
stated_lines s = s.totals.lines + s.summary.lines
