-- The records of a file have a cost for none but its events.
use Rattle.std.proofs.Common.{◌≡◌, ℕ, zero, suc, ◌+◌, ◌-◌, ◌≤◌, Bool, true, false, nat_lt, if◌then◌else◌, List, [], ◌∷◌, ◌++◌, map, length, drop, replicate, slice_index, Result, Ok, Err, Option, Some, None, IfOk, refl, ap, arith}
use Rattle.std.specs.List.{AllByRecursion}
use Rattle.std.proofs.lemmas.Bool.Decides.{nat_tests}
use Rattle.std.proofs.lemmas.List.{length-append, length-drop, length-replicate}
use Rattle.cg_text.specs.Fields.{fields_of}
use Rattle.cg_text.specs.Kinds as kinds
use Rattle.cg_text.specs.Kinds.{Header}
use Rattle.cg_text.specs.Lines.{lines_of}
use Rattle.cg_text.specs.Numbers.{amount_of}
use Rattle.cg_text.specs.Readings.{Reading}
use Rattle.cg_text.specs.declared.faults.Fault.{Fault}
use Rattle.cg_text.specs.declared.faults.Fault.TheVariants.{ShortLine, TooManyCosts}
use Rattle.cg_text.specs.declared.words.HeaderKey.TheVariants as keys
use Rattle.text_pieces.specs.Backwards.{onto}
use Rattle.profile_records.specs.Records.{Record, Own, Called}
use Rattle.profile_records.specs.Stacks.{Seen}
use Rattle.callgrind_reader.specs.Calls.{awaiting}
use Rattle.callgrind_reader.specs.Costs.{fields_row, padded, row_at, row_of, unless_shape, with_costs}
use Rattle.callgrind_reader.specs.Events.{events_of, first_of}
use Rattle.callgrind_reader.specs.Faulty.{◌>>=◌, each}
use Rattle.callgrind_reader.specs.Files as files
use Rattle.callgrind_reader.specs.Files.{names_or_none, sound_records, unless_fault}
use Rattle.callgrind_reader.specs.Grammars.{reading_in}
use Rattle.callgrind_reader.specs.Lines.{cost_of, record_of, record_with, row_record}
use Rattle.callgrind_reader.specs.Positions.{Offsets, layout_of, offsets_at, place_of, width}
use Rattle.callgrind_reader.specs.declared.layouts.Layout.{Layout}
use Rattle.folded_reader.specs.Files.{stacks_of_file}
use Rattle.cost_rows.specs.Sums.{Spot, call_sum, self_sum}
use Rattle.plain_tables.proofs.Lists.{all-append}
use Rattle.histories.specs.Formats.{Format, Callgrind, Folded}
use Rattle.histories.specs.Files as said
use Rattle.histories.specs.Files.{records_of, sample}

-- ---- events that are named stay named

abbrev count : List Reading → ℕ
count back = length (names_or_none (events_of back))

more_named : (o : Option (List (List ℕ))) (names : List (List ℕ)) → length (names_or_none o) ≤ length (names_or_none (first_of o names))
more_named None names = omega arith
more_named (Some earlier) names = omega arith

more_events : (r : Reading) (back : List Reading) → count back ≤ count (r ∷ back)
more_events (Ok (Header keys.Events text)) back = more_named (events_of back) (fields_of text)
more_events (Ok (Header keys.Version text)) back = omega arith
more_events (Ok (Header keys.Positions text)) back = omega arith
more_events (Ok (Header keys.Event text)) back = omega arith
more_events (Ok (Header keys.Summary text)) back = omega arith
more_events (Ok (Header keys.Totals text)) back = omega arith
more_events (Ok (Header keys.Thread text)) back = omega arith
more_events (Ok (Header keys.Other text)) back = omega arith
more_events (Ok r) back = omega arith
more_events (Err fault) back = omega arith

events_at_end : (ahead back : List Reading) → count back ≤ count (onto ahead back)
events_at_end [] back = omega arith
events_at_end (r ∷ ahead) back = let one = more_events r back in let rest = events_at_end ahead (r ∷ back) in omega (arith, one, rest)

-- ---- a cost line

one_more : {A : Type 0} (x : Result A Fault) (xs : Result (List A) Fault) (n : ℕ) → IfOk xs (λ (l : List A). length l ≡ n) → IfOk (x >>= λ y. (xs >>= λ l. Ok (y ∷ l))) (λ (l : List A). length l ≡ suc n)
one_more (Ok y) (Ok l) n same = ap suc same
one_more (Ok y) (Err fault) n same = tt
one_more (Err fault) xs n same = tt

each_field : {A : Type 0} (read : List ℕ → Result A Fault) (fields : List (List ℕ)) → IfOk (each read fields) (λ (l : List A). length l ≡ length fields)
each_field read [] = refl
each_field read (field ∷ fields) = one_more (read field) (each read fields) (length fields) (each_field read fields)

-- costs with a number beside them
abbrev Fits : ℕ → Result (ℕ × List ℕ) Fault → Type 0
Fits n row = IfOk row (λ (r : ℕ × List ℕ). length r.1 ≤ n)

pad : (n line : ℕ) (costs : Result (List ℕ) Fault) (many : ℕ) → many ≤ n → IfOk costs (λ (l : List ℕ). length l ≡ many) → Fits n (costs >>= λ l. Ok (line, padded n l))
pad n line (Err fault) many few same = tt
pad n line (Ok costs) many few same = omega (arith, length-append costs (replicate (n - length costs) 0), length-replicate {A = ℕ} (n - length costs) 0, same, few)

costs_fit : (n : ℕ) (fields : List (List ℕ)) (line : ℕ) → length fields ≤ n → Fits n (with_costs n fields line)
costs_fit n fields line few = pad n line (each amount_of fields) (length fields) few (each_field amount_of fields)

placed_fit : (n : ℕ) (place : Result ℕ Fault) (fields : List (List ℕ)) → length fields ≤ n → Fits n (place >>= λ line. with_costs n fields line)
placed_fit n (Err fault) fields few = tt
placed_fit n (Ok line) fields few = costs_fit n fields line few

within : (m n : ℕ) → nat_lt m n ≡ false → n ≤ m
within m n none = grind (arith, nat_tests)

row_fits : (events : Option (List (List ℕ))) (layout : Layout) (o : Offsets) (fields : List (List ℕ)) → Fits (length (names_or_none events)) (row_of events layout o fields)
row_fits None layout o fields = tt
row_fits (Some events) layout o fields = go (nat_lt (length fields) (width layout)) (nat_lt (width layout + length events) (length fields)) refl
  where
    go : (short long : Bool) → nat_lt (width layout + length events) (length fields) ≡ long
        → Fits (length events) (unless_shape (if short then Some ShortLine else (if long then Some TooManyCosts else None)) (fields_row (length events) layout o fields))
    go true long is = tt
    go false true is = tt
    go false false is =
        let few : length fields ≤ width layout + length events = within (width layout + length events) (length fields) is in
        placed_fit (length events) (place_of layout o fields) (drop (width layout) fields) (omega (arith, length-drop (width layout) fields, few))

-- ---- records

-- its costs are of so many events
abbrev pub IsNarrow : ℕ → Record → Type 0
IsNarrow n (Own cost) = length cost.costs ≤ n
IsNarrow n (Called callee cost) = length cost.costs ≤ n

with_row : (n : ℕ) (call : Option (ℕ × ℕ)) (line : ℕ) (costs : List ℕ) (back : List Reading) → length costs ≤ n → IsNarrow n (record_with call (cost_of line costs back) back)
with_row n None line costs back few = few
with_row n (Some call) line costs back few = few

row_narrow : (n m : ℕ) (row : Result (ℕ × List ℕ) Fault) (back : List Reading) → m ≤ n → Fits m row → AllByRecursion (IsNarrow n) (row_record row back)
row_narrow n m (Err fault) back few fits = tt
row_narrow n m (Ok row) back few fits = (with_row n (awaiting back) row.0 row.1 back (omega (arith, few, fits)), tt)

record_narrow : (n : ℕ) (r : Reading) (back : List Reading) → count back ≤ n → AllByRecursion (IsNarrow n) (record_of r back)
record_narrow n (Ok (kinds.Cost text)) back few = row_narrow n (count back) (row_at text back) back few (row_fits (events_of back) (layout_of back) (offsets_at back) (fields_of text))
record_narrow n (Ok kinds.Nothing) back few = tt
record_narrow n (Ok kinds.Jump) back few = tt
record_narrow n (Ok (kinds.Calls value)) back few = tt
record_narrow n (Ok (Header key value)) back few = tt
record_narrow n (Ok r) back few = tt
record_narrow n (Err fault) back few = tt

unless_any : (n : ℕ) (fault : Option Fault) (records : List Record) → AllByRecursion (IsNarrow n) records → AllByRecursion (IsNarrow n) (unless_fault fault records)
unless_any n (Some fault) records all = tt
unless_any n None records all = all

sound_narrow : (n : ℕ) (back ahead : List Reading) → count (onto ahead back) ≤ n → AllByRecursion (IsNarrow n) (sound_records back ahead)
sound_narrow n back [] few = tt
sound_narrow n back (r ∷ ahead) few =
    let here : count back ≤ count (onto (r ∷ ahead) back) = events_at_end (r ∷ ahead) back in
    unless_any n (files.fault_of r back ahead) (record_of r back ++ sound_records (r ∷ back) ahead)
    (all-append (IsNarrow n) (record_of r back) (sound_records (r ∷ back) ahead) (record_narrow n r back (omega (arith, here, few))) (sound_narrow n (r ∷ back) ahead few))

samples_narrow : (seen : List Seen) → AllByRecursion (IsNarrow 1) (map sample seen)
samples_narrow [] = tt
samples_narrow (s ∷ seen) = (omega arith, samples_narrow seen)

-- of any file, faulty or not
pub file_narrow : (format : Format) (bytes : List ℕ) → AllByRecursion (IsNarrow (length (said.events_of format bytes))) (records_of format bytes)
file_narrow (Callgrind g) bytes = sound_narrow (length (files.events_by g bytes)) [] (map (reading_in g) (lines_of bytes)) (omega arith)
file_narrow Folded bytes = samples_narrow (stacks_of_file bytes)

-- ---- columns of no event are 0

past_end : (costs : List ℕ) (k : ℕ) → length costs ≤ k → slice_index costs k ≡ 0
past_end [] k few = refl
past_end (cost ∷ costs) zero few = absurd (omega (arith, few))
past_end (cost ∷ costs) (suc k) few = past_end costs k (omega (arith, few))

nothing : (b : Bool) (m n : ℕ) → m ≡ 0 → n ≡ 0 → (if b then m else 0) + n ≡ 0
nothing true m n one rest = omega (arith, one, rest)
nothing false m n one rest = omega (arith, rest)

module _ (n k : ℕ) (low : n ≤ k) where
  pub no_self : (passes : Spot → Bool) (records : List Record) → AllByRecursion (IsNarrow n) records → self_sum passes k records ≡ 0
  no_self passes [] all = refl
  no_self passes (Own cost ∷ records) all = nothing _ _ _ (past_end cost.costs k (let few : length cost.costs ≤ n = all.0 in omega (arith, low, few))) (no_self passes records all.1)
  no_self passes (Called callee cost ∷ records) all = no_self passes records all.1

  pub no_calls : (passes : Spot → Spot → Bool) (records : List Record) → AllByRecursion (IsNarrow n) records → call_sum passes k records ≡ 0
  no_calls passes [] all = refl
  no_calls passes (Own cost ∷ records) all = no_calls passes records all.1
  no_calls passes (Called callee cost ∷ records) all = nothing _ _ _ (past_end cost.costs k (let few : length cost.costs ≤ n = all.0 in omega (arith, low, few))) (no_calls passes records all.1)
