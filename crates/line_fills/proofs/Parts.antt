-- One batch behind the others.
use Rattle.std.proofs.Common.{◌≡◌, ◌+◌, ◌-◌, ◌<◌, ◌≤◌, ℕ, List, ◌++◌, IsPermutation, drop, length, map, take, sym, ap, ◌∙◌, arith}
use Rattle.std.specs.List.{range_with_len}
use Rattle.std.proofs.lemmas.List.{length-map, length-take, length-take-le, map-append}
use Rattle.std.proofs.lemmas.List.FromFn.{get_or-range_with_len, length-range_with_len}
use Rattle.std.proofs.lemmas.List.Sorted.{All-permutation}
use Rattle.sqlite_record.specs.Record.{decode}
use Rattle.sqlite_sql.specs.Catalog.{entry_of}
use Rattle.sqlite_value.specs.Order.{Row}
use Rattle.page_files.proofs.Placing.{take_more_of}
use Rattle.line_fills.specs.Rows.{ArePlacesOf, HaveRowids, entries_at, numbered, row_at}
use Rattle.line_fills.proofs.Numbers.{numbered-append}

front_and_more : {X : Type 0} (xs : List X) (done end : ℕ) → done ≤ end → take done xs ++ take (end - done) (drop done xs) ≡ take end xs
front_and_more xs done end up = let back : done + (end - done) ≡ end = omega arith in take_more_of xs done (end - done) ∙ ap (λ n. take n xs) back

pub numbered_batch : {X : Type 0} (columns : X → Row) (first : ℕ) (lines : List X) (done end : ℕ) → done ≤ end → end ≤ length lines
    → numbered first (map columns (take done lines)) ++ numbered (first + done) (map columns (take (end - done) (drop done lines))) ≡ numbered first (map columns (take end lines))
numbered_batch {X} columns first lines done end up within =
    let front = take done lines in
    let more = take (end - done) (drop done lines) in
    let count : length (map columns front) ≡ done = length-map front columns ∙ length-take-le done lines (omega (arith, up, within)) in
    ap (λ n. numbered first (map columns front) ++ numbered (first + n) (map columns more)) (sym count) ∙ sym (numbered-append first (map columns front) (map columns more))
    ∙ ap (numbered first) (sym (map-append columns front more) ∙ ap (map columns) (front_and_more lines done end up))

-- and there are rowids for its records
pub batch_fits : {X : Type 0} (columns : X → Row) (first : ℕ) (lines : List X) (done end : ℕ) (records : List (List ℕ)) → HaveRowids first lines → done ≤ end → end ≤ length lines
    → map decode records ≡ map columns (take (end - done) (drop done lines)) → HaveRowids (first + done) records
batch_fits columns first lines done end records room up within made =
    let batch = take (end - done) (drop done lines) in
    omega (arith, room, up, within, ap length made, length-map records decode, length-map batch columns, length-take (end - done) (drop done lines))

pub entries_batch : (columns : List ℕ) (first : ℕ) (lines : List Row) (places : List ℕ) (done end : ℕ) → done ≤ end
    → entries_at columns first lines (take done places) ++ entries_at columns first lines (take (end - done) (drop done places)) ≡ entries_at columns first lines (take end places)
entries_batch columns first lines places done end up =
    let entry = λ (place : ℕ). entry_of columns (row_at first lines place) in
    sym (map-append entry (take done places) (take (end - done) (drop done places))) ∙ ap (map entry) (front_and_more places done end up)

-- the places of lines in another order are places of them
pub places_within : {X : Type 0} (lines : List X) (places : List ℕ) → IsPermutation (range_with_len 0 (length lines)) places → ArePlacesOf lines places
places_within lines places order =
    let n = length lines in
    All-permutation (λ place. place < n) (range_with_len 0 n) places order
    (λ k d low. let inside : k < n = omega (arith, low, length-range_with_len 0 n) in omega (arith, inside, get_or-range_with_len 0 n k d inside))
