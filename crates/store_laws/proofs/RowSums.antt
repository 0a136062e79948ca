-- The rows of a run sum to what the small tables say of it, part by part.
use Rattle.std.proofs.Common.{◌≡◌, ℕ, zero, suc, ◌+◌, ◌<◌, ◌≤◌, true, false, ◌==◌, eqb, if◌then◌else◌, List, [], ◌∷◌, map, filter, length, sum_by, cond, refl, sym, ap, ap₂, subst, ◌∙◌, inl, inr, arith}
use Rattle.std.specs.List.{AllByRecursion}
use Rattle.std.proofs.lemmas.Bool.{cases_lt}
use Rattle.std.proofs.lemmas.Bool.Decides.{nat_tests}
use Rattle.std.proofs.lemmas.List.Sums.{sum_by-cons}
use Rattle.cost_rows.specs.StackSums.{frames_sum}
use Rattle.cost_rows.specs.Sums.{self_sum}
use Rattle.cost_rows.specs.WalkSums.{rows_cost, stacks_count}
use Rattle.profile_records.specs.Kinds.{kind_number}
use Rattle.profile_records.specs.Stacks.{Seen}
use Rattle.profile_records.specs.declared.kinds.Kind.{Kind}
use Rattle.profile_records.specs.declared.kinds.Kind.TheVariants as kinds
use Rattle.plain_tables.specs.Lists.{Has}
use Rattle.plain_tables.proofs.Lists.{all_has}
use Rattle.plain_tables.specs.RunRows.{calls_in, cells_in, stacks_in}
use Rattle.plain_tables.specs.Tables.{Tables, RunRow, EventRow, NameRow, StoredCell, StoredCall, StoredStack}
use Rattle.run_stores.specs.Book.{cell_held, part_held, run_held, stack_held}
use Rattle.run_stores.specs.Heads.{stated_at}
use Rattle.run_stores.specs.Parts.{parts_sum}
use Rattle.folded_reader.specs.Files.{stacks_of_file}
use Rattle.histories.specs.Files.{events_of, records_of, sample, stacks_of, stated_of}
use Rattle.histories.specs.Formats.{Format, Callgrind, Folded, kind_in}
use Rattle.histories.specs.History.{History, File, held}
use Rattle.histories.specs.Representation.{AreBooksOf, IsBookOf, TablesRepresent, event_rows_from}
use Rattle.histories.specs.Sums.{call_column, self_column}
use Rattle.histories.proofs.Invariants.{IsBefore, numbered}
use Rattle.histories.proofs.Tests.{Pairs}
use Rattle.run_stores.specs.Lookups.{IsKindOf}
use Rattle.run_stores.specs.SelfSums.{events_of_run}
use Rattle.run_lists.specs.RowSums.{calls_of_run, cells_of_run, stacks_of_run, sum_of_part}
use Rattle.store_laws.proofs.Columns.{at, at_part, part}
use Rattle.store_laws.proofs.Widths.{file_narrow, no_calls, no_self}

-- ---- the rows of events

abbrev row_of_event : File → ℕ → List ℕ → EventRow
row_of_event f place event =
    record { run = f.number; place = place; name = event; self_cost = self_column f.format f.bytes place; call_cost = call_column f.format f.bytes place; stated = stated_at (stated_of f.format f.bytes) place }

abbrev place_of : EventRow → ℕ
place_of e = e.place

above_it : (a b : ℕ) → a < b → eqb b a ≡ false
above_it a b low = grind (arith, nat_tests)

below_it : (a b : ℕ) → a < b → eqb a b ≡ false
below_it a b low = grind (arith, nat_tests)

same_place : (a b : ℕ) → a ≡ b → eqb a b ≡ true
same_place a b same = grind (arith, nat_tests)

module _ (m : EventRow → ℕ) (column : ℕ → ℕ) (f : File) (is : (place : ℕ) (event : List ℕ) → m (row_of_event f place event) ≡ column place) where
  before : (k place : ℕ) (events : List (List ℕ)) → k < place → at place_of m k (event_rows_from f place events) ≡ 0
  before k place [] low = refl
  before k place (event ∷ events) low =
      let rest = before k (suc place) events (omega (arith, low)) in
      let one : part (place == k) (m (row_of_event f place event)) ≡ 0 = ap (λ b. part b (m (row_of_event f place event))) (above_it k place low) in
      omega (arith, rest, one)

  -- a place that is there has the sum of its column
  within : (k place : ℕ) (events : List (List ℕ)) → k < length events → at place_of m (k + place) (event_rows_from f place events) ≡ column (k + place)
  within k place [] low = absurd (omega (arith, low))
  within zero place (event ∷ events) low =
      let rest = before place (suc place) events (omega arith) in
      let one : part (place == place) (m (row_of_event f place event)) ≡ m (row_of_event f place event) = ap (λ b. part b (m (row_of_event f place event))) (same_place place place refl) in
      let none_more : zero + place ≡ place = omega arith in
      ap (λ n. at place_of m n (event_rows_from f place (event ∷ events))) none_more ∙ ap₂ ◌+◌ (one ∙ is place event) rest ∙ plus_none (column place) ∙ sym (ap column none_more)
    where
      plus_none : (n : ℕ) → n + 0 ≡ n
      plus_none n = omega arith
  within (suc k) place (event ∷ events) low =
      let rest = within k (suc place) events (omega (arith, low)) in
      let later : k + suc place ≡ suc k + place = omega arith in
      let there = ap (λ n. at place_of m n (event_rows_from f (suc place) events)) (sym later) ∙ rest ∙ ap column later in
      let one : part (place == suc k + place) (m (row_of_event f place event)) ≡ 0 = ap (λ b. part b (m (row_of_event f place event))) (below_it place (suc k + place) (omega arith)) in
      omega (arith, there, one)

  -- and behind them is none
  behind : (k place : ℕ) (events : List (List ℕ)) → length events + place ≤ k → at place_of m k (event_rows_from f place events) ≡ 0
  behind k place [] high = refl
  behind k place (event ∷ events) high =
      let rest = behind k (suc place) events (omega (arith, high)) in
      let one : part (place == k) (m (row_of_event f place event)) ≡ 0 = ap (λ b. part b (m (row_of_event f place event))) (below_it place k (omega (arith, high))) in
      omega (arith, rest, one)

  -- so each is that of its column, where the columns behind are 0
  pub each_column : (events : List (List ℕ)) → ((k : ℕ) → length events ≤ k → column k ≡ 0) → (k : ℕ) → sum_of_part place_of m k (event_rows_from f 0 events) ≡ column k
  each_column events none k = at_part place_of m k (event_rows_from f 0 events) ∙ elim (cases_lt k (length events)) [
    | inl low ↦ (let same : k + 0 ≡ k = omega arith in ap (λ n. at place_of m n (event_rows_from f 0 events)) (sym same) ∙ within k 0 events low ∙ ap column same)
    | inr high ↦ behind k 0 events (omega (arith, high)) ∙ sym (none k high)
  ]

-- their places are below their number
places_below : (f : File) (place : ℕ) (events : List (List ℕ)) → AllByRecursion (λ (e : EventRow). e.place < length events + place) (event_rows_from f place events)
places_below f place [] = tt
places_below f place (event ∷ events) = (
  omega arith,
  subst (λ n. AllByRecursion (λ (e : EventRow). e.place < n) (event_rows_from f (suc place) events)) (let later : length events + suc place ≡ suc (length events) + place = omega arith in later) (places_below f (suc place) events),
)

rows_counted : (f : File) (place : ℕ) (events : List (List ℕ)) → length (event_rows_from f place events) ≡ length events
rows_counted f place [] = refl
rows_counted f place (event ∷ events) = ap suc (rows_counted f (suc place) events)

-- ---- rows of cells, of calls and of stacks, as sums by column

cells_at : (names : List NameRow) (k : ℕ) (cells : List StoredCell) → rows_cost (λ _. true) k (map (cell_held names) cells) ≡ at (λ (c : StoredCell). c.event) (λ (c : StoredCell). c.cost) k cells
cells_at names k [] = refl
cells_at names k (c ∷ cells) = ap (λ n. (if c.event == k then c.cost else 0) + n) (cells_at names k cells)

parts_at : (names : List NameRow) (k : ℕ) (calls : List StoredCall) → parts_sum (λ _ _. true) k (map (part_held names) calls) ≡ at (λ (a : StoredCall). a.part) (λ (a : StoredCall). a.sum) k calls
parts_at names k [] = refl
parts_at names k (a ∷ calls) = ap (λ n. (if a.part == k then a.sum else 0) + n) (parts_at names k calls)

stacks_all : (stacks : List StoredStack) → stacks_count (λ _. true) (map stack_held stacks) ≡ at (λ _. 0) (λ (s : StoredStack). s.count) 0 stacks
stacks_all [] = refl
stacks_all (s ∷ stacks) = ap (λ n. s.count + n) (stacks_all stacks)

no_part : (k : ℕ) → eqb 0 (suc k) ≡ false
no_part k = grind (arith, nat_tests)

stacks_behind : (k : ℕ) (stacks : List StoredStack) → at (λ _. 0) (λ (s : StoredStack). s.count) (suc k) stacks ≡ 0
stacks_behind k [] = refl
stacks_behind k (s ∷ stacks) = let rest = stacks_behind k stacks in let one : part (0 == suc k) s.count ≡ 0 = ap (λ b. part b s.count) (no_part k) in omega (arith, rest, one)

-- in a folded file the samples are the counts of its stacks, and another has none
samples_sum : (seen : List Seen) → frames_sum (λ _. true) seen ≡ self_sum (λ _. true) 0 (map sample seen)
samples_sum [] = refl
samples_sum (s ∷ seen) = ap (λ n. s.stack.count + n) (samples_sum seen)

stacks_are : (n : ℕ) (t : Tables) (format : Format) (bytes : List ℕ) → ((k : ℕ) → cells_of_run n t k ≡ self_column format bytes k)
    → frames_sum (λ _. true) (stacks_of format bytes) ≡ stacks_of_run (kind_in format) n t 0
stacks_are n t (Callgrind g) bytes same = refl
stacks_are n t Folded bytes same = samples_sum (stacks_of_file bytes) ∙ sym (same 0)

one_event : (n : ℕ) (t : Tables) (format : Format) (bytes : List ℕ) → ((k : ℕ) → cells_of_run n t k ≡ self_column format bytes k)
    → ((k : ℕ) → length (events_of format bytes) ≤ k → self_column format bytes k ≡ 0) → (k : ℕ) → stacks_of_run (kind_in format) n t (suc k) ≡ 0
one_event n t (Callgrind g) bytes same none k = refl
one_event n t Folded bytes same none k = same (suc k) ∙ none (suc k) (omega arith)

-- ---- a run of the book and its file

module _ (t : Tables) (r : RunRow) (f : File) (is : IsBookOf f (run_held t r)) where
  abbrev many : ℕ
  many = length (events_of f.format f.bytes)

  pub self_behind : (k : ℕ) → many ≤ k → self_column f.format f.bytes k ≡ 0
  self_behind k high = no_self many k high (λ _. true) (records_of f.format f.bytes) (file_narrow f.format f.bytes)

  pub calls_behind : (k : ℕ) → many ≤ k → call_column f.format f.bytes k ≡ 0
  calls_behind k high = no_calls many k high (λ _ _. true) (records_of f.format f.bytes) (file_narrow f.format f.bytes)

  pub self_costs : (k : ℕ) → cells_of_run r.number t k ≡ self_column f.format f.bytes k
  self_costs k =
      ap (sum_of_part place_of (λ (e : EventRow). e.self_cost) k) is.events
      ∙ each_column (λ (e : EventRow). e.self_cost) (self_column f.format f.bytes) f (λ place event. refl) (events_of f.format f.bytes) self_behind k

  pub call_costs : (k : ℕ) → calls_of_run r.number t (suc k) ≡ call_column f.format f.bytes k
  call_costs k =
      ap (sum_of_part place_of (λ (e : EventRow). e.call_cost) k) is.events
      ∙ each_column (λ (e : EventRow). e.call_cost) (call_column f.format f.bytes) f (λ place event. refl) (events_of f.format f.bytes) calls_behind k

  pub cells_sum : (k : ℕ) → sum_of_part (λ (c : StoredCell). c.event) (λ (c : StoredCell). c.cost) k (cells_in r.number t) ≡ cells_of_run r.number t k
  cells_sum k =
      at_part (λ (c : StoredCell). c.event) (λ (c : StoredCell). c.cost) k (cells_in r.number t)
      ∙ sym (cells_at t.names k (cells_in r.number t)) ∙ is.cells (λ _. true) k ∙ sym (self_costs k)

  -- column 0 of parts counts the calls, and each other is one of costs
  pub parts_sum_to : calls_of_run r.number t 0 ≡ r.call_count
      → (k : ℕ) → sum_of_part (λ (a : StoredCall). a.part) (λ (a : StoredCall). a.sum) k (calls_in r.number t) ≡ calls_of_run r.number t k
  parts_sum_to alone zero =
      at_part (λ (a : StoredCall). a.part) (λ (a : StoredCall). a.sum) 0 (calls_in r.number t)
      ∙ sym (parts_at t.names 0 (calls_in r.number t)) ∙ is.counts (λ _ _. true) ∙ sym is.call_count ∙ sym alone
  parts_sum_to alone (suc k) =
      at_part (λ (a : StoredCall). a.part) (λ (a : StoredCall). a.sum) (suc k) (calls_in r.number t)
      ∙ sym (parts_at t.names (suc k) (calls_in r.number t)) ∙ is.costs (λ _ _. true) k ∙ sym (call_costs k)

  pub stacks_sum : (k : ℕ) → sum_of_part (λ _. 0) (λ (s : StoredStack). s.count) k (stacks_in r.number t) ≡ stacks_of_run (kind_in f.format) r.number t k
  stacks_sum zero =
      at_part (λ _. 0) (λ (s : StoredStack). s.count) 0 (stacks_in r.number t)
      ∙ sym (stacks_all (stacks_in r.number t)) ∙ is.stacks (λ _. true) ∙ stacks_are r.number t f.format f.bytes self_costs
  stacks_sum (suc k) =
      at_part (λ _. 0) (λ (s : StoredStack). s.count) (suc k) (stacks_in r.number t)
      ∙ stacks_behind k (stacks_in r.number t) ∙ sym (one_event r.number t f.format f.bytes self_costs self_behind k)

  pub places_low : AllByRecursion (λ (e : EventRow). e.place < length (events_of_run r.number t)) (events_of_run r.number t)
  places_low =
      let events : List (List ℕ) = events_of f.format f.bytes in
      let counted : length (event_rows_from f 0 events) ≡ length events + 0 = rows_counted f 0 events ∙ (let same : length events ≡ length events + 0 = omega arith in same) in
      subst (λ l. AllByRecursion (λ (e : EventRow). e.place < length l) l) (sym is.events)
      (subst (λ n. AllByRecursion (λ (e : EventRow). e.place < n) (event_rows_from f 0 events)) (sym counted) (places_below f 0 events))

-- ---- the runs of tables stand apart by their numbers

abbrev Earlier : RunRow → RunRow → Type 0
Earlier q r = q.number < r.number

module _ (t : Tables) where
  abbrev books : List RunRow → List File → Type 0
  books lines files = AreBooksOf files (map (run_held t) lines)

  -- the file of a line, which tells of its run of the book
  file_of : (lines : List RunRow) (files : List File) (r : RunRow) → books lines files → Has lines r → (f : File) × Has files f × IsBookOf f (run_held t r)
  file_of [] files r all there = absurd there
  file_of (q ∷ lines) [] r all there = absurd all
  file_of (q ∷ lines) (f ∷ files) r all (inl same) = (f, inl refl, subst (λ x. IsBookOf f (run_held t x)) (sym same) all.0)
  file_of (q ∷ lines) (f ∷ files) r all (inr later) = let is = file_of lines files r all.1 later in (is.0, inr is.1, is.2)

  above_of : (n m : ℕ) (lines : List RunRow) (files : List File) → n ≡ m → books lines files → AllByRecursion (λ (f : File). m < f.number) files → AllByRecursion (λ (r : RunRow). n < r.number) lines
  above_of n m [] [] same all above = tt
  above_of n m [] (f ∷ files) same all above = absurd all
  above_of n m (r ∷ lines) [] same all above = absurd all
  above_of n m (r ∷ lines) (f ∷ files) same all above =
      (let number : r.number ≡ f.number = all.0.number in let low : m < f.number = above.0 in omega (arith, same, number, low), above_of n m lines files same all.1 above.1)

  earlier_of : (lines : List RunRow) (files : List File) → books lines files → Pairs IsBefore files → Pairs Earlier lines
  earlier_of [] [] all up = tt
  earlier_of [] (f ∷ files) all up = absurd all
  earlier_of (r ∷ lines) [] all up = absurd all
  earlier_of (r ∷ lines) (f ∷ files) all up = (above_of r.number f.number lines files all.0.number all.1 up.0, earlier_of lines files all.1 up.1)

above_differs : (n m : ℕ) → n < m → eqb m n ≡ false
above_differs n m low = grind (arith, nat_tests)

below_differs : (n m : ℕ) → n < m → eqb n m ≡ false
below_differs n m low = grind (arith, nat_tests)

equal : (n m : ℕ) → n ≡ m → eqb m n ≡ true
equal n m same = grind (arith, nat_tests)

none_kept : (n : ℕ) (lines : List RunRow) → AllByRecursion (λ (q : RunRow). n < q.number) lines → filter (λ (q : RunRow). q.number == n) lines ≡ []
none_kept n [] above = refl
none_kept n (q ∷ lines) above = ap₂ (λ b l. cond b (q ∷ l) l) (above_differs n q.number above.0) (none_kept n lines above.1)

kept_alone : (lines : List RunRow) (r : RunRow) → Pairs Earlier lines → Has lines r → filter (λ (q : RunRow). q.number == r.number) lines ≡ r ∷ []
kept_alone [] r up there = absurd there
kept_alone (q ∷ lines) r up (inl same) =
    let number : r.number ≡ q.number = ap (λ (x : RunRow). x.number) same in
    ap₂ (λ b l. cond b (q ∷ l) l) (equal r.number q.number number) (none_kept r.number lines (subst (λ n. AllByRecursion (λ (x : RunRow). n < x.number) lines) (sym number) up.0)) ∙ ap (λ x. x ∷ []) (sym same)
kept_alone (q ∷ lines) r up (inr later) =
    ap₂ (λ b l. cond b (q ∷ l) l) (below_differs q.number r.number (all_has (Earlier q) lines r up.0 later)) (kept_alone lines r up.1 later)

-- ---- in tables that represent a history

module _ (h : History) (t : Tables) (represent : TablesRepresent h t) where
  pub held_file : (r : RunRow) → Has t.runs r → (f : File) × Has (held h) f × IsBookOf f (run_held t r)
  held_file r there = file_of t t.runs (held h) r represent.runs there

  pub cells_told : (r : RunRow) → Has t.runs r → (k : ℕ) → sum_of_part (λ (c : StoredCell). c.event) (λ (c : StoredCell). c.cost) k (cells_in r.number t) ≡ cells_of_run r.number t k
  cells_told r there = let is = held_file r there in cells_sum t r is.0 is.2

  pub placed : (r : RunRow) → Has t.runs r → AllByRecursion (λ (e : EventRow). e.place < length (events_of_run r.number t)) (events_of_run r.number t)
  placed r there = let is = held_file r there in places_low t r is.0 is.2

  -- the run stands alone with its number
  pub count_alone : (r : RunRow) → Has t.runs r → sum_by (λ (q : RunRow). q.call_count) (filter (λ (q : RunRow). q.number == r.number) t.runs) ≡ r.call_count
  count_alone r there =
      ap (sum_by (λ (q : RunRow). q.call_count)) (kept_alone t.runs r (earlier_of t t.runs (held h) represent.runs (numbered h represent.legal).rising) there)
      ∙ sum_by-cons (λ (q : RunRow). q.call_count) r [] ∙ omega arith

  pub calls_told : (r : RunRow) → Has t.runs r → (k : ℕ) → sum_of_part (λ (a : StoredCall). a.part) (λ (a : StoredCall). a.sum) k (calls_in r.number t) ≡ calls_of_run r.number t k
  calls_told r there = let is = held_file r there in parts_sum_to t r is.0 is.2 (count_alone r there)

  same_kind : (a b : Kind) → kind_number a ≡ kind_number b → a ≡ b
  same_kind kinds.Callgrind kinds.Callgrind same = refl
  same_kind kinds.Callgrind kinds.Folded same = absurd (omega (arith, same))
  same_kind kinds.Folded kinds.Callgrind same = absurd (omega (arith, same))
  same_kind kinds.Folded kinds.Folded same = refl

  pub stacks_told : (n : ℕ) (kind : Kind) → IsKindOf n t kind → (k : ℕ) → sum_of_part (λ _. 0) (λ (s : StoredStack). s.count) k (stacks_in n t) ≡ stacks_of_run kind n t k
  stacks_told n kind it k =
      let r = it.0 in
      let is = held_file r it.1 in
      let same : kind_in is.0.format ≡ kind = same_kind (kind_in is.0.format) kind (sym is.2.kind ∙ it.3) in
      subst (λ m. sum_of_part (λ _. 0) (λ (s : StoredStack). s.count) k (stacks_in m t) ≡ stacks_of_run kind m t k) it.2 (stacks_sum t r is.0 is.2 k ∙ ap (λ a. stacks_of_run a r.number t k) same)
