-- What the small tables say of a run is far below what sums of rows can be.
use Rattle.std.proofs.Common.{◌≡◌, ℕ, zero, suc, ◌+◌, ◌<◌, ◌≤◌, ◌^◌, bytes_eq, if◌then◌else◌, List, [], ◌∷◌, length, sum_by, ap, inl, inr, arith}
use Rattle.std.proofs.lemmas.Bool.{cases_lt}
use Rattle.std.proofs.lemmas.List.Sums.{sum_by-cons}
use Rattle.plain_tables.specs.Lists.{Has}
use Rattle.plain_tables.specs.Tables.{Tables, RunRow}
use Rattle.histories.specs.Files.{events_of}
use Rattle.histories.specs.History.{History, File, held}
use Rattle.histories.specs.Representation.{TablesRepresent}
use Rattle.histories.specs.Sums.{calls_of, call_column, column_named, self_column}
use Rattle.histories.proofs.Fits.{sums_fit}
use Rattle.histories.proofs.Tests.{bytes-self}
use Rattle.run_lists.specs.RowSums.{calls_of_run, cells_of_run}
use Rattle.store_laws.proofs.RowSums.{call_costs, calls_behind, count_alone, held_file, self_behind, self_costs}

-- ---- columns whose sums by name are bounded

one_of : (m : File → ℕ) (files : List File) (f : File) → Has files f → m f ≤ sum_by m files
one_of m [] f there = absurd there
one_of m (g ∷ files) f (inl same) = omega (arith, sum_by-cons m g files, ap m same)
one_of m (g ∷ files) f (inr later) = let rest = one_of m files f later in omega (arith, sum_by-cons m g files, rest)

column_small : (column : ℕ → ℕ) (k place : ℕ) (events : List (List ℕ)) → k < length events → ((name : List ℕ) → column_named name column place events ≤ 2 ^ 63) → column (k + place) ≤ 2 ^ 63
column_small column k place [] there low = absurd (omega (arith, there))
column_small column zero place (event ∷ events) there low =
    let one : (if bytes_eq event event then column place else 0) + column_named event column (suc place) events ≤ 2 ^ 63 = low event in
    let first : (if bytes_eq event event then column place else 0) ≡ column place = ap (λ b. if b then column place else 0) (bytes-self event) in
    let same = ap column (let none_more : zero + place ≡ place = omega arith in none_more) in
    omega (arith, one, first, same)
column_small column (suc k) place (event ∷ events) there low =
    let rest = column_small column k (suc place) events (omega (arith, there))
    (λ name. let both : (if bytes_eq event name then column place else 0) + column_named name column (suc place) events ≤ 2 ^ 63 = low name in omega (arith, both)) in
    let same = ap column (let later : k + suc place ≡ suc k + place = omega arith in later) in
    omega (arith, rest, same)

each_small : (column : ℕ → ℕ) (events : List (List ℕ)) → ((k : ℕ) → length events ≤ k → column k ≡ 0) → ((name : List ℕ) → column_named name column 0 events ≤ 2 ^ 63) → (k : ℕ) → column k ≤ 2 ^ 63
each_small column events none low k = elim (cases_lt k (length events)) [
  | inl there ↦ (let small = column_small column k 0 events there low in let same = ap column (let none_more : k + 0 ≡ k = omega arith in none_more) in omega (arith, small, same))
  | inr high ↦ (let nothing = none k high in omega (arith, nothing))
]

-- ---- in tables that represent a history

module _ (h : History) (t : Tables) (represent : TablesRepresent h t) (r : RunRow) (there : Has t.runs r) where
  cells_low : (k : ℕ) → cells_of_run r.number t k ≤ 2 ^ 63
  cells_low k =
      let is = held_file h t represent r there in
      let f = is.0 in
      let events : List (List ℕ) = events_of f.format f.bytes in
      let low = each_small (self_column f.format f.bytes) events (self_behind t r f is.2)
      (λ name. let all = (sums_fit h represent.legal).self_cost name in let one = one_of (λ (g : File). column_named name (self_column g.format g.bytes) 0 (events_of g.format g.bytes)) (held h) f is.1 in omega (arith, all, one)) k in
      omega (arith, self_costs t r f is.2 k, low)

  calls_low : (k : ℕ) → calls_of_run r.number t k ≤ 2 ^ 63
  calls_low zero =
      let is = held_file h t represent r there in
      let all = (sums_fit h represent.legal).call_count in
      let one = one_of (λ (g : File). calls_of g.format g.bytes) (held h) is.0 is.1 in
      omega (arith, count_alone h t represent r there, is.2.call_count, all, one)
  calls_low (suc k) =
      let is = held_file h t represent r there in
      let f = is.0 in
      let events : List (List ℕ) = events_of f.format f.bytes in
      let low = each_small (call_column f.format f.bytes) events (calls_behind t r f is.2)
      (λ name. let all = (sums_fit h represent.legal).call_cost name in let one = one_of (λ (g : File). column_named name (call_column g.format g.bytes) 0 (events_of g.format g.bytes)) (held h) f is.1 in omega (arith, all, one)) k in
      omega (arith, call_costs t r f is.2 k, low)

  pub sums_small : (k : ℕ) → (cells_of_run r.number t k < 2 ^ 64) × (calls_of_run r.number t k < 2 ^ 64)
  sums_small k = (let low = cells_low k in omega (arith, low), let low = calls_low k in omega (arith, low))
