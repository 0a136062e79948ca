-- The sums over all runs are those over the files that are held.
use Rattle.std.proofs.Common.{◌≡◌, ℕ, suc, ◌+◌, ◌<◌, Bool, true, false, ◌||◌, ◌==◌, eqb, if◌then◌else◌, List, [], ◌∷◌, map, filter, refl, sym, ap, ap₂, ◌∙◌, cond, arith}
use Rattle.std.specs.List.{list_any, AllByRecursion, sum_by}
use Rattle.std.specs.Str.{bytes_eq}
use Rattle.std.proofs.lemmas.List.Sums.{sum_by-cons}
use Rattle.std.proofs.lemmas.Bool.{eqb-true, ne_eqb}
use Rattle.std.proofs.lemmas.Bool.Decides.{nat_tests}
use Rattle.plain_tables.specs.Tables.{Tables, RunRow, EventRow}
use Rattle.plain_tables.specs.Sound.{AreSound}
use Rattle.run_stores.specs.Book.{run_held}
use Rattle.run_stores.specs.Totals.{held_self, held_calls, held_count, lines_named}
use Rattle.run_stores.specs.Heads.{stated_at}
use Rattle.histories.specs.Files.{events_of, stated_of}
use Rattle.histories.specs.History.{History, File, held}
use Rattle.histories.specs.Representation.{AreBooksOf, TablesRepresent, event_rows_from}
use Rattle.histories.specs.Sums.{self_column, call_column, calls_of, column_named, self_held, calls_cost_held, calls_held}
use Rattle.histories.proofs.Invariants.{IsBefore, numbered}
use Rattle.histories.proofs.Tests.{Pairs, all_on}

-- ---- sums of parts

abbrev part : Bool → ℕ → ℕ
part b n = if b then n else 0

sum_filter : {X : Type 0} (m : X → ℕ) (p : X → Bool) (xs : List X) → sum_by m (filter p xs) ≡ sum_by (λ x. part (p x) (m x)) xs
sum_filter m p [] = refl
sum_filter m p (x ∷ xs) = go (p x) (sum_filter m p xs) ∙ sym (sum_by-cons (λ x. part (p x) (m x)) x xs)
  where
    go : (b : Bool) → sum_by m (filter p xs) ≡ sum_by (λ x. part (p x) (m x)) xs → sum_by m (cond b (x ∷ filter p xs) (filter p xs)) ≡ part b (m x) + sum_by (λ x. part (p x) (m x)) xs
    go true rest = sum_by-cons m x (filter p xs) ∙ ap (λ n. m x + n) rest
    go false rest = let n = sum_by (λ x. part (p x) (m x)) xs in let e : n ≡ 0 + n = omega arith in rest ∙ e

sum_same : {X : Type 0} (f g : X → ℕ) (xs : List X) → ((x : X) → f x ≡ g x) → sum_by f xs ≡ sum_by g xs
sum_same f g [] same = refl
sum_same f g (x ∷ xs) same = sum_by-cons f x xs ∙ ap₂ ◌+◌ (same x) (sum_same f g xs same) ∙ sym (sum_by-cons g x xs)

sum_both : {X : Type 0} (f g : X → ℕ) (xs : List X) → sum_by (λ x. f x + g x) xs ≡ sum_by f xs + sum_by g xs
sum_both f g [] = refl
sum_both f g (x ∷ xs) = omega (arith, sum_by-cons (λ x. f x + g x) x xs, sum_by-cons f x xs, sum_by-cons g x xs, sum_both f g xs)

sum_zero : {X : Type 0} (xs : List X) → sum_by (λ x. 0) xs ≡ 0
sum_zero [] = refl
sum_zero (x ∷ xs) = sum_by-cons (λ x. 0) x xs ∙ ap (λ n. 0 + n) (sum_zero xs)

-- ---- lines of events, by the runs that they are of

abbrev Earlier : RunRow → RunRow → Type 0
Earlier q r = q.number < r.number

-- what one event counts, over the runs of its number
none_at : (v k : ℕ) (runs : List RunRow) → AllByRecursion (λ (r : RunRow). k < r.number) runs → sum_by (λ (r : RunRow). part (k == r.number) v) runs ≡ 0
none_at v k [] above = refl
none_at v k (r ∷ runs) above =
    let other : eqb k r.number ≡ false = ne_eqb k r.number (λ e. let low : k < r.number = above.0 in omega arith) in
    sum_by-cons (λ (r : RunRow). part (k == r.number) v) r runs ∙ ap₂ (λ b n. part b v + n) other (none_at v k runs above.1)

once_at : (v k : ℕ) (runs : List RunRow) → Pairs Earlier runs → list_any (λ (r : RunRow). r.number == k) runs ≡ true → sum_by (λ (r : RunRow). part (k == r.number) v) runs ≡ v
once_at v k [] up there = absurd cc
once_at v k (r ∷ runs) up there = sum_by-cons (λ (r : RunRow). part (k == r.number) v) r runs ∙ go (eqb r.number k) refl (once_at v k runs up.1) there
  where
    self : eqb r.number k ≡ true → eqb k r.number ≡ true
    self e = grind (arith, nat_tests)

    other : eqb r.number k ≡ false → eqb k r.number ≡ false
    other e = grind (arith, nat_tests)

    go : (b : Bool) → eqb r.number k ≡ b → (list_any (λ (q : RunRow). q.number == k) runs ≡ true → sum_by (λ (q : RunRow). part (k == q.number) v) runs ≡ v)
        → b || list_any (λ (q : RunRow). q.number == k) runs ≡ true → part (k == r.number) v + sum_by (λ (q : RunRow). part (k == q.number) v) runs ≡ v
    go true same rest there =
        let n : r.number ≡ k = eqb-true r.number k same in
        let zero : sum_by (λ (q : RunRow). part (k == q.number) v) runs ≡ 0 = none_at v k runs (all_on (λ (q : RunRow). r.number < q.number) (λ (q : RunRow). k < q.number) runs (λ q low. omega arith) up.0) in
        let e : v + 0 ≡ v = omega arith in
        ap₂ (λ b n. part b v + n) (self same) zero ∙ e
    go false same rest there = let e : 0 + v ≡ v = omega arith in ap₂ (λ b n. part b v + n) (other same) (rest there) ∙ e

per_run : (m : EventRow → ℕ) (runs : List RunRow) (events : List EventRow) → Pairs Earlier runs → AllByRecursion (λ (e : EventRow). list_any (λ (r : RunRow). r.number == e.run) runs ≡ true) events
    → sum_by m events ≡ sum_by (λ (r : RunRow). sum_by m (filter (λ (e : EventRow). e.run == r.number) events)) runs
per_run m runs [] up there = sym (sum_zero runs)
per_run m runs (e ∷ events) up there =
    sum_by-cons m e events ∙ ap₂ ◌+◌ (sym (once_at (m e) e.run runs up there.0)) (per_run m runs events up there.1)
    ∙ sym (sum_both (λ (r : RunRow). part (e.run == r.number) (m e)) (λ (r : RunRow). sum_by m (filter (λ (f : EventRow). f.run == r.number) events)) runs)
    ∙ sym (sum_same (λ (r : RunRow). sum_by m (filter (λ (f : EventRow). f.run == r.number) (e ∷ events))) (λ (r : RunRow). part (e.run == r.number) (m e) + sum_by m (filter (λ (f : EventRow). f.run == r.number) events)) runs
    (λ r. one (e.run == r.number) (filter (λ (f : EventRow). f.run == r.number) events)))
  where
    one : (b : Bool) (rest : List EventRow) → sum_by m (cond b (e ∷ rest) rest) ≡ part b (m e) + sum_by m rest
    one true rest = sum_by-cons m e rest
    one false rest = let n = sum_by m rest in let z : n ≡ 0 + n = omega arith in z

-- ---- the lines of one file

abbrev event_row : File → ℕ → List ℕ → EventRow
event_row f place event =
    record { run = f.number; place = place; name = event; self_cost = self_column f.format f.bytes place; call_cost = call_column f.format f.bytes place; stated = stated_at (stated_of f.format f.bytes) place }

named_lines : (m : EventRow → ℕ) (column : ℕ → ℕ) (name : List ℕ) (f : File) (place : ℕ) (events : List (List ℕ)) → ((place : ℕ) (event : List ℕ) → m (event_row f place event) ≡ column place)
    → sum_by (λ (e : EventRow). part (bytes_eq e.name name) (m e)) (event_rows_from f place events) ≡ column_named name column place events
named_lines m column name f place [] is = refl
named_lines m column name f place (event ∷ events) is =
    sum_by-cons (λ (e : EventRow). part (bytes_eq e.name name) (m e)) (event_row f place event) (event_rows_from f (suc place) events)
    ∙ ap₂ (λ a b. part (bytes_eq event name) a + b) (is place event) (named_lines m column name f (suc place) events is)

-- ---- of all runs

module _ (t : Tables) where
  abbrev books : List RunRow → List File → Type 0
  books runs files = AreBooksOf files (map (run_held t) runs)

  above_of : (n : ℕ) (runs : List RunRow) (files : List File) → books runs files → AllByRecursion (λ (f : File). n < f.number) files → AllByRecursion (λ (r : RunRow). n < r.number) runs
  above_of n [] [] all above = tt
  above_of n [] (f ∷ files) all above = absurd all
  above_of n (r ∷ runs) [] all above = absurd all
  above_of n (r ∷ runs) (f ∷ files) all above = (let same : r.number ≡ f.number = all.0.number in let low : n < f.number = above.0 in let e : n < r.number = omega arith in e, above_of n runs files all.1 above.1)

  earlier_of : (runs : List RunRow) (files : List File) → books runs files → Pairs IsBefore files → Pairs Earlier runs
  earlier_of [] [] all up = tt
  earlier_of [] (f ∷ files) all up = absurd all
  earlier_of (r ∷ runs) [] all up = absurd all
  earlier_of (r ∷ runs) (f ∷ files) all up = (
    above_of r.number runs files all.1 (all_on (λ (g : File). f.number < g.number) (λ (g : File). r.number < g.number) files (λ g low. let same : r.number ≡ f.number = all.0.number in omega arith) up.0),
    earlier_of runs files all.1 up.1,
  )

  sums_of : (m : EventRow → ℕ) (column : File → ℕ → ℕ) (name : List ℕ) (runs : List RunRow) (files : List File) → ((f : File) (place : ℕ) (event : List ℕ) → m (event_row f place event) ≡ column f place) → books runs files
      → sum_by (λ (r : RunRow). sum_by (λ (e : EventRow). part (bytes_eq e.name name) (m e)) (filter (λ (e : EventRow). e.run == r.number) t.events)) runs
      ≡ sum_by (λ (f : File). column_named name (column f) 0 (events_of f.format f.bytes)) files
  sums_of m column name [] [] is all = refl
  sums_of m column name [] (f ∷ files) is all = absurd all
  sums_of m column name (r ∷ runs) [] is all = absurd all
  sums_of m column name (r ∷ runs) (f ∷ files) is all =
      sum_by-cons (λ (r : RunRow). sum_by (λ (e : EventRow). part (bytes_eq e.name name) (m e)) (filter (λ (e : EventRow). e.run == r.number) t.events)) r runs
      ∙ ap₂ ◌+◌ (ap (sum_by (λ (e : EventRow). part (bytes_eq e.name name) (m e))) all.0.events ∙ named_lines m (column f) name f 0 (events_of f.format f.bytes) (is f)) (sums_of m column name runs files is all.1)
      ∙ sym (sum_by-cons (λ (f : File). column_named name (column f) 0 (events_of f.format f.bytes)) f files)

  counts_of : (runs : List RunRow) (files : List File) → books runs files → sum_by (λ (r : RunRow). r.call_count) runs ≡ sum_by (λ (f : File). calls_of f.format f.bytes) files
  counts_of [] [] all = refl
  counts_of [] (f ∷ files) all = absurd all
  counts_of (r ∷ runs) [] all = absurd all
  counts_of (r ∷ runs) (f ∷ files) all =
      sum_by-cons (λ (r : RunRow). r.call_count) r runs ∙ ap₂ ◌+◌ all.0.call_count (counts_of runs files all.1) ∙ sym (sum_by-cons (λ (f : File). calls_of f.format f.bytes) f files)

module _ (h : History) (t : Tables) (was : AreSound t) (represent : TablesRepresent h t) where
  sums : (m : EventRow → ℕ) (column : File → ℕ → ℕ) (name : List ℕ) → ((f : File) (place : ℕ) (event : List ℕ) → m (event_row f place event) ≡ column f place)
      → sum_by m (lines_named name t) ≡ sum_by (λ (f : File). column_named name (column f) 0 (events_of f.format f.bytes)) (held h)
  sums m column name is =
      sum_filter m (λ (e : EventRow). bytes_eq e.name name) t.events
      ∙ per_run (λ (e : EventRow). part (bytes_eq e.name name) (m e)) t.runs t.events (earlier_of t t.runs (held h) represent.runs (numbered h represent.legal).rising) was.events
      ∙ sums_of t m column name t.runs (held h) is represent.runs

  pub tells_self : (name : List ℕ) → held_self t name ≡ self_held (held h) name
  tells_self name = sums (λ (e : EventRow). e.self_cost) (λ f. self_column f.format f.bytes) name (λ f place event. refl)

  pub tells_calls : (name : List ℕ) → held_calls t name ≡ calls_cost_held (held h) name
  tells_calls name = sums (λ (e : EventRow). e.call_cost) (λ f. call_column f.format f.bytes) name (λ f place event. refl)

pub tells_count : (h : History) (t : Tables) → TablesRepresent h t → held_count t ≡ calls_held (held h)
tells_count h t represent = counts_of t t.runs (held h) represent.runs
