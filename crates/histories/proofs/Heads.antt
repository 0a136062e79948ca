-- The head of a run that is held is what its file says.
use Rattle.std.proofs.Common.{◌≡◌, ℕ, zero, suc, ◌+◌, ◌<◌, ◌≤◌, Bool, true, false, ◌&&◌, ◌==◌, nat_lt, if◌then◌else◌, List, [], ◌∷◌, ◌++◌, map, length, slice_get, slice_index, sum_by, Option, Some, None, option_map, IfSome, refl, sym, ap, ap₂, subst, ◌∙◌, arith, inl, inr, IsPermutation}
use Rattle.std.specs.Prelude.{unwrap_or}
use Rattle.std.specs.Fmt.{decimal}
use Rattle.std.specs.List.{AllByRecursion}
use Rattle.std.proofs.lemmas.Bool.Decides.{nat_tests}
use Rattle.std.proofs.lemmas.List.{length-map}
use Rattle.std.proofs.lemmas.List.Elements.{All-from_recursion, recursion_from_All}
use Rattle.std.proofs.lemmas.List.Sorted.{All-permutation, length_permutation, sum_by-IsPermutation}
use Rattle.std.proofs.lemmas.List.Sums.{sum_by-append, sum_by-cons}
use Rattle.plain_tables.specs.Lists.{Has}
use Rattle.plain_tables.proofs.Lists.{all_has, map-append}
use Rattle.cg_formulas.specs.Formulas.{coefficient, derived_names}
use Rattle.cg_formulas.specs.declared.heads.FileHead.{FileHead}
use Rattle.callgrind_reader.specs.Files.{definitions_by, events_by}
use Rattle.report_texts.specs.Verifying.{verified}
use Rattle.cost_rows.proofs.WalkSumsLemmas.{column_from, column-at, is_above, none_more, nothing_each_way, one_more}
use Rattle.plain_tables.specs.Tables.{Tables, RunRow}
use Rattle.run_stores.specs.Book.{run_held}
use Rattle.run_stores.specs.Heads.{coef_rows_at, coef_rows_from, derived_rows_from, stated_at}
use Rattle.histories.specs.Formats.{Format, Callgrind, Folded}
use Rattle.histories.specs.Files.{derived_of, events_of, stated_of}
use Rattle.histories.specs.History.{History, File, held}
use Rattle.histories.specs.Representation.{IsBookOf, TablesRepresent, event_rows_from}
use Rattle.histories.proofs.Tests.{all_map, all_on}
use Rattle.run_stores.specs.HeldHeads.{CoefEntry, EventEntry, IsHeadIn, PlacedName, coef_of_line, coefs_at, coefs_from, derived_entries, event_of_line, events_from, event_entries, name_of_line, placed}
use Rattle.histories.specs.Told.{HeadAgrees}
use Rattle.histories.proofs.Runs.{run_of}
use Rattle.histories.proofs.Short.{IsShort, held_short}
use Rattle.histories.proofs.Stated.{AreTotalsFor, IsSmall, file_totals, same_number}

-- ---- two orders of one list, both with places that count up, are the same

all_of_itself : {X : Type 0} (xs : List X) → AllByRecursion (Has xs) xs
all_of_itself [] = tt
all_of_itself (x ∷ xs) = (inl refl, all_on (Has xs) (Has (x ∷ xs)) xs (λ y there. inr there) (all_of_itself xs))

-- what one of them has, the other has
has_moved : {X : Type 0} (xs ys : List X) (y : X) → IsPermutation xs ys → Has ys y → Has xs y
has_moved xs ys y mixed there =
    all_has (Has xs) ys y (recursion_from_All (Has xs) ys (All-permutation (Has xs) xs ys mixed (All-from_recursion (Has xs) xs (all_of_itself xs)))) there

module _ {X : Type 0} (place : X → ℕ) where
  -- the places count up from one on
  abbrev pub Count : ℕ → List X → Type 0
  Count n [] = Unit {0}
  Count n (x ∷ xs) = (place x ≡ n) × Count (suc n) xs

  from_on : (n : ℕ) (xs : List X) (x : X) → Count n xs → Has xs x → n ≤ place x
  from_on n [] x up there = absurd there
  from_on n (y ∷ ys) x up (inl same) = let e : place x ≡ n = ap place same ∙ up.0 in omega (arith, e)
  from_on n (y ∷ ys) x up (inr later) = let low : suc n ≤ place x = from_on (suc n) ys x up.1 later in omega (arith, low)

  -- one whose place is the first is not a later one
  is_first : (n : ℕ) (x y : X) (ys : List X) → place x ≡ n → Count n (y ∷ ys) → Has (y ∷ ys) x → x ≡ y
  is_first n x y ys first up (inl same) = same
  is_first n x y ys first up (inr later) = absurd (let low : suc n ≤ place x = from_on (suc n) ys x up.1 later in omega (arith, low, first))

  is_later : (n : ℕ) (x y : X) (ys : List X) → suc n ≤ place x → Count n (y ∷ ys) → Has (y ∷ ys) x → Has ys x
  is_later n x y ys low up (inl same) = absurd (let e : place x ≡ n = ap place same ∙ up.0 in omega (arith, low, e))
  is_later n x y ys low up (inr later) = later

  same_counted : (n : ℕ) (xs ys : List X) → Count n xs → Count n ys → length xs ≡ length ys → ((x : X) → Has xs x → Has ys x) → xs ≡ ys
  same_counted n [] [] up_x up_y long has = refl
  same_counted n [] (y ∷ ys) up_x up_y long has = absurd (omega (arith, long))
  same_counted n (x ∷ xs) [] up_x up_y long has = absurd (omega (arith, long))
  same_counted n (x ∷ xs) (y ∷ ys) up_x up_y long has =
      let rest : length xs ≡ length ys = omega (arith, long) in
      ap₂ ◌∷◌ (is_first n x y ys up_x.0 up_y (has x (inl refl)))
      (same_counted (suc n) xs ys up_x.1 up_y.1 rest (λ z there. is_later n z y ys (from_on (suc n) xs z up_x.1 there) up_y (has z (inr there))))

  pub same_order : (n : ℕ) (xs ys : List X) → Count n xs → Count n ys → IsPermutation xs ys → xs ≡ ys
  same_order n xs ys up_x up_y mixed = sym (same_counted n ys xs up_y up_x (length_permutation xs ys mixed) (λ y there. has_moved xs ys y mixed there))

-- ---- events

-- what the lines of a file say, where its totals are stated so
abbrev file_events : (ℕ → Option (List ℕ)) → ℕ → List (List ℕ) → List EventEntry
file_events stated place [] = []
file_events stated place (name ∷ names) = record { place = place; name = name; stated = stated place } ∷ file_events stated (suc place) names

lines_say : (f : File) (place : ℕ) (names : List (List ℕ)) → map event_of_line (event_rows_from f place names) ≡ file_events (stated_at (stated_of f.format f.bytes)) place names
lines_say f place [] = refl
lines_say f place (name ∷ names) = ap (λ l. let e : EventEntry = record { place = place; name = name; stated = stated_at (stated_of f.format f.bytes) place } in e ∷ l) (lines_say f (suc place) names)

abbrev at_place : EventEntry → ℕ
at_place e = e.place

file_counts : (stated : ℕ → Option (List ℕ)) (place : ℕ) (names : List (List ℕ)) → Count at_place place (file_events stated place names)
file_counts stated place [] = tt
file_counts stated place (name ∷ names) = (refl, file_counts stated (suc place) names)

said_counts : (place : ℕ) (names : List (List ℕ)) (sums : List ℕ) → Count at_place place (events_from place names sums)
said_counts place [] sums = tt
said_counts place (name ∷ names) [] = (refl, said_counts (suc place) names [])
said_counts place (name ∷ names) (sum ∷ sums) = (refl, said_counts (suc place) names sums)

abbrev names_said : List EventEntry → List (List ℕ)
names_said command = map (λ (e : EventEntry). e.name) command

file_names : (stated : ℕ → Option (List ℕ)) (place : ℕ) (names : List (List ℕ)) → names_said (file_events stated place names) ≡ names
file_names stated place [] = refl
file_names stated place (name ∷ names) = ap (λ l. name ∷ l) (file_names stated (suc place) names)

said_names : (place : ℕ) (names : List (List ℕ)) (sums : List ℕ) → names_said (events_from place names sums) ≡ names
said_names place [] sums = refl
said_names place (name ∷ names) [] = ap (λ l. name ∷ l) (said_names (suc place) names [])
said_names place (name ∷ names) (sum ∷ sums) = ap (λ l. name ∷ l) (said_names (suc place) names sums)

-- ---- the totals that are stated

-- the first total that is said, in decimal
abbrev first_said : List EventEntry → Option (List ℕ)
first_said [] = None
first_said (e ∷ command) = e.stated

abbrev rest_said : List EventEntry → List EventEntry
rest_said [] = []
rest_said (e ∷ command) = command

same_totals : (stated : ℕ → Option (List ℕ)) (place : ℕ) (names events : List (List ℕ)) (totals sums : List ℕ)
    → ((i j : ℕ) → place + i ≡ j → stated j ≡ option_map decimal (slice_get totals i))
    → length totals ≡ length names → length sums ≡ length events → AllByRecursion IsSmall totals → file_events stated place names ≡ events_from place events sums → sums ≡ totals
same_totals stated place [] [] [] [] each many few small same = refl
same_totals stated place (name ∷ names) (event ∷ events) (total ∷ totals) (sum ∷ sums) each many few small same =
    let text : Some (decimal sum) ≡ Some (decimal total) = sym (ap first_said same) ∙ each 0 place (omega arith) in
    let told : decimal sum ≡ decimal total = cc in
    let many_left : length totals ≡ length names = omega (arith, many) in
    let few_left : length sums ≡ length events = omega (arith, few) in
    ap₂ ◌∷◌ (same_number sum total small.0 told) (same_totals stated (suc place) names events totals sums (λ i j is. each (suc i) j (omega (arith, is))) many_left few_left small.1 (ap rest_said same))
same_totals stated place [] (event ∷ events) totals [] each many few small same = absurd (omega (arith, few))
same_totals stated place [] (event ∷ events) totals (sum ∷ sums) each many few small same = absurd cc
same_totals stated place (name ∷ names) [] totals (sum ∷ sums) each many few small same = absurd (omega (arith, few))
same_totals stated place (name ∷ names) [] totals [] each many few small same = absurd (no_event same)
  where
    no_event : file_events stated place (name ∷ names) ≡ [] → ⊥
    no_event none = cc
same_totals stated place [] [] (total ∷ totals) sums each many few small same = absurd (omega (arith, many))
same_totals stated place [] [] [] (sum ∷ sums) each many few small same = absurd (omega (arith, few))
same_totals stated place (name ∷ names) (event ∷ events) [] sums each many few small same = absurd (omega (arith, many))
same_totals stated place (name ∷ names) (event ∷ events) (total ∷ totals) [] each many few small same = absurd (omega (arith, few))

told_stated : (names events : List (List ℕ)) (file head : Option (List ℕ)) → 0 < length events → AreTotalsFor names file → IfSome head (λ sums. length sums ≡ length events)
    → file_events (stated_at file) 0 names ≡ events_from 0 events (unwrap_or head []) → head ≡ file
told_stated names events None None some totals sums same = refl
told_stated names [] file head some totals sums same = absurd (omega (arith, some))
told_stated [] (event ∷ events) None (Some []) some totals sums same = absurd (omega (arith, sums))
told_stated [] (event ∷ events) None (Some (sum ∷ more)) some totals sums same = absurd cc
told_stated (name ∷ names) (event ∷ events) None (Some []) some totals sums same = absurd (omega (arith, sums))
told_stated (name ∷ names) (event ∷ events) None (Some (sum ∷ more)) some totals sums same = absurd (let none : None ≡ Some (decimal sum) = ap first_said same in cc)
told_stated [] (event ∷ events) (Some list) None some totals sums same = absurd cc
told_stated (name ∷ names) (event ∷ events) (Some []) None some totals sums same = absurd (let none : 0 ≡ suc (length names) = totals.0 in omega (arith, none))
told_stated (name ∷ names) (event ∷ events) (Some (total ∷ list)) None some totals sums same = absurd (let none : Some (decimal total) ≡ None = ap first_said same in cc)
told_stated names (event ∷ events) (Some list) (Some more) some totals sums same =
    ap Some (same_totals (stated_at (Some list)) 0 names (event ∷ events) list more (λ i j is. ap (λ k. option_map decimal (slice_get list k)) (let e : j ≡ i = omega (arith, is) in e)) totals.0 sums totals.1 same)

-- ---- derived events

abbrev Derived : Type 0
Derived = List ℕ × List ℕ

abbrev names_of : List Derived → List (List ℕ)
names_of ds = map (λ (d : Derived). d.0) ds

abbrev rows_of : List Derived → List (List ℕ)
rows_of ds = map (λ (d : Derived). d.1) ds

derived_rows_say : (run place : ℕ) (ds : List Derived) → map name_of_line (derived_rows_from run place ds) ≡ placed place (names_of ds)
derived_rows_say run place [] = refl
derived_rows_say run place (d ∷ ds) = ap (λ l. let p : PlacedName = record { place = place; name = d.0 } in p ∷ l) (derived_rows_say run (suc place) ds)

abbrev name_at : PlacedName → ℕ
name_at p = p.place

placed_counts : (place : ℕ) (names : List (List ℕ)) → Count name_at place (placed place names)
placed_counts place [] = tt
placed_counts place (name ∷ names) = (refl, placed_counts (suc place) names)

placed_names : (place : ℕ) (names : List (List ℕ)) → map (λ (p : PlacedName). p.name) (placed place names) ≡ names
placed_names place [] = refl
placed_names place (name ∷ names) = ap (λ l. name ∷ l) (placed_names (suc place) names)

same_names : (xs ys : List (List ℕ)) → placed 0 xs ≡ placed 0 ys → xs ≡ ys
same_names xs ys same = sym (placed_names 0 xs) ∙ ap (map (λ (p : PlacedName). p.name)) same ∙ placed_names 0 ys

-- ---- coefficients

-- the lines of a file say them in the same way
row_said : (run place event : ℕ) (row : List ℕ) → map coef_of_line (coef_rows_at run place event row) ≡ coefs_at place event row
row_said run place event [] = refl
row_said run place event (times ∷ row) = go (nat_lt 0 times) (row_said run place (suc event) row)
  where
    go : (b : Bool) → map coef_of_line (coef_rows_at run place (suc event) row) ≡ coefs_at place (suc event) row
        → map coef_of_line (if b then record { run = run; place = place; event = event; times = times } ∷ coef_rows_at run place (suc event) row else coef_rows_at run place (suc event) row)
        ≡ (if b then record { place = place; event = event; times = times } ∷ coefs_at place (suc event) row else coefs_at place (suc event) row)
    go true rest = ap₂ ◌∷◌ refl rest
    go false rest = rest

coef_rows_say : (run place : ℕ) (ds : List Derived) → map coef_of_line (coef_rows_from run place ds) ≡ coefs_from place (rows_of ds)
coef_rows_say run place [] = refl
coef_rows_say run place (d ∷ ds) =
    map-append coef_of_line (coef_rows_at run place 0 d.1) (coef_rows_from run (suc place) ds)
    ∙ ap₂ ◌++◌ (row_said run place 0 d.1) (coef_rows_say run (suc place) ds)

-- how often they count an event at a place
abbrev times_of : ℕ → ℕ → CoefEntry → ℕ
times_of p e c = if (c.place == p) && (c.event == e) then c.times else 0

abbrev times_said : ℕ → ℕ → List CoefEntry → ℕ
times_said p e cs = sum_by (times_of p e) cs

-- how often rows do
abbrev times_at : List (List ℕ) → ℕ → ℕ → ℕ → ℕ
times_at [] place p e = 0
times_at (row ∷ rows) place p e = (if place == p then slice_index row e else 0) + times_at rows (suc place) p e

row_times : (place p e k : ℕ) (row : List ℕ) → times_said p e (coefs_at place k row) ≡ (if place == p then column_from k e row else 0)
row_times place p e k [] = nothing_each_way (place == p)
row_times place p e k (zero ∷ row) = row_times place p e (suc k) row ∙ none_more (place == p) (k == e) (column_from (suc k) e row)
row_times place p e k (suc n ∷ row) =
    ap (λ b. times_said p e (if b then record { place = place; event = k; times = suc n } ∷ coefs_at place (suc k) row else coefs_at place (suc k) row)) (is_above n)
    ∙ sum_by-cons (times_of p e) (record { place = place; event = k; times = suc n }) (coefs_at place (suc k) row)
    ∙ ap (λ m. (if (place == p) && (k == e) then suc n else 0) + m) (row_times place p e (suc k) row)
    ∙ one_more (place == p) (k == e) (suc n) (column_from (suc k) e row)

all_times : (place p e : ℕ) (rows : List (List ℕ)) → times_said p e (coefs_from place rows) ≡ times_at rows place p e
all_times place p e [] = refl
all_times place p e (row ∷ rows) =
    sum_by-append (times_of p e) (coefs_at place 0 row) (coefs_from (suc place) rows)
    ∙ ap₂ ◌+◌ (row_times place p e 0 row ∙ ap (λ n. if place == p then n else 0) (column-at 0 e e row (omega arith))) (all_times (suc place) p e rows)

not_there : (place p n : ℕ) → p < place → (if place == p then n else 0) ≡ 0
not_there place p n low = grind (arith, nat_tests)

is_there : (place n : ℕ) → (if place == place then n else 0) ≡ n
is_there place n = grind (arith, nat_tests)

none_before : (rows : List (List ℕ)) (place p e : ℕ) → p < place → times_at rows place p e ≡ 0
none_before [] place p e low = refl
none_before (row ∷ rows) place p e low =
    let first : (if place == p then slice_index row e else 0) ≡ 0 = not_there place p (slice_index row e) low in
    let rest : times_at rows (suc place) p e ≡ 0 = none_before rows (suc place) p e (omega arith) in
    omega (arith, first, rest)

first_times : (row : List ℕ) (rows : List (List ℕ)) (place e : ℕ) → times_at (row ∷ rows) place place e ≡ slice_index row e
first_times row rows place e =
    let first : (if place == place then slice_index row e else 0) ≡ slice_index row e = is_there place (slice_index row e) in
    let rest : times_at rows (suc place) place e ≡ 0 = none_before rows (suc place) place e (omega arith) in
    omega (arith, first, rest)

same_row : (xs ys : List ℕ) → length xs ≡ length ys → ((e : ℕ) → slice_index xs e ≡ slice_index ys e) → xs ≡ ys
same_row [] [] long same = refl
same_row [] (y ∷ ys) long same = absurd (omega (arith, long))
same_row (x ∷ xs) [] long same = absurd (omega (arith, long))
same_row (x ∷ xs) (y ∷ ys) long same = ap₂ ◌∷◌ (same 0) (same_row xs ys (let e : suc (length xs) ≡ suc (length ys) = long in omega (arith, e)) (λ e. same (suc e)))

-- each row has so many
abbrev AreWide : ℕ → List (List ℕ) → Type 0
AreWide n rows = AllByRecursion (λ (row : List ℕ). length row ≡ n) rows

left : (a b x y : ℕ) → a ≡ b → a + x ≡ b + y → x ≡ y
left a b x y is sums = omega (arith, is, sums)

same_rows : (n place : ℕ) (xs ys : List (List ℕ)) → length xs ≡ length ys → AreWide n xs → AreWide n ys → ((p e : ℕ) → times_at xs place p e ≡ times_at ys place p e) → xs ≡ ys
same_rows n place [] [] long wide_x wide_y same = refl
same_rows n place [] (y ∷ ys) long wide_x wide_y same = absurd (omega (arith, long))
same_rows n place (x ∷ xs) [] long wide_x wide_y same = absurd (omega (arith, long))
same_rows n place (x ∷ xs) (y ∷ ys) long wide_x wide_y same =
    let row : x ≡ y = same_row x y (wide_x.0 ∙ sym wide_y.0) (λ e. sym (first_times x xs place e) ∙ same place e ∙ first_times y ys place e) in
    let rest : length xs ≡ length ys = omega (arith, long) in
    ap₂ ◌∷◌ row
    (same_rows n (suc place) xs ys rest wide_x.1 wide_y.1
    (λ p e. left (if place == p then slice_index x e else 0) (if place == p then slice_index y e else 0) (times_at xs (suc place) p e) (times_at ys (suc place) p e) (ap (λ r. if place == p then slice_index r e else 0) row) (same p e)))

same_pair : (d e : Derived) → d.0 ≡ e.0 → d.1 ≡ e.1 → d ≡ e
same_pair d e name row = let one : (d.0, d.1) ≡ (e.0, e.1) = ap₂ (λ a b. let p : Derived = (a, b) in p) name row in one

same_pairs : (ds es : List Derived) → names_of ds ≡ names_of es → rows_of ds ≡ rows_of es → ds ≡ es
same_pairs [] [] names rows = refl
same_pairs [] (e ∷ es) names rows = absurd cc
same_pairs (d ∷ ds) [] names rows = absurd cc
same_pairs (d ∷ ds) (e ∷ es) names rows =
    let name : d.0 ≡ e.0 = cc in
    let row : d.1 ≡ e.1 = cc in
    let later_names : names_of ds ≡ names_of es = cc in
    let later_rows : rows_of ds ≡ rows_of es = cc in
    go (same_pair d e name row) (same_pairs ds es later_names later_rows)
  where
    go : d ≡ e → ds ≡ es → d ∷ ds ≡ e ∷ es
    go first later = ap₂ ◌∷◌ first later

many_rows : (ds : List Derived) → length (rows_of ds) ≡ length (names_of ds)
many_rows ds = length-map ds (λ (d : Derived). d.1) ∙ sym (length-map ds (λ (d : Derived). d.0))

-- a file's derived events count each of its events
rows_wide : (events names : List (List ℕ)) (row : List ℕ → List ℕ) → ((name : List ℕ) → length (row name) ≡ length events) → AreWide (length events) (rows_of (map (λ name. let d : Derived = (name, row name) in d) names))
rows_wide events [] row wide = tt
rows_wide events (name ∷ names) row wide = (wide name, rows_wide events names row wide)

file_wide : (format : Format) (bytes : List ℕ) → AreWide (length (events_of format bytes)) (rows_of (derived_of format bytes))
file_wide (Callgrind g) bytes =
    rows_wide (events_by g bytes) (derived_names (definitions_by g bytes)) (λ name. map (λ event. coefficient event name (definitions_by g bytes)) (events_by g bytes))
    (λ name. length-map (events_by g bytes) (λ event. coefficient event name (definitions_by g bytes)))
file_wide Folded bytes = tt

-- ---- the head

pub head_told : (f : File) (t : Tables) (line : RunRow) (head : FileHead) → IsShort f → IsBookOf f (run_held t line) → IsHeadIn line.number t head → HeadAgrees f head
head_told f t line head short book is =
    let sound = is.sound in
    let stated : ℕ → Option (List ℕ) = stated_at (stated_of f.format f.bytes) in
    let names : List (List ℕ) = events_of f.format f.bytes in
    let ds : List Derived = derived_of f.format f.bytes in
    let es : List Derived = head.derived.derived in
    let command : file_events stated 0 names ≡ event_entries head =
    same_order at_place 0 (file_events stated 0 names) (event_entries head) (file_counts stated 0 names) (said_counts 0 head.events (unwrap_or head.stated []))
    (subst (λ l. IsPermutation l (event_entries head)) (lines_say f 0 names) (subst (λ lines. IsPermutation (map event_of_line lines) (event_entries head)) book.events is.events_are)) in
    let events : head.events ≡ names = sym (said_names 0 head.events (unwrap_or head.stated [])) ∙ ap names_said (sym command) ∙ file_names stated 0 names in
    let derived_names_are : names_of ds ≡ names_of es =
    same_names (names_of ds) (names_of es)
    (same_order name_at 0 (placed 0 (names_of ds)) (derived_entries head) (placed_counts 0 (names_of ds)) (placed_counts 0 (names_of es))
    (subst (λ l. IsPermutation l (derived_entries head)) (derived_rows_say f.number 0 ds) (subst (λ lines. IsPermutation (map name_of_line lines) (derived_entries head)) book.derived is.derived_are))) in
    let coefs : IsPermutation (coefs_from 0 (rows_of ds)) (coefs_from 0 (rows_of es)) =
    subst (λ l. IsPermutation l (coefs_from 0 (rows_of es))) (coef_rows_say f.number 0 ds) (subst (λ lines. IsPermutation (map coef_of_line lines) (coefs_from 0 (rows_of es))) book.coefs is.coefs_are) in
    let wide : AreWide (length head.derived.events) (rows_of es) =
    all_map (λ (d : Derived). length d.1 ≡ length head.derived.events) (λ (row : List ℕ). length row ≡ length head.derived.events) (λ (d : Derived). d.1) es (λ d is_wide. is_wide)
    (recursion_from_All (λ (d : Derived). length d.1 ≡ length head.derived.events) es head.derived.shape) in
    let rows : rows_of ds ≡ rows_of es =
    same_rows (length names) 0 (rows_of ds) (rows_of es) (many_rows ds ∙ ap length derived_names_are ∙ sym (many_rows es)) (file_wide f.format f.bytes)
    (subst (λ n. AreWide n (rows_of es)) (ap length (sound.events_same ∙ events)) wide)
    (λ p e. sym (all_times 0 p e (rows_of ds)) ∙ sym (sum_by-IsPermutation (times_of p e) (coefs_from 0 (rows_of ds)) (coefs_from 0 (rows_of es)) coefs) ∙ all_times 0 p e (rows_of es)) in
    record {
      events = events;
      wide = sound.events_same;
      derived = sym (same_pairs ds es derived_names_are rows);
      stated = λ some. told_stated names head.events (stated_of f.format f.bytes) head.stated some (file_totals f.format f.bytes short) sound.stated_all command;
    }

-- ---- of a file that a history holds

pub held_head_told : (h : History) (t : Tables) (f : File) (head : FileHead) → TablesRepresent h t → Has (held h) f → IsHeadIn f.number t head → HeadAgrees f head
held_head_told h t f head represent there is =
    let run = run_of t t.runs (held h) f represent.runs there in
    head_told f t run.line head (all_has IsShort (held h) f (held_short h represent.legal) there) run.book (subst (λ n. IsHeadIn n t head) (sym run.book.number) is)

-- what is verified by a head is what is verified by the file, which states nothing where it has no event
pub verified_told : (f : File) (head : FileHead) (run : ℕ) (sums : List ℕ) → HeadAgrees f head → verified run head.events sums head.stated ≡ verified run (events_of f.format f.bytes) sums (stated_of f.format f.bytes)
verified_told f head run sums told = ap (λ events. verified run events sums head.stated) told.events ∙ go (events_of f.format f.bytes) (λ some. told.stated (subst (λ events. 0 < length events) (sym told.events) some))
  where
    go : (events : List (List ℕ)) → (0 < length events → head.stated ≡ stated_of f.format f.bytes) → verified run events sums head.stated ≡ verified run events sums (stated_of f.format f.bytes)
    go [] stated = refl
    go (event ∷ events) stated = ap (verified run (event ∷ events) sums) (stated (omega arith))
