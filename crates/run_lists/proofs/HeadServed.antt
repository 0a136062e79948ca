-- From a head to the lines that say it.
use Rattle.std.proofs.Common.{◌≡◌, ℕ, zero, suc, ◌+◌, ◌<◌, ◌≤◌, ◌⊎◌, inl, inr, arith, nat_lt, if◌then◌else◌, Bool, true, false, List, [], ◌∷◌, ◌++◌, map, take, drop, length, get_or, Option, Some, None, unwrap_or, option_map, string_bytes, refl, sym, ap, ap₂, ◌∙◌, append_assoc, All, subst, sum}
use Rattle.std.specs.Fmt.{decimal}
use Rattle.std.specs.List.{slice_get}
use Rattle.std.specs.Option.{IfSome}
use Rattle.std.proofs.lemmas.List.Elements.{All-append, All-cons, All-get_or, All-head, All-nil, All-same, All-weaker}
use Rattle.std.proofs.lemmas.List.{append_cancel_left, drop_more, get_or-map, length-map, length-take-le, map-append, take-append-drop, take_more}
use Rattle.sqlite_trees.proofs.ListLemmas.{map-map}
use Rattle.cg_text.specs.Distinct.{are_distinct}
use Rattle.cg_formulas.specs.Flats.{IsFlat}
use Rattle.cg_formulas.specs.declared.heads.FileHead.{FileHead}
use Rattle.run_stores.specs.HeldHeads.{CoefEntry, EventEntry, PlacedName, coefs_at, coefs_from, derived_names, events_from, placed}
use Rattle.run_lists.specs.HeadLines.{IsReadFrom, States, event_place, event_total, entry_of_coef, entry_of_event}
use Rattle.run_lists.specs.declared.head_lines.HeadEvent.{HeadEvent}
use Rattle.run_lists.specs.declared.head_lines.HeadDerived.{HeadDerived}
use Rattle.run_lists.specs.declared.head_lines.HeadCoef.{HeadCoef}
use Rattle.run_lists.proofs.HeadReading.{at_place, length-placed, names_of_derived, names_of_places}

-- ---- names

placed_at : (at : ℕ) (names : List (List ℕ)) (i : ℕ) (d : PlacedName) → i < length names → get_or (placed at names) i d ≡ at_place (at + i) (get_or names i [])
placed_at at [] i d low = absurd (omega arith)
placed_at at (name ∷ names) zero d low = ap (λ k. at_place k name) (omega arith)
placed_at at (name ∷ names) (suc i) d low = placed_at (suc at) names i d (omega arith) ∙ ap (λ k. at_place k (get_or names i [])) (omega arith)

module _ {L : Type 0} (place_of : L → PlacedName) (lines : List L) (names : List (List ℕ)) (are : map place_of lines ≡ placed 0 names) where
  -- there are as many lines as names
  pub as_many : length lines ≡ length names
  as_many = sym (length-map lines place_of) ∙ ap length are ∙ length-placed 0 names

  -- each line has the name of its place
  pub line_placed : (i : ℕ) (line : L) → i < length lines → line ≡ get_or lines i line → place_of line ≡ at_place i (get_or names i [])
  line_placed i line low there =
      ap place_of there
      ∙ sym (get_or-map place_of lines i line (place_of line) low)
      ∙ ap (λ l. get_or l i (place_of line)) are
      ∙ placed_at 0 names i (place_of line) (omega (arith, as_many))
      ∙ ap (λ k. at_place k (get_or names i [])) (omega arith)

-- the place of a line is the number of those before it
pub next_place : {L : Type 0} (place_of : L → PlacedName) (lines : List L) (names done : List (List ℕ)) (i : ℕ) (line : L) → map place_of lines ≡ placed 0 names → map place_of (take i lines) ≡ placed 0 done → i < length lines → line ≡ get_or lines i line
    → (place_of line).place ≡ length done
next_place place_of lines names done i line are was low there =
    ap (λ (p : PlacedName). p.place) (line_placed place_of lines names are i line low there) ∙ sym (length-take-le i lines (omega (arith, low))) ∙ as_many place_of (take i lines) done was

-- ---- events

places_of : (at : ℕ) (names : List (List ℕ)) (sums : List ℕ) → map (λ (e : EventEntry). at_place e.place e.name) (events_from at names sums) ≡ placed at names
places_of at [] sums = refl
places_of at (name ∷ names) [] = ap (λ l. at_place at name ∷ l) (places_of (suc at) names [])
places_of at (name ∷ names) (sum ∷ sums) = ap (λ l. at_place at name ∷ l) (places_of (suc at) names sums)

-- the lines of a head's events have its names
pub places_said : (lines : List HeadEvent) (names : List (List ℕ)) (sums : List ℕ) → map entry_of_event lines ≡ events_from 0 names sums → map event_place lines ≡ placed 0 names
places_said lines names sums are = sym (map-map (λ (e : EventEntry). at_place e.place e.name) entry_of_event lines) ∙ ap (map (λ (e : EventEntry). at_place e.place e.name)) are ∙ places_of 0 names sums

totals_of : (at : ℕ) (names : List (List ℕ)) (sums : List ℕ) → length sums ≡ length names → map (λ (e : EventEntry). e.stated) (events_from at names sums) ≡ map (λ n. Some (decimal n)) sums
totals_of at [] [] same = refl
totals_of at [] (sum ∷ sums) same = absurd (omega (arith, same))
totals_of at (name ∷ names) [] same = absurd (omega (arith, same))
totals_of at (name ∷ names) (sum ∷ sums) same = ap (λ l. Some (decimal sum) ∷ l) (totals_of (suc at) names sums (omega (arith, same)))

none_mapped : {X Y : Type 0} (f : X → Y) (o : Option X) → option_map f o ≡ None → o ≡ None
none_mapped f None is = refl
none_mapped f (Some x) is = absurd cc

none_stated : (at : ℕ) (lines : List HeadEvent) (names : List (List ℕ)) → map entry_of_event lines ≡ events_from at names [] → All (λ (line : HeadEvent). line.stated ≡ None) lines
none_stated at [] names are = All-nil (λ (line : HeadEvent). line.stated ≡ None)
none_stated at (line ∷ lines) [] are = absurd cc
none_stated at (line ∷ lines) (name ∷ names) are =
    let same : entry_of_event line ≡ record { place = at; name = name; stated = None } = cc in
    let more : map entry_of_event lines ≡ events_from (suc at) names [] = cc in
    All-cons (λ (line : HeadEvent). line.stated ≡ None) line lines (none_mapped string_bytes line.stated (ap (λ (e : EventEntry). e.stated) same)) (none_stated (suc at) lines names more)

-- and they state its totals
pub states_said : (lines : List HeadEvent) (names : List (List ℕ)) (stated : Option (List ℕ)) → IfSome stated (λ sums. length sums ≡ length names) → map entry_of_event lines ≡ events_from 0 names (unwrap_or stated []) → States lines stated
states_said lines names None many are = none_stated 0 lines names are
states_said lines names (Some sums) many are = sym (map-map (λ (e : EventEntry). e.stated) entry_of_event lines) ∙ ap (map (λ (e : EventEntry). e.stated)) are ∙ totals_of 0 names sums many

-- the total of each line
module _ (lines : List HeadEvent) (sums : List ℕ) (are : map event_total lines ≡ map (λ n. Some (decimal n)) sums) where
  pub many_totals : length lines ≡ length sums
  many_totals = sym (length-map lines event_total) ∙ ap length are ∙ length-map sums (λ n. Some (decimal n))

  pub total_at : (i : ℕ) (line : HeadEvent) → i < length lines → line ≡ get_or lines i line → event_total line ≡ Some (decimal (get_or sums i 0))
  total_at i line low there =
      ap event_total there
      ∙ sym (get_or-map event_total lines i line None low)
      ∙ ap (λ l. get_or l i None) are
      ∙ get_or-map (λ n. Some (decimal n)) sums i 0 None (omega (arith, many_totals))

-- ---- the order of coefficients

-- it is of a derived event and of an event not before this one, or of a later derived event
abbrev pub IsFrom : ℕ → ℕ → CoefEntry → Type 0
IsFrom place event c = (place < c.place) ⊎ ((c.place ≡ place) × (event ≤ c.event))

from_before : (place event : ℕ) (c : CoefEntry) → IsFrom place (suc event) c → IsFrom place event c
from_before place event c (inl later) = inl later
from_before place event c (inr same) = inr (same.0, omega (arith, same.1))

-- those of a row, before those of later derived events
pub from_row : (place event : ℕ) (row : List ℕ) (rest : List CoefEntry) → All (λ c. place < c.place) rest → All (IsFrom place event) (coefs_at place event row ++ rest)
from_row place event [] rest later = All-weaker (λ c. place < c.place) (IsFrom place event) (λ c low. inl low) rest later
from_row place event (n ∷ row) rest later = go (nat_lt 0 n) (All-weaker (IsFrom place (suc event)) (IsFrom place event) (from_before place event) _ (from_row place (suc event) row rest later))
  where
    one : CoefEntry
    one = record { place = place; event = event; times = n }

    go : (b : Bool) → All (IsFrom place event) (coefs_at place (suc event) row ++ rest) → All (IsFrom place event) ((if b then one ∷ coefs_at place (suc event) row else coefs_at place (suc event) row) ++ rest)
    go true more = All-cons (IsFrom place event) one _ (inr (refl, omega arith)) more
    go false more = more

in_row : (place event : ℕ) (row : List ℕ) → All (λ c. c.place ≡ place) (coefs_at place event row)
in_row place event [] = All-nil (λ c. c.place ≡ place)
in_row place event (n ∷ row) = go (nat_lt 0 n) (in_row place (suc event) row)
  where
    one : CoefEntry
    one = record { place = place; event = event; times = n }

    go : (b : Bool) → All (λ c. c.place ≡ place) (coefs_at place (suc event) row) → All (λ c. c.place ≡ place) (if b then one ∷ coefs_at place (suc event) row else coefs_at place (suc event) row)
    go true more = All-cons (λ c. c.place ≡ place) one _ refl more
    go false more = more

-- those of later derived events
pub later_rows : (low place : ℕ) (rows : List (List ℕ)) → low < place → All (λ c. low < c.place) (coefs_from place rows)
later_rows low place [] before = All-nil (λ c. low < c.place)
later_rows low place (row ∷ rows) before =
    All-append (λ c. low < c.place) (coefs_at place 0 row) (coefs_from (suc place) rows) (All-weaker (λ c. c.place ≡ place) (λ c. low < c.place) (λ c same. omega (arith, same, before)) _ (in_row place 0 row))
    (later_rows low (suc place) rows (omega (arith, before)))

-- ---- the coefficient of the first line

-- a line of this place and event has its coefficient
pub first_said : (place event times : ℕ) (row : List ℕ) (rows : List (List ℕ)) (c : CoefEntry) (cs : List CoefEntry) → c ∷ cs ≡ coefs_at place event (times ∷ row) ++ coefs_from (suc place) rows → c.place ≡ place → c.event ≡ event
    → c.times ≡ times
first_said place event times row rows c cs is at of = go (nat_lt 0 times) is
  where
    one : CoefEntry
    one = record { place = place; event = event; times = times }

    later : IsFrom place (suc event) c → ⊥
    later (inl low) = omega (arith, low, at)
    later (inr same) = omega (arith, same.1, of)

    go : (b : Bool) → c ∷ cs ≡ (if b then one ∷ coefs_at place (suc event) row else coefs_at place (suc event) row) ++ coefs_from (suc place) rows → c.times ≡ times
    go true same = (let e : c ≡ one = cc in ap (λ (x : CoefEntry). x.times) e)
    go false same = absurd (later (All-head (IsFrom place (suc event)) c cs (All-same (IsFrom place (suc event)) (c ∷ cs) _ same (from_row place (suc event) row _ (later_rows place (suc place) rows (omega arith))))))

-- ---- parts of rows, and of lists of rows

coefs_at-parts : (place event : ℕ) (front back : List ℕ) → coefs_at place event (front ++ back) ≡ coefs_at place event front ++ coefs_at place (event + length front) back
coefs_at-parts place event [] back = ap (λ k. coefs_at place k back) (omega arith)
coefs_at-parts place event (n ∷ front) back = go (nat_lt 0 n) (coefs_at-parts place (suc event) front back ∙ ap (λ k. coefs_at place (suc event) front ++ coefs_at place k back) (omega arith))
  where
    one : CoefEntry
    one = record { place = place; event = event; times = n }

    go : (b : Bool) → coefs_at place (suc event) (front ++ back) ≡ coefs_at place (suc event) front ++ coefs_at place (event + suc (length front)) back → (if b then one ∷ coefs_at place (suc event) (front ++ back) else coefs_at place (suc event) (front ++ back))
        ≡ (if b then one ∷ coefs_at place (suc event) front else coefs_at place (suc event) front) ++ coefs_at place (event + suc (length front)) back
    go true more = ap (λ l. one ∷ l) more
    go false more = more

coefs_from-parts : (place : ℕ) (front back : List (List ℕ)) → coefs_from place (front ++ back) ≡ coefs_from place front ++ coefs_from (place + length front) back
coefs_from-parts place [] back = ap (λ k. coefs_from k back) (omega arith)
coefs_from-parts place (row ∷ front) back =
    ap (λ l. coefs_at place 0 row ++ l) (coefs_from-parts (suc place) front back ∙ ap (λ k. coefs_from (suc place) front ++ coefs_from k back) (omega arith))
    ∙ sym (append_assoc (coefs_at place 0 row) (coefs_from (suc place) front) _)

-- lines behind those that were read say the rest
rest_said : (coefs : List HeadCoef) (used : ℕ) (front back : List CoefEntry) → map entry_of_coef (take used coefs) ≡ front → map entry_of_coef coefs ≡ front ++ back → map entry_of_coef (drop used coefs) ≡ back
rest_said coefs used front back was all =
    append_cancel_left front _ _ (ap (λ l. l ++ map entry_of_coef (drop used coefs)) (sym was) ∙ sym (map-append entry_of_coef (take used coefs) (drop used coefs)) ∙ ap (map entry_of_coef) (take-append-drop used coefs) ∙ all)

-- behind the lines of a row's first events are those of its other events, and of later rows
pub rest_of_row : (place event used : ℕ) (coefs : List HeadCoef) (done row : List ℕ) (rows : List (List ℕ)) → event < length row → done ≡ take event row → map entry_of_coef (take used coefs) ≡ coefs_at place 0 done
    → map entry_of_coef coefs ≡ coefs_from place (row ∷ rows) → map entry_of_coef (drop used coefs) ≡ coefs_at place event (get_or row event 0 ∷ drop (event + 1) row) ++ coefs_from (suc place) rows
rest_of_row place event used coefs done row rows low is was all =
    let parts : coefs_at place 0 row ≡ coefs_at place 0 done ++ coefs_at place event (get_or row event 0 ∷ drop (event + 1) row) =
    ap (coefs_at place 0) (sym (take-append-drop event row))
    ∙ coefs_at-parts place 0 (take event row) (drop event row)
    ∙ ap₂ (λ k l. coefs_at place 0 (take event row) ++ coefs_at place k l) (omega (arith, length-take-le event row (omega (arith, low)))) (drop_more row event 0 low)
    ∙ ap (λ l. coefs_at place 0 l ++ coefs_at place event (get_or row event 0 ∷ drop (event + 1) row)) (sym is) in
    rest_said coefs used (coefs_at place 0 done) _ was (all ∙ ap (λ l. l ++ coefs_from (suc place) rows) parts ∙ append_assoc (coefs_at place 0 done) _ (coefs_from (suc place) rows))

-- and behind those of the first rows are those of the others
pub rest_of_rows : (at used : ℕ) (coefs : List HeadCoef) (done rows : List (List ℕ)) → at < length rows → done ≡ take at rows → map entry_of_coef (take used coefs) ≡ coefs_from 0 done → map entry_of_coef coefs ≡ coefs_from 0 rows
    → map entry_of_coef (drop used coefs) ≡ coefs_from at (get_or rows at [] ∷ drop (at + 1) rows)
rest_of_rows at used coefs done rows low is was all =
    let parts : coefs_from 0 rows ≡ coefs_from 0 done ++ coefs_from at (get_or rows at [] ∷ drop (at + 1) rows) =
    ap (coefs_from 0) (sym (take-append-drop at rows))
    ∙ coefs_from-parts 0 (take at rows) (drop at rows)
    ∙ ap₂ (λ k l. coefs_from 0 (take at rows) ++ coefs_from k l) (omega (arith, length-take-le at rows (omega (arith, low)))) (drop_more rows at [] low)
    ∙ ap (λ l. coefs_from 0 l ++ coefs_from at (get_or rows at [] ∷ drop (at + 1) rows)) (sym is) in
    rest_said coefs used (coefs_from 0 done) _ was (all ∙ parts)

-- ---- steps

pub first_of : {X : Type 0} (xs : List X) (x : X) → Some x ≡ slice_get xs 0 → xs ≡ x ∷ drop 1 xs
first_of [] x is = absurd cc
first_of (y ∷ xs) x is = cc

-- one more of those that are wanted
pub one_more : {X : Type 0} (xs : List X) (i : ℕ) (done new : List X) (x : X) → i < length xs → done ≡ take i xs → new ≡ done ++ x ∷ [] → x ≡ get_or xs i x → new ≡ take (i + 1) xs
one_more xs i done new x low was pushed is = pushed ∙ ap₂ (λ l y. l ++ y ∷ []) was is ∙ sym (take_more xs i x low)

-- ---- derived events

abbrev pub name_of : List ℕ × List ℕ → List ℕ
name_of d = d.0

abbrev pub row_of : List ℕ × List ℕ → List ℕ
row_of d = d.1

-- with its name and its row it is the derived event of its place
pub next_derived : (wanted : List (List ℕ × List ℕ)) (at : ℕ) (name row : List ℕ) → at < length wanted → name ≡ get_or (map name_of wanted) at [] → row ≡ get_or (map row_of wanted) at [] → (name, row) ≡ get_or wanted at (name, row)
next_derived wanted at name row low named counted = ap₂ (λ n r. (n, r)) (named ∙ get_or-map name_of wanted at (name, row) [] low) (counted ∙ get_or-map row_of wanted at (name, row) [] low)

pub wide_row : (wanted : List (List ℕ × List ℕ)) (at many : ℕ) → at < length wanted → All (λ d. length d.1 ≡ many) wanted → length (get_or (map row_of wanted) at []) ≡ many
wide_row wanted at many low wide = ap length (get_or-map row_of wanted at ([], []) [] low) ∙ All-get_or (λ d. length d.1 ≡ many) wanted at ([], []) low wide

-- lines that say all coefficients are all lines
pub all_used : (coefs : List HeadCoef) (used : ℕ) (said : List CoefEntry) → used ≤ length coefs → map entry_of_coef (take used coefs) ≡ said → map entry_of_coef coefs ≡ said → used ≡ length coefs
all_used coefs used said within was all =
    sym (length-take-le used coefs within) ∙ sym (length-map (take used coefs) entry_of_coef) ∙ ap length (was ∙ sym all) ∙ length-map coefs entry_of_coef

-- ---- the head

module _ (head : FileHead) (events : List HeadEvent) (derived : List HeadDerived) (coefs : List HeadCoef) (read : IsReadFrom head events derived coefs) where
  pub has_places : map event_place events ≡ placed 0 head.events
  has_places = places_said events head.events (unwrap_or head.stated []) read.events_are

  pub has_totals : States events head.stated
  has_totals = states_said events head.events head.stated read.sound.stated_all read.events_are

  pub has_names : (names : List (List ℕ)) → map event_place events ≡ placed 0 names → names ≡ head.events
  has_names names are = names_of_places events names are ∙ sym (names_of_places events head.events has_places)

  pub has_distinct : (all : List (List ℕ)) → all ≡ map (λ (e : HeadEvent). e.name.items) events ++ map (λ (d : HeadDerived). d.name.items) derived → are_distinct all ≡ true
  has_distinct all is = ap are_distinct (is ∙ ap₂ ◌++◌ (sym (names_of_places events head.events has_places)) (sym (names_of_derived derived (derived_names head) read.derived_are))) ∙ read.sound.distinct

  -- each derived event has a coefficient for each name
  pub has_rows : (names : List (List ℕ)) → map event_place events ≡ placed 0 names → All (λ d. length d.1 ≡ length names) head.derived.derived
  has_rows names are = λ k d low. head.derived.shape k d low ∙ ap length (read.sound.events_same ∙ sym (has_names names are))

  -- so its coefficients are in form
  pub has_flat : (names : List (List ℕ)) (rows : List (List ℕ × List ℕ)) → map event_place events ≡ placed 0 names → rows ≡ head.derived.derived → IsFlat names rows
  has_flat names rows are same =
      (ap are_distinct (has_names names are ∙ sym read.sound.events_same) ∙ head.derived.distinct, subst (All (λ d. (length d.1 ≡ length names) × (sum d.1 ≤ 1000000))) (sym same) (λ k d low. (has_rows names are k d low, head.derived.small k d low)))
