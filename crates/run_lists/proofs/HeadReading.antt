-- From the lines of a head to the head that they say.
use Rattle.std.proofs.Common.{◌≡◌, ℕ, suc, ◌+◌, ◌-◌, ◌≤◌, arith, nat_lt, if◌then◌else◌, Bool, true, false, List, [], ◌∷◌, ◌++◌, map, take, drop, length, Option, Some, None, unwrap_or, option_map, string_bytes, refl, sym, ap, ap₂, ◌∙◌, append-nil, append_assoc, All, subst}
use Rattle.std.specs.Fmt.{decimal}
use Rattle.std.specs.Option.{IfSome}
use Rattle.std.proofs.lemmas.List.Elements.{All-head, All-tail}
use Rattle.std.proofs.lemmas.List.{take_all, length-drop, length-map, map-append}
use Rattle.sqlite_trees.proofs.ListLemmas.{map-map}
use Rattle.cg_formulas.specs.declared.heads.FileHead.{FileHead}
use Rattle.run_stores.specs.HeldHeads.{CoefEntry, EventEntry, PlacedName, coefs_at, coefs_from, events_from, placed}
use Rattle.run_lists.specs.HeadLines.{States, IsReadFrom, event_place, event_total, entry_of_event, derived_place}
use Rattle.run_lists.specs.declared.head_lines.HeadEvent.{HeadEvent}
use Rattle.run_lists.specs.declared.head_lines.HeadDerived.{HeadDerived}
use Rattle.run_lists.specs.declared.head_lines.HeadCoef.{HeadCoef}
use Rattle.run_lists.proofs.Steps.{take_sum}

-- ---- names

abbrev pub at_place : ℕ → List ℕ → PlacedName
at_place place name = record { place = place; name = name }

placed-append : (at : ℕ) (names : List (List ℕ)) (name : List ℕ) → placed at (names ++ name ∷ []) ≡ placed at names ++ at_place (at + length names) name ∷ []
placed-append at [] name = ap (λ k. at_place k name ∷ []) (omega arith)
placed-append at (first ∷ names) name =
    ap (λ l. at_place at first ∷ l) (placed-append (suc at) names name ∙ ap (λ k. placed (suc at) names ++ at_place k name ∷ []) (omega arith))

pub placed-one_more : (names : List (List ℕ)) (name : List ℕ) → placed 0 (names ++ name ∷ []) ≡ placed 0 names ++ at_place (length names) name ∷ []
placed-one_more names name = placed-append 0 names name ∙ ap (λ k. placed 0 names ++ at_place k name ∷ []) (omega arith)

pub placed_names : (at : ℕ) (names : List (List ℕ)) → map (λ (p : PlacedName). p.name) (placed at names) ≡ names
placed_names at [] = refl
placed_names at (name ∷ names) = ap (λ l. name ∷ l) (placed_names (suc at) names)

-- ---- events

abbrev said : ℕ → List ℕ → EventEntry
said place name = record { place = place; name = name; stated = None }

pub said_without : (at : ℕ) (lines : List HeadEvent) (names : List (List ℕ)) → map event_place lines ≡ placed at names → All (λ (line : HeadEvent). line.stated ≡ None) lines → map entry_of_event lines ≡ events_from at names []
said_without at [] [] places none = refl
said_without at [] (name ∷ names) places none = absurd cc
said_without at (line ∷ lines) [] places none = absurd cc
said_without at (line ∷ lines) (name ∷ names) places none =
    let same : event_place line ≡ at_place at name = cc in
    let place : line.place ≡ at = ap (λ (p : PlacedName). p.place) same in
    let named : line.name.items ≡ name = ap (λ (p : PlacedName). p.name) same in
    let total : line.stated ≡ None = All-head (λ (x : HeadEvent). x.stated ≡ None) line lines none in
    let more : map event_place lines ≡ placed (suc at) names = cc in
    let one : entry_of_event line ≡ said at name = ap₂ (λ p n. record { place = p; name = n; stated = event_total line }) place named ∙ ap (λ s. record { place = at; name = name; stated = option_map string_bytes s }) total in
    ap₂ ◌∷◌ one (said_without (suc at) lines names more (All-tail (λ (x : HeadEvent). x.stated ≡ None) line lines none))

pub said_with : (at : ℕ) (lines : List HeadEvent) (names : List (List ℕ)) (sums : List ℕ) → map event_place lines ≡ placed at names → map event_total lines ≡ map (λ n. Some (decimal n)) sums → map entry_of_event lines ≡ events_from at names sums
said_with at [] [] sums places totals = refl
said_with at [] (name ∷ names) sums places totals = absurd cc
said_with at (line ∷ lines) [] sums places totals = absurd cc
said_with at (line ∷ lines) (name ∷ names) [] places totals = absurd cc
said_with at (line ∷ lines) (name ∷ names) (n ∷ sums) places totals =
    let same : event_place line ≡ at_place at name = cc in
    let place : line.place ≡ at = ap (λ (p : PlacedName). p.place) same in
    let named : line.name.items ≡ name = ap (λ (p : PlacedName). p.name) same in
    let total : event_total line ≡ Some (decimal n) = cc in
    let more_places : map event_place lines ≡ placed (suc at) names = cc in
    let more_totals : map event_total lines ≡ map (λ n. Some (decimal n)) sums = cc in
    let one : entry_of_event line ≡ record { place = at; name = name; stated = Some (decimal n) } =
    ap₂ (λ p m. record { place = p; name = m; stated = event_total line }) place named ∙ ap (λ s. record { place = at; name = name; stated = s }) total in
    ap₂ ◌∷◌ one (said_with (suc at) lines names sums more_places more_totals)

pub said_events : (lines : List HeadEvent) (names : List (List ℕ)) (stated : Option (List ℕ)) → map event_place lines ≡ placed 0 names → States lines stated → map entry_of_event lines ≡ events_from 0 names (unwrap_or stated [])
said_events lines names None places none = said_without 0 lines names places none
said_events lines names (Some sums) places totals = said_with 0 lines names sums places totals

pub length-placed : (at : ℕ) (names : List (List ℕ)) → length (placed at names) ≡ length names
length-placed at [] = refl
length-placed at (name ∷ names) = ap suc (length-placed (suc at) names)

pub stated_for_all : (lines : List HeadEvent) (names : List (List ℕ)) (stated : Option (List ℕ)) → map event_place lines ≡ placed 0 names → States lines stated → IfSome stated (λ sums. length sums ≡ length names)
stated_for_all lines names None places none = tt
stated_for_all lines names (Some sums) places totals =
    sym (length-map sums (λ n. Some (decimal n))) ∙ sym (ap length totals) ∙ length-map lines event_total ∙ sym (length-map lines event_place) ∙ ap length places ∙ length-placed 0 names

pub names_of_places : (lines : List HeadEvent) (names : List (List ℕ)) → map event_place lines ≡ placed 0 names → names ≡ map (λ (line : HeadEvent). line.name.items) lines
names_of_places lines names places = sym (placed_names 0 names) ∙ ap (map (λ (p : PlacedName). p.name)) (sym places) ∙ map-map (λ (p : PlacedName). p.name) event_place lines

pub names_of_derived : (lines : List HeadDerived) (names : List (List ℕ)) → map derived_place lines ≡ placed 0 names → names ≡ map (λ (line : HeadDerived). line.name.items) lines
names_of_derived lines names places = sym (placed_names 0 names) ∙ ap (map (λ (p : PlacedName). p.name)) (sym places) ∙ map-map (λ (p : PlacedName). p.name) derived_place lines

-- ---- coefficients

coefs_at-append : (place event : ℕ) (row : List ℕ) (times : ℕ) → coefs_at place event (row ++ times ∷ []) ≡ coefs_at place event row ++ coefs_at place (event + length row) (times ∷ [])
coefs_at-append place event [] times = ap (λ k. coefs_at place k (times ∷ [])) (omega arith)
coefs_at-append place event (n ∷ row) times = go (nat_lt 0 n) (coefs_at-append place (suc event) row times ∙ ap (λ k. coefs_at place (suc event) row ++ coefs_at place k (times ∷ [])) (omega arith))
  where
    one : CoefEntry
    one = record { place = place; event = event; times = n }

    go : (b : Bool) → coefs_at place (suc event) (row ++ times ∷ []) ≡ coefs_at place (suc event) row ++ coefs_at place (event + suc (length row)) (times ∷ []) → (if b then one ∷ coefs_at place (suc event) (row ++ times ∷ []) else coefs_at place (suc event) (row ++ times ∷ []))
        ≡ (if b then one ∷ coefs_at place (suc event) row else coefs_at place (suc event) row) ++ coefs_at place (event + suc (length row)) (times ∷ [])
    go true more = ap (λ l. one ∷ l) more
    go false more = more

-- one event more, from the first on
pub coefs_at-one_more : (place : ℕ) (row : List ℕ) (times : ℕ) → coefs_at place 0 (row ++ times ∷ []) ≡ coefs_at place 0 row ++ coefs_at place (length row) (times ∷ [])
coefs_at-one_more place row times = coefs_at-append place 0 row times ∙ ap (λ k. coefs_at place 0 row ++ coefs_at place k (times ∷ [])) (omega arith)

coefs_from-append : (place : ℕ) (rows : List (List ℕ)) (row : List ℕ) → coefs_from place (rows ++ row ∷ []) ≡ coefs_from place rows ++ coefs_at (place + length rows) 0 row
coefs_from-append place [] row = append-nil (coefs_at place 0 row) ∙ ap (λ k. coefs_at k 0 row) (omega arith)
coefs_from-append place (first ∷ rows) row =
    ap (λ l. coefs_at place 0 first ++ l) (coefs_from-append (suc place) rows row ∙ ap (λ k. coefs_from (suc place) rows ++ coefs_at k 0 row) (omega arith))
    ∙ sym (append_assoc (coefs_at place 0 first) (coefs_from (suc place) rows) (coefs_at (place + suc (length rows)) 0 row))

pub coefs_from-one_more : (rows : List (List ℕ)) (row : List ℕ) → coefs_from 0 (rows ++ row ∷ []) ≡ coefs_from 0 rows ++ coefs_at (length rows) 0 row
coefs_from-one_more rows row = coefs_from-append 0 rows row ∙ ap (λ k. coefs_from 0 rows ++ coefs_at k 0 row) (omega arith)

-- ---- the steps of loops

-- the end of a list, as a range
pub rest_is : {X : Type 0} (at : ℕ) (xs : List X) → take (length xs - at) (drop at xs) ≡ drop at xs
rest_is at xs = take_all (length xs - at) (drop at xs) (omega (arith, length-drop at xs))

-- some lines more are read
pub read_part : {Y Z : Type 0} (f : Y → Z) (ys : List Y) (at more : ℕ) (zs ws : List Z) → at ≤ length ys → map f (take at ys) ≡ zs → map f (take more (take (length ys - at) (drop at ys))) ≡ ws → map f (take (at + more) ys) ≡ zs ++ ws
read_part f ys at more zs ws low h part =
    ap (map f) (take_sum at more ys) ∙ map-append f (take at ys) (take more (drop at ys)) ∙ ap₂ ◌++◌ h (ap (λ l. map f (take more l)) (sym (rest_is at ys)) ∙ part)

pub part_within : {Y : Type 0} (ys : List Y) (at more : ℕ) → at ≤ length ys → more ≤ length (take (length ys - at) (drop at ys)) → at + more ≤ length ys
part_within ys at more low within = omega (arith, low, within, ap length (rest_is at ys), length-drop at ys)

-- ---- the same lines

pub read_from_same : (head : FileHead) (events events' : List HeadEvent) (derived derived' : List HeadDerived) (coefs coefs' : List HeadCoef) → events ≡ events' → derived ≡ derived' → coefs ≡ coefs' → IsReadFrom head events derived coefs
    → IsReadFrom head events' derived' coefs'
read_from_same head events events' derived derived' coefs coefs' es ds cs read =
    subst (λ l. IsReadFrom head l derived' coefs') es (subst (λ l. IsReadFrom head events l coefs') ds (subst (λ l. IsReadFrom head events derived l) cs read))
