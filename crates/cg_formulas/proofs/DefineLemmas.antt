-- What one more definition of a new name yields.
use Rattle.std.proofs.Common.{ℕ, suc, ◌≡◌, ◌+◌, ◌<◌, ◌≤◌, true, false, List, [], ◌∷◌, ◌++◌, map, length, sum, position, Option, Some, None, is_some, refl, sym, ap, ◌∙◌, subst, arith}
use Rattle.std.specs.List.{list_any, list_all}
use Rattle.std.specs.Str.{bytes_eq}
use Rattle.std.proofs.lemmas.Bool.{or_parts, lt-ltb, le-ltb}
use Rattle.std.proofs.lemmas.Grind.{common_steps}
use Rattle.std.proofs.lemmas.List.{map-append}
use Rattle.std.proofs.lemmas.List.Sums.{sum_by-cons}
use Rattle.cg_formulas.specs.Formulas.{Definition, defines, is_defined, is_known, is_changed, coefficient, coefficients, derived_names, definition_fault, formula_fault, derived_of}
use Rattle.cg_formulas.specs.Rows.{counted, IsRow, capped}
use Rattle.cg_text.specs.declared.faults.Fault.{Fault}
use Rattle.cg_text.specs.declared.faults.Fault.TheVariants.{EventTwice, TooManyEvents, FormulaUnknown, FormulaTooLarge}
use Rattle.cg_formulas.proofs.RepeatLemmas.{none-from, maps-same, name-itself}
use Rattle.cg_formulas.proofs.HeldLemmas.{names-defined}
use Rattle.cg_formulas.proofs.FlatLemmas.{found-any, found-none, names-apart}

-- ---- faults

is_event_by : (o : Option ℕ) (name : List ℕ) (events : List (List ℕ)) → position (bytes_eq name) events ≡ o → is_some o ≡ list_any (bytes_eq name) events
is_event_by None name events h = sym (found-none name events h)
is_event_by (Some i) name events h = sym (found-any name events i h)

pub is_event : (name : List ℕ) (events : List (List ℕ)) → is_some (position (bytes_eq name) events) ≡ list_any (bytes_eq name) events
is_event name events = is_event_by (position (bytes_eq name) events) name events refl

-- a new name changes none
new-unchanged : (d : Definition) (back : List Definition) → is_defined d.name back ≡ false → is_changed d back ≡ false
new-unchanged d [] new = refl
new-unchanged d (e ∷ back) new =
    let parts = or_parts (defines d.name e) (is_defined d.name back) new in
    rw parts.0 (new-unchanged d back parts.1)

new-names : (d : Definition) (back : List Definition) → is_defined d.name back ≡ false → derived_names (d ∷ back) ≡ derived_names back ++ d.name ∷ []
new-names d back new = rw new refl

count-new : (d : Definition) (back : List Definition) → is_defined d.name back ≡ false → length (derived_names (d ∷ back)) ≡ length (derived_names back) + 1
count-new d back new =
    let more : length (derived_names back ++ d.name ∷ []) ≡ length (derived_names back) + 1 = grind (arith, common_steps) in
    ap length (new-names d back new) ∙ more

first-own : (events : List (List ℕ)) (d : Definition) (back : List Definition) (f : Fault) → formula_fault events back ≡ None → definition_fault events d back ≡ Some f → formula_fault events (d ∷ back) ≡ Some (f, d.line)
first-own events d back f free own = rw (free, own) refl

pub fault-event : (events : List (List ℕ)) (d : Definition) (back : List Definition) → formula_fault events back ≡ None → list_any (bytes_eq d.name) events ≡ true → formula_fault events (d ∷ back) ≡ Some (EventTwice, d.line)
fault-event events d back free event = first-own events d back EventTwice free (rw event refl)

pub fault-many : (events : List (List ℕ)) (d : Definition) (back : List Definition) → formula_fault events back ≡ None → list_any (bytes_eq d.name) events ≡ false → is_defined d.name back ≡ false → 64 ≤ length (derived_names back)
    → formula_fault events (d ∷ back) ≡ Some (TooManyEvents, d.line)
fault-many events d back free event new many =
    let count = count-new d back new in
    let more : 64 < length (derived_names (d ∷ back)) = omega (arith, count, many) in
    let test = lt-ltb 64 (length (derived_names (d ∷ back))) more in
    first-own events d back TooManyEvents free (rw (event, new-unchanged d back new) (rw test refl))

pub fault-unknown : (events : List (List ℕ)) (d : Definition) (back : List Definition) → formula_fault events back ≡ None → list_any (bytes_eq d.name) events ≡ false → is_defined d.name back ≡ false → length (derived_names back) < 64
    → list_all (λ t. is_known events back t.1) d.terms ≡ false → formula_fault events (d ∷ back) ≡ Some (FormulaUnknown, d.line)
fault-unknown events d back free event new few unknown =
    let count = count-new d back new in
    let less : length (derived_names (d ∷ back)) ≤ 64 = omega (arith, count, few) in
    let test = le-ltb 64 (length (derived_names (d ∷ back))) less in
    first-own events d back FormulaUnknown free (rw (event, new-unchanged d back new) (rw test (rw unknown refl)))

pub fault-large : (events : List (List ℕ)) (d : Definition) (back : List Definition) → formula_fault events back ≡ None → list_any (bytes_eq d.name) events ≡ false → is_defined d.name back ≡ false → length (derived_names back) < 64
    → list_all (λ t. is_known events back t.1) d.terms ≡ true → 1000000 < sum (coefficients events d.name (d ∷ back)) → formula_fault events (d ∷ back) ≡ Some (FormulaTooLarge, d.line)
fault-large events d back free event new few known large =
    let count = count-new d back new in
    let less : length (derived_names (d ∷ back)) ≤ 64 = omega (arith, count, few) in
    let test = le-ltb 64 (length (derived_names (d ∷ back))) less in
    let test' = lt-ltb 1000000 (sum (coefficients events d.name (d ∷ back))) large in
    first-own events d back FormulaTooLarge free (rw (event, new-unchanged d back new) (rw test (rw known (rw test' refl))))

pub fault-none : (events : List (List ℕ)) (d : Definition) (back : List Definition) → formula_fault events back ≡ None → list_any (bytes_eq d.name) events ≡ false → is_defined d.name back ≡ false → length (derived_names back) < 64
    → list_all (λ t. is_known events back t.1) d.terms ≡ true → sum (coefficients events d.name (d ∷ back)) ≤ 1000000 → formula_fault events (d ∷ back) ≡ None
fault-none events d back free event new few known small =
    let count = count-new d back new in
    rw (
      free,
      none-from events d back (record {
        event = event;
        same = new-unchanged d back new;
        few = omega (arith, count, few);
        known = known;
        small = small;
      }),
    ) refl

-- ---- rows

-- the coefficients of the new name
pub new-row : (events : List (List ℕ)) (d : Definition) (back : List Definition) → coefficients events d.name (d ∷ back) ≡ map (λ event. counted event d.terms back) events
new-row events d back = maps-same (λ event. coefficient event d.name (d ∷ back)) (λ event. counted event d.terms back) events (λ event. rw (name-itself d.name) refl)

row-list : (row : List ℕ) (events : List (List ℕ)) (f : List ℕ → ℕ) → IsRow row events f → row ≡ map (λ event. capped (f event)) events
row-list [] [] f r = refl
row-list [] (e ∷ events) f r = absurd (let w = r.wide in omega (arith, w))
row-list (n ∷ row) [] f r = absurd (let w = r.wide in omega (arith, w))
row-list (n ∷ row) (e ∷ events) f r =
    let first : n ≡ capped (f e) = r.counts 0 (omega arith) in
    let w = r.wide in
    let rest = row-list row events f (record { wide = omega (arith, w); counts = λ k inside. r.counts (suc k) (omega (arith, inside)) }) in
    rw (first, rest) refl

sums-capped : (f : List ℕ → ℕ) (events : List (List ℕ)) → sum (map (λ event. capped (f event)) events) ≤ sum (map f events)
sums-capped f [] = omega arith
sums-capped f (e ∷ events) =
    let left = sum_by-cons (λ n. n) (capped (f e)) (map (λ event. capped (f event)) events) in
    let right = sum_by-cons (λ n. n) (f e) (map f events) in
    let rest = sums-capped f events in
    omega (arith, left, right, rest)

maps-capped : (f : List ℕ → ℕ) (events : List (List ℕ)) → sum (map (λ event. capped (f event)) events) ≤ 1000000 → map (λ event. capped (f event)) events ≡ map f events
maps-capped f [] small = refl
maps-capped f (e ∷ events) small =
    let left = sum_by-cons (λ n. n) (capped (f e)) (map (λ event. capped (f event)) events) in
    let first : capped (f e) ≡ f e = omega (arith, left, small) in
    let rest = maps-capped f events (omega (arith, left, small)) in
    rw (first, rest) refl

pub row-large : (row : List ℕ) (events : List (List ℕ)) (f : List ℕ → ℕ) → IsRow row events f → 1000000 < capped (sum row) → 1000000 < sum (map f events)
row-large row events f r large =
    let same : sum row ≡ sum (map (λ event. capped (f event)) events) = ap sum (row-list row events f r) in
    let le = sums-capped f events in
    omega (arith, large, same, le)

pub row-small : (row : List ℕ) (events : List (List ℕ)) (f : List ℕ → ℕ) → IsRow row events f → capped (sum row) ≤ 1000000 → (row ≡ map f events) × (sum (map f events) ≤ 1000000) × (sum row ≤ 1000000)
row-small row events f r small =
    let list = row-list row events f r in
    let few : sum row ≤ 1000000 = omega (arith, small) in
    let same : map (λ event. capped (f event)) events ≡ map f events = maps-capped f events (subst (λ xs. sum xs ≤ 1000000) list few) in
    (list ∙ same, subst (λ xs. sum xs ≤ 1000000) (list ∙ same) few, few)

-- ---- all coefficients

map-apart : (name : List ℕ) (names : List (List ℕ)) (f g : List ℕ → List ℕ × List ℕ) → list_any (bytes_eq name) names ≡ false → ((n : List ℕ) → bytes_eq n name ≡ false → f n ≡ g n) → map f names ≡ map g names
map-apart name [] f g none same = refl
map-apart name (n ∷ names) f g none same =
    let parts = or_parts (bytes_eq name n) (list_any (bytes_eq name) names) none in
    rw (same n (names-apart name n parts.0), map-apart name names f g parts.1 same) refl

pub derived-new : (events : List (List ℕ)) (d : Definition) (back : List Definition) → is_defined d.name back ≡ false → derived_of events (d ∷ back) ≡ derived_of events back ++ (d.name, coefficients events d.name (d ∷ back)) ∷ []
derived-new events d back new =
    let old = map-apart d.name (derived_names back) (λ name. (name, coefficients events name (d ∷ back))) (λ name. (name, coefficients events name back)) (names-defined d.name back ∙ new)
    (λ n apart. ap (λ row. (n, row)) (maps-same (λ event. coefficient event n (d ∷ back)) (λ event. coefficient event n back) events (λ event. rw apart refl))) in
    ap (map (λ name. (name, coefficients events name (d ∷ back)))) (new-names d back new)
    ∙ (map-append (λ name. (name, coefficients events name (d ∷ back))) (derived_names back) (d.name ∷ [])
    ∙ ap (λ xs. xs ++ (d.name, coefficients events d.name (d ∷ back)) ∷ []) old)

pub count-derived : (events : List (List ℕ)) (back : List Definition) → length (derived_of events back) ≡ length (derived_names back)
count-derived events back = grind (arith, common_steps)
