-- What the kept coefficients say of definitions.
use Rattle.std.proofs.Common.{inl, inr, ℕ, zero, suc, ◌≡◌, ◌+◌, ◌*◌, ◌<◌, All, Bool, true, false, not, if◌then◌else◌, List, [], ◌∷◌, ◌++◌, map, length, get_or, set, slice_index, position, Result, Ok, Err, OnOk, OnErr, Option, Some, None, refl, sym, ap, ◌∙◌, subst, arith}
use Rattle.std.specs.List.{list_any, position_or_len}
use Rattle.std.specs.Map.{lookup}
use Rattle.std.specs.Str.{bytes_eq}
use Rattle.std.proofs.lemmas.Bool.{cases_Bool, cases_eq, and_parts, not-true, both_ways, false_from_ne_true, or_parts}
use Rattle.std.proofs.lemmas.List.Elements.{All-head, All-tail, All-same, All-push}
use Rattle.std.proofs.lemmas.Grind.{common_steps, elements}
use Rattle.std.proofs.lemmas.List.Folds.{list_any_at}
use Rattle.std.proofs.lemmas.List.Sums.{passes_at_first}
use Rattle.cg_formulas.specs.Formulas.{Definition, defines, is_defined, coefficient, coefficients, derived_names, formula_fault, weighed}
use Rattle.cg_text.specs.Distinct.{are_distinct}
use Rattle.cg_formulas.specs.Rows.{IsRow, capped}
use Rattle.cg_formulas.specs.Flats.{Flattens, flat_value, row_of, value_by}
use Rattle.cg_formulas.specs.declared.flats.Flat.{Flat}
use Rattle.cg_text.proofs.SearchLemmas.{position-Some, position-None}
use Rattle.cg_formulas.proofs.RepeatLemmas.{names-same, name-itself, defined-no_event}
use Rattle.cg_formulas.proofs.HeldLemmas.{names-defined}
use Rattle.cg_formulas.proofs.RowsLemmas.{weighed-cons}

-- ---- names in a list

pub names-apart : (a b : List ℕ) → bytes_eq a b ≡ false → bytes_eq b a ≡ false
names-apart a b h = false_from_ne_true _ (λ e. both_ways _ h (subst (λ n. bytes_eq n b ≡ true) (names-same b a e) (name-itself b)))

none-at : {X : Type 0} (p : X → Bool) (xs : List X) (k : ℕ) (d : X) → list_any p xs ≡ false → k < length xs → p (get_or xs k d) ≡ false
none-at p xs k d none inside = false_from_ne_true _ (λ e. both_ways _ none (list_any_at p xs k d inside e))

distinct-apart : (names : List (List ℕ)) → are_distinct names ≡ true → (i k : ℕ) → i < length names → k < length names → (i ≡ k → ⊥) → bytes_eq (get_or names i []) (get_or names k []) ≡ false
distinct-apart [] distinct i k ini ink other = absurd (omega (arith, ini))
distinct-apart (n ∷ names) distinct zero zero ini ink other = absurd (other refl)
distinct-apart (n ∷ names) distinct zero (suc k) ini ink other =
    let parts = and_parts (not (list_any (bytes_eq n) names)) (are_distinct names) distinct in
    none-at (bytes_eq n) names k [] (not-true _ parts.0) (omega (arith, ink))
distinct-apart (n ∷ names) distinct (suc i) zero ini ink other =
    let parts = and_parts (not (list_any (bytes_eq n) names)) (are_distinct names) distinct in
    names-apart n (get_or names i []) (none-at (bytes_eq n) names i [] (not-true _ parts.0) (omega (arith, ini)))
distinct-apart (n ∷ names) distinct (suc i) (suc k) ini ink other =
    let parts = and_parts (not (list_any (bytes_eq n) names)) (are_distinct names) distinct in
    distinct-apart names parts.1 i k (omega (arith, ini)) (omega (arith, ink)) (λ e. other (ap suc e))

pub found-at : (name : List ℕ) (names : List (List ℕ)) (i : ℕ) → position (bytes_eq name) names ≡ Some i → (i < length names) × (name ≡ get_or names i [])
found-at name names i h =
    let found = position-Some (bytes_eq name) names i h in
    let here = passes_at_first (bytes_eq name) names [] (subst (λ k. k < length names) (sym found.2) found.1) in
    (found.1, names-same name (get_or names i []) (subst (λ k. bytes_eq name (get_or names k []) ≡ true) found.2 here))

pub found-any : (name : List ℕ) (names : List (List ℕ)) (i : ℕ) → position (bytes_eq name) names ≡ Some i → list_any (bytes_eq name) names ≡ true
found-any name names i h =
    let found = found-at name names i h in
    list_any_at (bytes_eq name) names i [] found.0 (subst (λ n. bytes_eq name n ≡ true) found.1 (name-itself name))

none-any : {X : Type 0} (p : X → Bool) (xs : List X) → position_or_len p xs ≡ length xs → list_any p xs ≡ false
none-any p [] h = refl
none-any p (x ∷ xs) h =
    elim (cases_Bool (p x)) [
      | inl e ↦ absurd (let k = rw e at h in omega (arith, k))
      | inr e ↦ rw e (none-any p xs (let k = rw e at h in omega (arith, k)))
    ]

pub found-none : (name : List ℕ) (names : List (List ℕ)) → position (bytes_eq name) names ≡ None → list_any (bytes_eq name) names ≡ false
found-none name names h = none-any (bytes_eq name) names (position-None (bytes_eq name) names h).1

-- ---- derived names

lookup-map : (row : List ℕ → List ℕ) (name : List ℕ) (names : List (List ℕ)) → lookup (bytes_eq name) (map (λ n. (n, row n)) names) ≡ (if list_any (bytes_eq name) names then Some (row name) else None)
lookup-map row name [] = refl
lookup-map row name (n ∷ names) =
    elim (cases_Bool (bytes_eq name n)) [
      | inl e ↦ rw e (ap (λ m. Some (row m)) (sym (names-same name n e)))
      | inr e ↦ rw e (lookup-map row name names)
    ]

pub lookup-derived : (flat : Flat) (back : List Definition) → Flattens flat back → (name : List ℕ) → lookup (bytes_eq name) flat.derived ≡ (if is_defined name back then Some (coefficients flat.events name back) else None)
lookup-derived flat back f name =
    ap (lookup (bytes_eq name)) f.derived
    ∙ (lookup-map (λ n. coefficients flat.events n back) name (derived_names back)
    ∙ ap (λ b. if b then Some (coefficients flat.events name back) else None) (names-defined name back))

pub derived-some : (flat : Flat) (back : List Definition) → Flattens flat back → (name row : List ℕ) → lookup (bytes_eq name) flat.derived ≡ Some row → (is_defined name back ≡ true) × (row ≡ coefficients flat.events name back)
derived-some flat back f name row h =
    let found = lookup-derived flat back f name in
    elim (cases_Bool (is_defined name back)) [
      | inl e ↦ (e, let k = rw e at found in cc)
      | inr e ↦ absurd (let k = rw e at found in cc)
    ]

pub derived-none : (flat : Flat) (back : List Definition) → Flattens flat back → (name : List ℕ) → lookup (bytes_eq name) flat.derived ≡ None → is_defined name back ≡ false
derived-none flat back f name h =
    let found = lookup-derived flat back f name in
    elim (cases_Bool (is_defined name back)) [
      | inl e ↦ absurd (let k = rw e at found in cc)
      | inr e ↦ e
    ]

-- an event is defined nowhere
pub event-undefined : (events : List (List ℕ)) (back : List Definition) (name : List ℕ) → formula_fault events back ≡ None → list_any (bytes_eq name) events ≡ true → is_defined name back ≡ false
event-undefined events back name free known = false_from_ne_true _ (λ e. both_ways _ (defined-no_event events name back free e) known)

-- what is defined nowhere counts once in itself
pub coefficient-undefined : (event name : List ℕ) (back : List Definition) → is_defined name back ≡ false → coefficient event name back ≡ (if bytes_eq event name then 1 else 0)
coefficient-undefined event name [] none = refl
coefficient-undefined event name (d ∷ back) none =
    elim (cases_Bool (defines name d)) [
      | inl e ↦ absurd (let k = rw e at none in cc)
      | inr e ↦ rw e (coefficient-undefined event name back (rw e at none))
    ]

-- ---- rows

capped-plus : (a b : ℕ) → capped (capped a + b) ≡ capped (a + b)
capped-plus a b = omega arith

map-at : (f : List ℕ → ℕ) (names : List (List ℕ)) (k : ℕ) → k < length names → slice_index (map f names) k ≡ f (get_or names k [])
map-at f [] k inside = absurd (omega (arith, inside))
map-at f (n ∷ names) zero inside = refl
map-at f (n ∷ names) (suc k) inside = map-at f names k (omega (arith, inside))

-- a number of times an event
pub row-event : (flat : Flat) (back : List Definition) → Flattens flat back → (row : List ℕ) (count : List ℕ → ℕ) → IsRow row flat.events count → (name : List ℕ) (i number n : ℕ)
    → position (bytes_eq name) flat.events ≡ Some i → n ≡ capped (slice_index row i + number) → are_distinct flat.events ≡ true
    → IsRow (set row i n) flat.events (λ event. count event + number * coefficient event name back)
row-event flat back f row count r name i number n found value distinct =
    let at = found-at name flat.events i found in
    let undefined = event-undefined flat.events back name f.free (found-any name flat.events i found) in
    let wide = r.wide in
    let inside = at.0 in
    record {
      wide = grind (arith, common_steps);
      counts = λ k ink.
          let old = r.counts k ink in
          elim (cases_eq k i) [
            | inl e ↦
                let here : slice_index (set row i n) k ≡ n = rw e (grind (arith, common_steps)) in
                let same : get_or flat.events k [] ≡ name = ap (λ j. get_or flat.events j []) e ∙ sym at.1 in
                let one : coefficient (get_or flat.events k []) name back ≡ 1 = coefficient-undefined _ name back undefined ∙ ap (λ b. if b then 1 else 0) (ap (λ m. bytes_eq m name) same ∙ name-itself name) in
                let sum : n ≡ capped (capped (count (get_or flat.events k [])) + number) = value ∙ ap (λ m. capped (m + number)) (ap (slice_index row) (sym e) ∙ old) in
                here ∙ (sum ∙ (capped-plus (count (get_or flat.events k [])) number ∙ ap (λ m. capped (count (get_or flat.events k []) + m)) (sym (ap (λ m. number * m) one ∙ omega arith))))
            | inr e ↦
                let here : slice_index (set row i n) k ≡ slice_index row k = grind (arith, common_steps, elements) in
                let apart : bytes_eq (get_or flat.events k []) name ≡ false = subst (λ m. bytes_eq (get_or flat.events k []) m ≡ false) (sym at.1) (distinct-apart flat.events distinct k i ink inside e) in
                let zero : coefficient (get_or flat.events k []) name back ≡ 0 = coefficient-undefined _ name back undefined ∙ ap (λ b. if b then 1 else 0) apart in
                here ∙ (old ∙ ap capped (sym (ap (λ m. count (get_or flat.events k []) + number * m) zero ∙ omega arith)))
          ];
    }

-- a number of times a derived event
pub row-derived : (flat : Flat) (back : List Definition) (row new counts : List ℕ) (count : List ℕ → ℕ) → IsRow row flat.events count → (name : List ℕ) (number : ℕ)
    → counts ≡ coefficients flat.events name back → length new ≡ length row → ((k : ℕ) → k < length row → slice_index new k ≡ capped (slice_index row k + number * slice_index counts k))
    → IsRow new flat.events (λ event. count event + number * coefficient event name back)
row-derived flat back row new counts count r name number is wide sums = record {
  wide = wide ∙ r.wide;
  counts = λ k ink.
      let old = r.counts k ink in
      let own : slice_index counts k ≡ coefficient (get_or flat.events k []) name back = ap (λ xs. slice_index xs k) is ∙ map-at (λ event. coefficient event name back) flat.events k ink in
      sums k (subst (λ n. k < n) (sym r.wide) ink)
      ∙ (ap (λ m. capped (m + number * slice_index counts k)) old
      ∙ (capped-plus (count (get_or flat.events k [])) (number * slice_index counts k)
      ∙ ap (λ m. capped (count (get_or flat.events k []) + number * m)) own));
}

pub row-same : (row : List ℕ) (events : List (List ℕ)) (f g : List ℕ → ℕ) → ((event : List ℕ) → f event ≡ g event) → IsRow row events f → IsRow row events g
row-same row events f g same r = record { wide = r.wide; counts = λ k ink. r.counts k ink ∙ ap capped (same (get_or events k [])) }

-- what all entries have, the one that is looked up has
pub lookup-has : (names : List (List ℕ × List ℕ)) (test : List ℕ → Bool) (Q : List ℕ → Type 0) (row : List ℕ) → All (λ e. Q e.1) names → lookup test names ≡ Some row → Q row
lookup-has [] test Q row all found = absurd cc
lookup-has ((n, r) ∷ names) test Q row all found =
    elim (cases_Bool (test n)) [
      | inl e ↦ let k : Some r ≡ Some row = rw e at found in let same : r ≡ row = cc in subst Q same (All-head (λ p. Q p.1) (n, r) names all)
      | inr e ↦ lookup-has names test Q row (All-tail (λ p. Q p.1) (n, r) names all) (rw e at found)
    ]

-- ---- values

weighed-none : (name : List ℕ) (names : List (List ℕ)) (costs : List ℕ) → list_any (bytes_eq name) names ≡ false → weighed (coefficients names name []) costs ≡ 0
weighed-none name [] costs none = refl
weighed-none name (n ∷ names) [] none = refl
weighed-none name (n ∷ names) (c ∷ costs) none =
    let parts = or_parts (bytes_eq name n) (list_any (bytes_eq name) names) none in
    let zero : coefficient n name [] ≡ 0 = rw (names-apart name n parts.0) refl in
    let rest = weighed-none name names costs parts.1 in
    weighed-cons (coefficient n name []) c (coefficients names name []) costs ∙ (ap (λ k. k * c + weighed (coefficients names name []) costs) zero ∙ omega (arith, rest))

weighed-at : (name : List ℕ) (names : List (List ℕ)) (costs : List ℕ) (i : ℕ) → are_distinct names ≡ true → i < length names → name ≡ get_or names i [] → length costs ≡ length names → weighed (coefficients names name []) costs ≡ get_or costs i 0
weighed-at name [] costs i distinct inside at wide = absurd (omega (arith, inside))
weighed-at name (n ∷ names) [] i distinct inside at wide = absurd (omega (arith, wide))
weighed-at name (n ∷ names) (c ∷ costs) zero distinct inside at wide =
    let parts = and_parts (not (list_any (bytes_eq n) names)) (are_distinct names) distinct in
    let one : coefficient n name [] ≡ 1 = rw at (rw (name-itself n) refl) in
    let rest : weighed (coefficients names name []) costs ≡ 0 = weighed-none name names costs (subst (λ m. list_any (bytes_eq m) names ≡ false) (sym at) (not-true _ parts.0)) in
    weighed-cons (coefficient n name []) c (coefficients names name []) costs ∙ (ap (λ k. k * c + weighed (coefficients names name []) costs) one ∙ omega (arith, rest))
weighed-at name (n ∷ names) (c ∷ costs) (suc i) distinct inside at wide =
    let parts = and_parts (not (list_any (bytes_eq n) names)) (are_distinct names) distinct in
    let inside' : i < length names = omega (arith, inside) in
    let apart : bytes_eq n name ≡ false = subst (λ m. bytes_eq n m ≡ false) (sym at) (none-at (bytes_eq n) names i [] (not-true _ parts.0) inside') in
    let zero : coefficient n name [] ≡ 0 = rw apart refl in
    let rest = weighed-at name names costs i parts.1 inside' at (omega (arith, wide)) in
    weighed-cons (coefficient n name []) c (coefficients names name []) costs ∙ (ap (λ k. k * c + weighed (coefficients names name []) costs) zero ∙ omega (arith, rest))

-- the value of an event is its cost
pub row-own : (flat : Flat) (name : List ℕ) (i : ℕ) → position (bytes_eq name) flat.events ≡ Some i → row_of flat name ≡ Some (coefficients flat.events name [])
row-own flat name i at = ap (λ (b : Bool). if b then Some (coefficients flat.events name []) else lookup (bytes_eq name) flat.derived) (found-any name flat.events i at)

pub row-other : (flat : Flat) (name : List ℕ) → position (bytes_eq name) flat.events ≡ None → row_of flat name ≡ lookup (bytes_eq name) flat.derived
row-other flat name none = ap (λ (b : Bool). if b then Some (coefficients flat.events name []) else lookup (bytes_eq name) flat.derived) (found-none name flat.events none)

pub value-event : (flat : Flat) (name costs : List ℕ) (i : ℕ) → are_distinct flat.events ≡ true → position (bytes_eq name) flat.events ≡ Some i → length costs ≡ length flat.events → Some (get_or costs i 0) ≡ flat_value flat name costs
value-event flat name costs i distinct found wide =
    let at = found-at name flat.events i found in
    rw (found-any name flat.events i found) (ap Some (sym (weighed-at name flat.events costs i distinct at.0 at.1 wide)))

pub value-derived : (flat : Flat) (name costs : List ℕ) (row : Option (List ℕ)) → position (bytes_eq name) flat.events ≡ None → lookup (bytes_eq name) flat.derived ≡ row → value_by row costs ≡ flat_value flat name costs
value-derived flat name costs row none found = rw (found-none name flat.events none) (ap (λ r. value_by r costs) (sym found))

-- what all entries have, and one more, all have after it was added or refused
pub pushed_all : {X T E : Type 0} (r : Result T E) (P : X → Type 0) (old new : List X) (x : X) → OnOk r (new ≡ old ++ x ∷ []) → OnErr r (new ≡ old) → All P old → P x → All P new
pushed_all (Ok t) P old new x ok err all here = All-same P new (old ++ x ∷ []) ok (All-push P old x all here)
pushed_all (Err e) P old new x ok err all here = All-same P new old err all
