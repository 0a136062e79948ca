-- A definition that says again what is defined changes nothing.
use Rattle.std.proofs.Common.{inl, inr, ◌⊎◌, ℕ, ◌≡◌, ◌*◌, ◌≤◌, Bool, true, false, not, ◌&&◌, eqb, List, [], ◌∷◌, map, length, sum, sum_by, Option, Some, None, if◌then◌else◌, refl, sym, ap, ◌∙◌, subst, arith}
use Rattle.std.specs.List.{list_any, list_all}
use Rattle.std.specs.Str.{bytes_eq}
use Rattle.std.proofs.lemmas.Bool.{cases_Bool, and_parts, and_from, or_cases, or_parts, or_left, or_right, not-false, ltb-false, le-ltb, eqb-true}
use Rattle.std.proofs.lemmas.List.Sums.{sum_by-cons}
use Rattle.std.proofs.lemmas.Slice.Eq.{bytes_eq-Decides}
use Rattle.cg_formulas.specs.EventLines.{Term}
use Rattle.cg_formulas.specs.Formulas.{Definition, defines, is_defined, is_known, coefficient, coefficients, same_terms, is_changed, derived_names, definition_fault, first_or, formula_fault, derived_of, weighed, derived_value}
use Rattle.cg_text.specs.declared.faults.Fault.{Fault}
use Rattle.cg_text.specs.declared.faults.Fault.TheVariants.{EventTwice, TooManyEvents, FormulaUnknown, FormulaTooLarge}

-- ---- names and terms

pub names-same : (a b : List ℕ) → bytes_eq a b ≡ true → a ≡ b
names-same a b h = (bytes_eq-Decides a b).0 h

pub name-itself : (a : List ℕ) → bytes_eq a a ≡ true
name-itself a = (bytes_eq-Decides a a).1 refl

pub terms-same : (ss ts : List Term) → same_terms ss ts ≡ true → ss ≡ ts
terms-same [] [] h = refl
terms-same [] (t ∷ ts) h = cc
terms-same (s ∷ ss) [] h = cc
terms-same ((m, a) ∷ ss) ((n, b) ∷ ts) h =
    let parts = and_parts (eqb m n && bytes_eq a b) (same_terms ss ts) h in
    let first = and_parts (eqb m n) (bytes_eq a b) parts.0 in
    let number : m ≡ n = eqb-true m n first.0 in
    let name : a ≡ b = names-same a b first.1 in
    let rest : ss ≡ ts = terms-same ss ts parts.1 in
    rw (number, name, rest) refl

-- ---- definitions without a fault

-- what a definition without a fault is
pub record Sound (names : List (List ℕ)) (d : Definition) (back : List Definition) : Type 0 where
  pub event : list_any (bytes_eq d.name) names ≡ false
  pub same : is_changed d back ≡ false
  pub few : length (derived_names (d ∷ back)) ≤ 64
  pub known : list_all (λ t. is_known names back t.1) d.terms ≡ true
  pub small : sum (coefficients names d.name (d ∷ back)) ≤ 1000000

abbrev faults_of : Bool → Bool → Bool → Bool → Option Fault
faults_of a b c d = if a then Some EventTwice else (if b then Some TooManyEvents else (if c then Some FormulaUnknown else (if d then Some FormulaTooLarge else None)))

no_faults : (a b c d : Bool) → faults_of a b c d ≡ None → (a ≡ false) × (b ≡ false) × (c ≡ false) × (d ≡ false)
no_faults true b c d h = cc
no_faults false true c d h = cc
no_faults false false true d h = cc
no_faults false false false true h = cc
no_faults false false false false h = (refl, refl, refl, refl)

pub sound-from : (events : List (List ℕ)) (d : Definition) (back : List Definition) → definition_fault events d back ≡ None → Sound events d back
sound-from events d back h =
    let no = no_faults _ _ _ _ h in
    let twice = or_parts _ _ no.0 in
    record {
      event = twice.0;
      same = twice.1;
      few = ltb-false _ _ no.1;
      known = not-false _ no.2;
      small = ltb-false _ _ no.3;
    }

pub none-from : (events : List (List ℕ)) (d : Definition) (back : List Definition) → Sound events d back → definition_fault events d back ≡ None
none-from events d back s = rw (s.event, s.same, s.known) (rw (le-ltb 64 _ s.few) (rw (le-ltb 1000000 _ s.small) refl))

first-none : (o : Option (Fault × ℕ)) (own : Option Fault) (line : ℕ) → first_or o own line ≡ None → (o ≡ None) × (own ≡ None)
first-none None None line h = (refl, refl)
first-none None (Some f) line h = cc
first-none (Some x) own line h = cc

pub earlier-none : (events : List (List ℕ)) (d : Definition) (back : List Definition) → formula_fault events (d ∷ back) ≡ None → (formula_fault events back ≡ None) × Sound events d back
earlier-none events d back h =
    let both = first-none (formula_fault events back) (definition_fault events d back) d.line h in
    (both.0, sound-from events d back both.1)

-- ---- what a definition knows, those after it know

sums-same : {X : Type 0} (f g : X → ℕ) (p : X → Bool) (xs : List X) → list_all p xs ≡ true → ((x : X) → p x ≡ true → f x ≡ g x) → sum_by f xs ≡ sum_by g xs
sums-same f g p [] all same = refl
sums-same f g p (x ∷ xs) all same =
    let parts = and_parts (p x) (list_all p xs) all in
    let first = same x parts.0 in
    let rest = sums-same f g p xs parts.1 same in
    let left = sum_by-cons f x xs in
    let right = sum_by-cons g x xs in
    omega (arith, first, rest, left, right)

pub maps-same : {X Y : Type 0} (f g : X → Y) (xs : List X) → ((x : X) → f x ≡ g x) → map f xs ≡ map g xs
maps-same f g [] same = refl
maps-same f g (x ∷ xs) same = rw (same x, maps-same f g xs same) refl

all-since : {X : Type 0} (p q : X → Bool) (xs : List X) → ((x : X) → p x ≡ true → q x ≡ true) → list_all p xs ≡ true → list_all q xs ≡ true
all-since p q [] since all = refl
all-since p q (x ∷ xs) since all =
    let parts = and_parts (p x) (list_all p xs) all in
    and_from (q x) (list_all q xs) (since x parts.0) (all-since p q xs since parts.1)

known-later : (events : List (List ℕ)) (x : Definition) (xs : List Definition) (name : List ℕ) → is_known events xs name ≡ true → is_known events (x ∷ xs) name ≡ true
known-later events x xs name h =
    elim (or_cases (list_any (bytes_eq name) events) (is_defined name xs) h) [
      | inl e ↦ or_left _ _ e
      | inr e ↦ or_right _ _ (or_right _ _ e)
    ]

-- the terms of what is defined are known
pub terms-known : (events : List (List ℕ)) (d : Definition) (es : List Definition) → formula_fault events es ≡ None → is_defined d.name es ≡ true → is_changed d es ≡ false → list_all (λ t. is_known events es t.1) d.terms ≡ true
terms-known events d [] free here same = cc
terms-known events d (x ∷ xs) free here same =
    let sound = earlier-none events x xs free in
    elim (cases_Bool (defines d.name x)) [
      | inl e ↦
          let k : not (same_terms x.terms d.terms) ≡ false = rw e at same in
          let terms : x.terms ≡ d.terms = terms-same x.terms d.terms (not-false _ k) in
          let known : list_all (λ t. is_known events xs t.1) d.terms ≡ true = subst (λ ts. list_all (λ t. is_known events xs t.1) ts ≡ true) terms sound.1.known in
          all-since (λ t. is_known events xs t.1) (λ t. is_known events (x ∷ xs) t.1) d.terms (λ t. known-later events x xs t.1) known
      | inr e ↦
          let here' : is_defined d.name xs ≡ true = rw e at here in
          let same' : is_changed d xs ≡ false = rw e at same in
          all-since (λ t. is_known events xs t.1) (λ t. is_known events (x ∷ xs) t.1) d.terms (λ t. known-later events x xs t.1) (terms-known events d xs sound.0 here' same')
    ]

-- no event is defined
pub defined-no_event : (events : List (List ℕ)) (name : List ℕ) (es : List Definition) → formula_fault events es ≡ None → is_defined name es ≡ true → list_any (bytes_eq name) events ≡ false
defined-no_event events name [] free here = cc
defined-no_event events name (x ∷ xs) free here =
    let sound = earlier-none events x xs free in
    elim (or_cases (defines name x) (is_defined name xs) here) [
      | inl e ↦ subst (λ n. list_any (bytes_eq n) events ≡ false) (sym (names-same name x.name e)) sound.1.event
      | inr e ↦ defined-no_event events name xs sound.0 e
    ]

-- ---- a definition that is repeated counts what it counted

abbrev pub Repeats : List Definition → Type 0
Repeats es = (d : Definition) → is_defined d.name es ≡ true → is_changed d es ≡ false → (event name : List ℕ) → coefficient event name (d ∷ es) ≡ coefficient event name es

-- what is known counts the same after one more line
known-same : (events : List (List ℕ)) (x : Definition) (xs : List Definition) → Repeats xs → Sound events x xs → (event name : List ℕ) → is_known events xs name ≡ true → coefficient event name (x ∷ xs) ≡ coefficient event name xs
known-same events x xs repeats sound event name known =
    elim (cases_Bool (defines name x)) [
      | inl e ↦
          let here : name ≡ x.name = names-same name x.name e in
          let known' : is_known events xs x.name ≡ true = subst (λ n. is_known events xs n ≡ true) here known in
          let defined : is_defined x.name xs ≡ true = elim (or_cases (list_any (bytes_eq x.name) events) (is_defined x.name xs) known') [
            | inl k ↦ absurd (let no = sound.event in cc)
            | inr k ↦ k
          ] in
          repeats x defined sound.same event name
      | inr e ↦ rw e refl
    ]

pub repeats-all : (events : List (List ℕ)) (es : List Definition) → formula_fault events es ≡ None → Repeats es
repeats-all events [] free d here same event name = cc
repeats-all events (x ∷ xs) free d here same event name =
    let sound = earlier-none events x xs free in
    let repeats = repeats-all events xs sound.0 in
    let counts : Term → ℕ = λ t. t.0 * coefficient event t.1 (x ∷ xs) in
    let counts' : Term → ℕ = λ t. t.0 * coefficient event t.1 xs in
    let equal : (t : Term) → is_known events xs t.1 ≡ true → counts t ≡ counts' t = λ t k. ap (λ n. t.0 * n) (known-same events x xs repeats sound.1 event t.1 k) in
    elim (cases_Bool (defines name d)) [
      | inr e ↦ rw e refl
      | inl e ↦
          let named : name ≡ d.name = names-same name d.name e in
          elim (cases_Bool (defines d.name x)) [
            | inl f ↦
                let k : not (same_terms x.terms d.terms) ≡ false = rw f at same in
                let terms : x.terms ≡ d.terms = terms-same x.terms d.terms (not-false _ k) in
                let known : list_all (λ t. is_known events xs t.1) d.terms ≡ true = subst (λ ts. list_all (λ t. is_known events xs t.1) ts ≡ true) terms sound.1.known in
                let left : sum_by counts d.terms ≡ sum_by counts' d.terms = sums-same counts counts' (λ t. is_known events xs t.1) d.terms known equal in
                let nearest : coefficient event d.name (x ∷ xs) ≡ sum_by counts' x.terms = rw f refl in
                let right : coefficient event name (x ∷ xs) ≡ sum_by counts' d.terms = ap (λ n. coefficient event n (x ∷ xs)) named ∙ nearest ∙ ap (sum_by counts') terms in
                let whole : coefficient event name (d ∷ x ∷ xs) ≡ sum_by counts d.terms = rw e refl in
                whole ∙ left ∙ sym right
            | inr f ↦
                let here' : is_defined d.name xs ≡ true = rw f at here in
                let same' : is_changed d xs ≡ false = rw f at same in
                let known = terms-known events d xs sound.0 here' same' in
                let left : sum_by counts d.terms ≡ sum_by counts' d.terms = sums-same counts counts' (λ t. is_known events xs t.1) d.terms known equal in
                let nearest : coefficient event d.name (x ∷ xs) ≡ coefficient event d.name xs = rw f refl in
                let again : coefficient event d.name (d ∷ xs) ≡ sum_by counts' d.terms = rw (name-itself d.name) refl in
                let right : coefficient event name (x ∷ xs) ≡ sum_by counts' d.terms = ap (λ n. coefficient event n (x ∷ xs)) named ∙ nearest ∙ sym (repeats d here' same' event d.name) ∙ again in
                let whole : coefficient event name (d ∷ x ∷ xs) ≡ sum_by counts d.terms = rw e refl in
                whole ∙ left ∙ sym right
          ]
    ]

pub few_names : (events : List (List ℕ)) (es : List Definition) → formula_fault events es ≡ None → length (derived_names es) ≤ 64
few_names events [] free = omega arith
few_names events (x ∷ xs) free = (earlier-none events x xs free).1.few

-- a name that is defined counts no more than a million
pub small-defined : (events : List (List ℕ)) (name : List ℕ) (es : List Definition) → formula_fault events es ≡ None → is_defined name es ≡ true → sum (coefficients events name es) ≤ 1000000
small-defined events name [] free here = cc
small-defined events name (x ∷ xs) free here =
    let sound = earlier-none events x xs free in
    elim (cases_Bool (defines name x)) [
      | inl e ↦ subst (λ n. sum (coefficients events n (x ∷ xs)) ≤ 1000000) (sym (names-same name x.name e)) sound.1.small
      | inr e ↦
          let here' : is_defined name xs ≡ true = rw e at here in
          let same : coefficients events name (x ∷ xs) ≡ coefficients events name xs = maps-same (λ event. coefficient event name (x ∷ xs)) (λ event. coefficient event name xs) events (λ event. rw e refl) in
          subst (λ row. sum row ≤ 1000000) (sym same) (small-defined events name xs sound.0 here')
    ]

-- a definition that is repeated has no fault
pub repeat-sound : (events : List (List ℕ)) (d : Definition) (es : List Definition) → formula_fault events es ≡ None → is_defined d.name es ≡ true → is_changed d es ≡ false → Sound events d es
repeat-sound events d es free here same =
    let row : coefficients events d.name (d ∷ es) ≡ coefficients events d.name es = maps-same (λ event. coefficient event d.name (d ∷ es)) (λ event. coefficient event d.name es) events (λ event. repeats-all events es free d here same event d.name) in
    let names : derived_names (d ∷ es) ≡ derived_names es = rw here refl in
    record {
      event = defined-no_event events d.name es free here;
      same = same;
      few = subst (λ ns. length ns ≤ 64) (sym names) (few_names events es free);
      known = terms-known events d es free here same;
      small = subst (λ r. sum r ≤ 1000000) (sym row) (small-defined events d.name es free here);
    }

pub repeat-free : (events : List (List ℕ)) (d : Definition) (es : List Definition) → formula_fault events es ≡ None → is_defined d.name es ≡ true → is_changed d es ≡ false → formula_fault events (d ∷ es) ≡ None
repeat-free events d es free here same = rw (free, none-from events d es (repeat-sound events d es free here same)) refl

pub repeat-derived : (events : List (List ℕ)) (d : Definition) (es : List Definition) → formula_fault events es ≡ None → is_defined d.name es ≡ true → is_changed d es ≡ false → derived_of events (d ∷ es) ≡ derived_of events es
repeat-derived events d es free here same =
    let names : derived_names (d ∷ es) ≡ derived_names es = rw here refl in
    let rows = maps-same (λ name. (name, coefficients events name (d ∷ es))) (λ name. (name, coefficients events name es)) (derived_names es)
    (λ name. ap (λ r. (name, r)) (maps-same (λ event. coefficient event name (d ∷ es)) (λ event. coefficient event name es) events (λ event. repeats-all events es free d here same event name))) in
    ap (map (λ name. (name, coefficients events name (d ∷ es)))) names ∙ rows

fault_or : (o : Option (Fault × ℕ)) → (o ≡ None) ⊎ ((x : Fault × ℕ) × (o ≡ Some x))
fault_or None = inl refl
fault_or (Some x) = inr (x, refl)

pub repeat-fault : (events : List (List ℕ)) (d : Definition) (es : List Definition) → is_defined d.name es ≡ true → is_changed d es ≡ false → formula_fault events (d ∷ es) ≡ formula_fault events es
repeat-fault events d es here same = elim (fault_or (formula_fault events es)) [
  | inl free ↦ repeat-free events d es free here same ∙ sym free
  | inr (x, h) ↦ ap (λ o. first_or o (definition_fault events d es) d.line) h ∙ sym h
]

known-repeat : (events : List (List ℕ)) (d : Definition) (es : List Definition) (name : List ℕ) → is_defined d.name es ≡ true → is_known events (d ∷ es) name ≡ is_known events es name
known-repeat events d es name here =
    elim (cases_Bool (defines name d)) [
      | inl e ↦
          let defined : is_defined name es ≡ true = ap (λ n. is_defined n es) (names-same name d.name e) ∙ here in
          rw (e, defined) refl
      | inr e ↦ rw e refl
    ]

pub repeat-values : (events : List (List ℕ)) (d : Definition) (es : List Definition) (name costs : List ℕ) → formula_fault events es ≡ None → is_defined d.name es ≡ true → is_changed d es ≡ false
    → derived_value events (d ∷ es) name costs ≡ derived_value events es name costs
repeat-values events d es name costs free here same =
    let row = maps-same (λ event. coefficient event name (d ∷ es)) (λ event. coefficient event name es) events (λ event. repeats-all events es free d here same event name) in
    ap (λ b. if b then Some (weighed (coefficients events name (d ∷ es)) costs) else None) (known-repeat events d es name here)
    ∙ ap (λ r. if is_known events es name then Some (weighed r costs) else None) row
