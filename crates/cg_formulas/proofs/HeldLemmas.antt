-- What is kept of definitions represents all of them.
use Rattle.std.proofs.Common.{inl, inr, ℕ, zero, suc, get_or, set, ◌≡◌, ◌+◌, ◌*◌, ◌<◌, Bool, true, false, not, ◌||◌, List, [], ◌∷◌, ◌++◌, map, reverse, length, sum, sum_by, Option, Some, None, is_some, if◌then◌else◌, ◌⊎◌, nat_lt, refl, sym, ap, ◌∙◌, subst, arith}
use Rattle.std.specs.List.{list_any, list_all}
use Rattle.std.specs.Str.{bytes_eq}
use Rattle.std.proofs.lemmas.Bool.{cases_Bool, not-false}
use Rattle.std.proofs.lemmas.List.{map-append, reverse-append}
use Rattle.std.proofs.lemmas.List.Folds.{list_any-append}
use Rattle.std.proofs.lemmas.List.Sums.{sum_by-cons}
use Rattle.std.proofs.lemmas.Grind.{common_steps}
use Rattle.cg_formulas.specs.EventLines.{Term}
use Rattle.cg_formulas.specs.EventViews.{terms_in}
use Rattle.cg_formulas.specs.Formulas.{Definition, defines, is_defined, is_known, coefficient, coefficients, same_terms, is_changed, derived_names, definition_fault, first_or, formula_fault}
use Rattle.cg_formulas.specs.Definitions.{plain_definition, plain_back}
use Rattle.cg_formulas.specs.Held.{terms_at, Agree, Alike, Stands, AreFresh, Holds, kept_of}
use Rattle.cg_formulas.specs.declared.formulas.Formulas.{Formulas}
use Rattle.cg_formulas.specs.declared.definitions.Definition as kept
use Rattle.cg_text.specs.declared.faults.Fault.{Fault}
use Rattle.cg_text.specs.declared.faults.Fault.TheVariants.{EventTwice, TooManyEvents, FormulaUnknown, FormulaTooLarge}
use Rattle.cg_formulas.proofs.RepeatLemmas.{names-same, terms-same, maps-same, earlier-none, few_names, repeat-free, repeats-all}

or-true : (a : Bool) → (a || true) ≡ true
or-true true = refl
or-true false = refl

or-swapped : (a b : Bool) → (a || (b || false)) ≡ (b || a)
or-swapped true true = refl
or-swapped true false = refl
or-swapped false true = refl
or-swapped false false = refl

-- the derived names are those that are defined
pub names-defined : (name : List ℕ) (es : List Definition) → list_any (bytes_eq name) (derived_names es) ≡ is_defined name es
names-defined name [] = refl
names-defined name (x ∷ xs) =
    elim (cases_Bool (is_defined x.name xs)) [
      | inl e ↦
          elim (cases_Bool (defines name x)) [
            | inl f ↦
                let same : name ≡ x.name = names-same name x.name f in
                let here : is_defined name xs ≡ true = ap (λ n. is_defined n xs) same ∙ e in
                rw (e, f) (names-defined name xs ∙ here)
            | inr f ↦ rw (e, f) (names-defined name xs)
          ]
      | inr e ↦
          let more = list_any-append (bytes_eq name) (derived_names xs) (x.name ∷ []) in
          rw e (more ∙ rw (names-defined name xs) (or-swapped (is_defined name xs) (defines name x)))
    ]

-- ---- one more definition, of a new name

agree-defined : (events : List (List ℕ)) (es ds : List Definition) → Agree events es ds → (name : List ℕ) → is_defined name ds ≡ is_defined name es
agree-defined events es ds a name = sym (names-defined name ds) ∙ ap (list_any (bytes_eq name)) a.names ∙ names-defined name es

sums-equal : {X : Type 0} (f g : X → ℕ) (xs : List X) → ((x : X) → f x ≡ g x) → sum_by f xs ≡ sum_by g xs
sums-equal f g [] same = refl
sums-equal f g (x ∷ xs) same =
    let first = same x in
    let rest = sums-equal f g xs same in
    let left = sum_by-cons f x xs in
    let right = sum_by-cons g x xs in
    omega (arith, first, rest, left, right)

all-equal : {X : Type 0} (p q : X → Bool) (xs : List X) → ((x : X) → p x ≡ q x) → list_all p xs ≡ list_all q xs
all-equal p q [] same = refl
all-equal p q (x ∷ xs) same = rw (same x, all-equal p q xs same) refl

terms-agree : (events : List (List ℕ)) (es ds : List Definition) → Agree events es ds → (event : List ℕ) (ts : List Term) → sum_by (λ t. t.0 * coefficient event t.1 ds) ts ≡ sum_by (λ t. t.0 * coefficient event t.1 es) ts
terms-agree events es ds a event ts = sums-equal (λ t. t.0 * coefficient event t.1 ds) (λ t. t.0 * coefficient event t.1 es) ts (λ t. ap (λ n. t.0 * n) (a.values event t.1))

agree-push : (events : List (List ℕ)) (d : Definition) (es ds : List Definition) → Agree events es ds → Agree events (d ∷ es) (d ∷ ds)
agree-push events d es ds a = record {
  names =
      ap (λ b. if b then derived_names ds else derived_names ds ++ d.name ∷ []) (agree-defined events es ds a d.name)
      ∙ ap (λ ns. if is_defined d.name es then ns else ns ++ d.name ∷ []) a.names;
  changes = λ x. ap (λ b. if defines x.name d then not (same_terms d.terms x.terms) else b) (a.changes x);
  values = λ event name.
      ap (λ n. if defines name d then n else coefficient event name ds) (terms-agree events es ds a event d.terms)
      ∙ ap (λ n. if defines name d then sum_by (λ t. t.0 * coefficient event t.1 es) d.terms else n) (a.values event name);
}

rows-agree : (events : List (List ℕ)) (es ds : List Definition) → Agree events es ds → (names : List (List ℕ)) (name : List ℕ) → coefficients names name ds ≡ coefficients names name es
rows-agree events es ds a names name = maps-same (λ event. coefficient event name ds) (λ event. coefficient event name es) names (λ event. a.values event name)

abbrev fault_by : List (List ℕ) → Definition → Bool → List (List ℕ) → Bool → List ℕ → Option Fault
fault_by events d changed names known row =
    if list_any (bytes_eq d.name) events || changed then Some EventTwice
    else (if nat_lt 64 (length names) then Some TooManyEvents
    else (if not known then Some FormulaUnknown
    else (if nat_lt 1000000 (sum row) then Some FormulaTooLarge
    else None)))

fault-agree : (events : List (List ℕ)) (d : Definition) (es ds : List Definition) → Agree events es ds → definition_fault events d ds ≡ definition_fault events d es
fault-agree events d es ds a =
    let more = agree-push events d es ds a in
    let known = all-equal (λ t. is_known events ds t.1) (λ t. is_known events es t.1) d.terms (λ t. ap (λ b. list_any (bytes_eq t.1) events || b) (agree-defined events es ds a t.1)) in
    let row = rows-agree events (d ∷ es) (d ∷ ds) more events d.name in
    ap (λ c. fault_by events d c (derived_names (d ∷ ds)) (list_all (λ t. is_known events ds t.1) d.terms) (coefficients events d.name (d ∷ ds))) (a.changes d)
    ∙ (ap (λ ns. fault_by events d (is_changed d es) ns (list_all (λ t. is_known events ds t.1) d.terms) (coefficients events d.name (d ∷ ds))) more.names
    ∙ (ap (λ k. fault_by events d (is_changed d es) (derived_names (d ∷ es)) k (coefficients events d.name (d ∷ ds))) known
    ∙ ap (λ r. fault_by events d (is_changed d es) (derived_names (d ∷ es)) (list_all (λ t. is_known events es t.1) d.terms) r) row))

abbrev FaultCases : Option (Fault × ℕ) → Type 0
FaultCases o = (o ≡ None) ⊎ ((x : Fault × ℕ) × (o ≡ Some x))

fault_cases : (o : Option (Fault × ℕ)) → FaultCases o
fault_cases None = inl refl
fault_cases (Some x) = inr (x, refl)

-- the first fault stays the first
pub fault-stays : (events : List (List ℕ)) (d : Definition) (ds : List Definition) (x : Fault × ℕ) → formula_fault events ds ≡ Some x → formula_fault events (d ∷ ds) ≡ Some x
fault-stays events d ds x h = ap (λ o. first_or o (definition_fault events d ds) d.line) h

free-before : (events : List (List ℕ)) (d : Definition) (ds : List Definition) → formula_fault events (d ∷ ds) ≡ None → formula_fault events ds ≡ None
free-before events d ds h = (earlier-none events d ds h).0

pub alike-push : (d : Definition) (es ds : List Definition) → Alike es ds → Alike (d ∷ es) (d ∷ ds)
alike-push d es ds a = record {
  fault = λ events. elim (fault_cases (formula_fault events es)) [
    | inl free ↦
        ap (λ o. first_or o (definition_fault events d ds) d.line) (a.fault events)
        ∙ ap (λ o. first_or (formula_fault events es) o d.line) (fault-agree events d es ds (a.agree events free))
    | inr (x, h) ↦ fault-stays events d ds x (a.fault events ∙ h) ∙ sym (fault-stays events d es x h)
  ];
  agree = λ events free. agree-push events d es ds (a.agree events (free-before events d es free));
}

-- ---- one more definition, of a name that has the same terms

changes-repeat : (x d : Definition) (es : List Definition) → is_defined d.name es ≡ true → is_changed d es ≡ false → is_changed x (d ∷ es) ≡ is_changed x es
changes-repeat x d [] here same = cc
changes-repeat x d (e ∷ es) here same =
    elim (cases_Bool (defines x.name d)) [
      | inr f ↦ rw f refl
      | inl f ↦
          let name : x.name ≡ d.name = names-same x.name d.name f in
          elim (cases_Bool (defines d.name e)) [
            | inl g ↦
                let k : not (same_terms e.terms d.terms) ≡ false = rw g at same in
                let terms : e.terms ≡ d.terms = terms-same e.terms d.terms (not-false _ k) in
                let g' : defines x.name e ≡ true = ap (λ n. defines n e) name ∙ g in
                rw (f, g') (ap (λ ts. not (same_terms ts x.terms)) (sym terms))
            | inr g ↦
                let here' : is_defined d.name es ≡ true = rw g at here in
                let same' : is_changed d es ≡ false = rw g at same in
                let g' : defines x.name e ≡ false = ap (λ n. defines n e) name ∙ g in
                let rest : not (same_terms d.terms x.terms) ≡ is_changed x es = rw f at (changes-repeat x d es here' same') in
                rw (f, g') rest
          ]
    ]

agree-repeat : (events : List (List ℕ)) (d : Definition) (es : List Definition) → formula_fault events es ≡ None → is_defined d.name es ≡ true → is_changed d es ≡ false → Agree events es (d ∷ es)
agree-repeat events d es free here same = record {
  names = rw here refl;
  changes = λ x. changes-repeat x d es here same;
  values = λ event name. repeats-all events es free d here same event name;
}

pub alike-repeat : (d : Definition) (es ds : List Definition) → Alike es ds → is_defined d.name es ≡ true → is_changed d es ≡ false → Alike es (d ∷ ds)
alike-repeat d es ds a here same =
    let pushed = alike-push d es ds a in
    record {
      fault = λ events. elim (fault_cases (formula_fault events es)) [
        | inl free ↦ pushed.fault events ∙ (repeat-free events d es free here same ∙ sym free)
        | inr (x, h) ↦ fault-stays events d ds x (a.fault events ∙ h) ∙ sym h
      ];
      agree = λ events free.
          let more = pushed.agree events (repeat-free events d es free here same) in
          let back = agree-repeat events d es free here same in
          record {
            names = more.names ∙ back.names;
            changes = λ x. more.changes x ∙ back.changes x;
            values = λ event name. more.values event name ∙ back.values event name;
          };
    }

-- ---- one more definition, of a name that has other terms

pub changed-represents : (d : Definition) (es ds : List Definition) → Alike es ds → is_changed d es ≡ true → Stands (Some d.line) es (d ∷ ds)
changed-represents d es ds a changed events = elim (fault_cases (formula_fault events es)) [
  | inl free ↦
      let own : definition_fault events d es ≡ Some EventTwice = rw (changed, or-true (list_any (bytes_eq d.name) events)) refl in
      (alike-push d es ds a).fault events ∙ ap (λ o. first_or (formula_fault events es) o d.line) own
  | inr (x, h) ↦ fault-stays events d ds x (a.fault events ∙ h) ∙ sym (ap (λ o. first_or o (Some EventTwice) d.line) h)
]

-- then it is the first fault, whatever follows
pub changed-stays : (line : ℕ) (d : Definition) (es ds : List Definition) → Stands (Some line) es ds → Stands (Some line) es (d ∷ ds)
changed-stays line d es ds h events = elim (fault_cases (formula_fault events es)) [
  | inl free ↦
      let first = h events ∙ ap (λ o. first_or o (Some EventTwice) line) free in
      fault-stays events d ds (EventTwice, line) first ∙ sym (ap (λ o. first_or o (Some EventTwice) line) free)
  | inr (x, k) ↦
      let first = h events ∙ ap (λ o. first_or o (Some EventTwice) line) k in
      fault-stays events d ds x first ∙ sym (ap (λ o. first_or o (Some EventTwice) line) k)
]

-- ---- one more definition, after one name too many

fresh-names : (es : List Definition) → AreFresh es → length (derived_names es) ≡ length es
fresh-names [] fresh = refl
fresh-names (d ∷ es) fresh =
    let names : derived_names (d ∷ es) ≡ derived_names es ++ d.name ∷ [] = rw fresh.0 refl in
    let more : length (derived_names es ++ d.name ∷ []) ≡ length (derived_names es) + 1 = grind (arith, common_steps) in
    let rest = fresh-names es fresh.1 in
    ap length names ∙ (more ∙ (ap (λ n. n + 1) rest ∙ omega arith))

pub too_many : (events : List (List ℕ)) (es : List Definition) → AreFresh es → 64 < length es → formula_fault events es ≡ None → ⊥
too_many events es fresh many free =
    let few = few_names events es free in
    let names = fresh-names es fresh in
    omega (arith, few, names, many)

pub alike-many : (d : Definition) (es ds : List Definition) → AreFresh es → 64 < length es → Alike es ds → Alike es (d ∷ ds)
alike-many d es ds fresh many a = record {
  fault = λ events. elim (fault_cases (formula_fault events es)) [
    | inl free ↦ absurd (too_many events es fresh many free)
    | inr (x, h) ↦ fault-stays events d ds x (a.fault events ∙ h) ∙ sym h
  ];
  agree = λ events free. absurd (too_many events es fresh many free);
}

-- ---- what is kept, as definitions

pub plain_back-push : (ds : List kept.Definition) (d : kept.Definition) → plain_back (ds ++ d ∷ []) ≡ plain_definition d ∷ plain_back ds
plain_back-push ds d = ap reverse (map-append plain_definition ds (d ∷ [])) ∙ reverse-append (map plain_definition ds) (plain_definition d ∷ [])

-- the terms at a place are those of its definition
terms_by_place : (ds : List kept.Definition) (i : ℕ) (d : kept.Definition) → i < length ds → get_or (map (λ e. terms_in e.formula.text) ds) i [] ≡ terms_in (get_or ds i d).formula.text
terms_by_place [] i d inside = absurd (omega (arith, inside))
terms_by_place (x ∷ ds) zero d inside = refl
terms_by_place (x ∷ ds) (suc i) d inside = terms_by_place ds i d (omega (arith, inside))

pub kept_terms : (f : Formulas) (at : ℕ) (d : kept.Definition) → at < length f.definitions → terms_at f at ≡ terms_in (get_or f.definitions at d).formula.text
kept_terms f at d inside = terms_by_place f.definitions at d inside

-- another definition that says the same changes nothing
maps-set : (ds : List kept.Definition) (i : ℕ) (d e : kept.Definition) → plain_definition e ≡ plain_definition (get_or ds i d) → map plain_definition (set ds i e) ≡ map plain_definition ds
maps-set [] i d e same = refl
maps-set (x ∷ ds) zero d e same = ap (λ y. y ∷ map plain_definition ds) same
maps-set (x ∷ ds) (suc i) d e same = ap (λ ys. plain_definition x ∷ ys) (maps-set ds i d e same)

pub set-same : (ds : List kept.Definition) (i : ℕ) (d e : kept.Definition) → plain_definition e ≡ plain_definition (get_or ds i d) → plain_back (set ds i e) ≡ plain_back ds
set-same ds i d e same = ap reverse (maps-set ds i d e same)

pub length-plain_back : (ds : List kept.Definition) → length (plain_back ds) ≡ length ds
length-plain_back ds = grind (arith, common_steps)

-- ---- what is kept represents one more definition

stands_later : (o : Option ℕ) (d : Definition) (es ds : List Definition) → AreFresh es → (is_some o ≡ true) ⊎ (64 < length es) → Stands o es ds → Stands o es (d ∷ ds)
stands_later (Some line) d es ds fresh why represents = changed-stays line d es ds represents
stands_later None d es ds fresh (inl some) represents = cc
stands_later None d es ds fresh (inr many) represents = alike-many d es ds fresh many represents

pub holds-later : (f : Formulas) (d : Definition) (ds : List Definition) → (is_some f.changed ≡ true) ⊎ (64 < length f.definitions) → Holds f ds → Holds f (d ∷ ds)
holds-later f d ds why holds = record {
  fresh = holds.fresh;
  represents = stands_later f.changed d (kept_of f) ds holds.fresh (elim why [ inl some ↦ inl some | inr many ↦ inr (subst (λ n. 64 < n) (sym (length-plain_back f.definitions)) many) ]) holds.represents;
}

stands_new : (o : Option ℕ) (d : Definition) (es ds : List Definition) → is_some o ≡ false → Stands o es ds → Stands o (d ∷ es) (d ∷ ds)
stands_new (Some line) d es ds none represents = cc
stands_new None d es ds none represents = alike-push d es ds represents

pub holds-new : (f g : Formulas) (d : kept.Definition) (ds : List Definition) → is_some f.changed ≡ false → g.changed ≡ f.changed → g.definitions ≡ f.definitions ++ d ∷ [] → is_defined d.name (kept_of f) ≡ false → Holds f ds → Holds g (plain_definition d ∷ ds)
holds-new f g d ds none same pushed new holds =
    let kept : kept_of g ≡ plain_definition d ∷ kept_of f = ap plain_back pushed ∙ plain_back-push f.definitions d in
    record {
      fresh = subst AreFresh (sym kept) (new, holds.fresh);
      represents = subst (λ o. Stands o (kept_of g) (plain_definition d ∷ ds)) (sym same) (subst (λ es. Stands f.changed es (plain_definition d ∷ ds)) (sym kept) (stands_new f.changed (plain_definition d) (kept_of f) ds none holds.represents));
    }

stands_repeat : (o : Option ℕ) (d : Definition) (es ds : List Definition) → is_some o ≡ false → is_defined d.name es ≡ true → is_changed d es ≡ false → Stands o es ds → Stands o es (d ∷ ds)
stands_repeat (Some line) d es ds none here same represents = cc
stands_repeat None d es ds none here same represents = alike-repeat d es ds represents here same

pub holds-repeat : (f g : Formulas) (d : Definition) (ds : List Definition) → is_some f.changed ≡ false → kept_of g ≡ kept_of f → g.changed ≡ f.changed → is_defined d.name (kept_of f) ≡ true → is_changed d (kept_of f) ≡ false → Holds f ds → Holds g (d ∷ ds)
holds-repeat f g d ds none kept as_before here same holds = record {
  fresh = subst AreFresh (sym kept) holds.fresh;
  represents = subst (λ o. Stands o (kept_of g) (d ∷ ds)) (sym as_before) (subst (λ es. Stands f.changed es (d ∷ ds)) (sym kept) (stands_repeat f.changed d (kept_of f) ds none here same holds.represents));
}

stands_changed : (o : Option ℕ) (d : Definition) (es ds : List Definition) → is_some o ≡ false → is_changed d es ≡ true → Stands o es ds → Stands (Some d.line) es (d ∷ ds)
stands_changed (Some line) d es ds none changed represents = cc
stands_changed None d es ds none changed represents = changed-represents d es ds represents changed

pub holds-changed : (f g : Formulas) (d : Definition) (ds : List Definition) → is_some f.changed ≡ false → kept_of g ≡ kept_of f → g.changed ≡ Some d.line → is_changed d (kept_of f) ≡ true → Holds f ds → Holds g (d ∷ ds)
holds-changed f g d ds none kept now changed holds = record {
  fresh = subst AreFresh (sym kept) holds.fresh;
  represents = subst (λ o. Stands o (kept_of g) (d ∷ ds)) (sym now) (subst (λ es. Stands (Some d.line) es (d ∷ ds)) (sym kept) (stands_changed f.changed d (kept_of f) ds none changed holds.represents));
}
