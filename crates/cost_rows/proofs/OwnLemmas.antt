-- Entries that lead to what stands elsewhere: what is done there for a key is done to what the key has.
use Rattle.std.proofs.Common.{inl, inr, ◌≡◌, Bool, true, false, cond, List, [], ◌∷◌, Some, All, IfSome, refl, sym, ap, subst, ◌∙◌}
use Rattle.std.specs.declared.cmp.Ordering.{Ordering}
use Rattle.std.specs.declared.cmp.Ordering.TheVariants.{Less, Equal, Greater}
use Rattle.std.specs.Ordering.{match_ordering}
use Rattle.std.specs.List.Sorted.{IsStrictlySortedBy}
use Rattle.std.specs.Map.{lookup, keys_of, values_of, set_value, remove_entry}
use Rattle.std.specs.BTreeMap.{insert_entry}
use Rattle.std.proofs.lemmas.Bool.{cases_Bool}
use Rattle.std.proofs.lemmas.List.Elements.{All-nil, All-head, All-tail, All-weaker}
use Rattle.std.proofs.lemmas.Map.Made.{keys_of-map_values}
use Rattle.std.proofs.lemmas.Map.Views.{All-values-insert_entry, All-map-remove_entry, IfSome-lookup_from_All}
use Rattle.cost_rows.specs.Own.{valued, ShareNone, HaveOwn}

-- what is so of every value is so of one that is found
pub of_found : {K X : Type 0} (P : X → Type 0) (test : K → Bool) (es : List (K × X)) (x : X) → lookup test es ≡ Some x → All P (values_of es) → P x
of_found P test es x found all = subst (λ o. IfSome o P) found (IfSome-lookup_from_All P test es all)

module _ {K X Y : Type 0} (see : X → Y) where
  pub sorted-valued : (cmp : K → K → Ordering) (es : List (K × X)) → IsStrictlySortedBy cmp (keys_of es) → IsStrictlySortedBy cmp (keys_of (valued see es))
  sorted-valued cmp es sorted = subst (IsStrictlySortedBy cmp) (sym (keys_of-map_values see es)) sorted

  insert-step : (cmp : K → K → Ordering) (key : K) (x : X) (e : K × X) (es : List (K × X)) (r : Ordering) → valued see (insert_entry cmp es key x) ≡ insert_entry cmp (valued see es) key (see x)
      → valued see (match_ordering r ((key, x) ∷ e ∷ es) ((e.0, x) ∷ es) (e ∷ insert_entry cmp es key x)) ≡ match_ordering r ((key, see x) ∷ (e.0, see e.1) ∷ valued see es) ((e.0, see x) ∷ valued see es) ((e.0, see e.1) ∷ insert_entry cmp (valued see es) key (see x))
  insert-step cmp key x e es Less rest = refl
  insert-step cmp key x e es Equal rest = refl
  insert-step cmp key x e es Greater rest = ap (λ more. (e.0, see e.1) ∷ more) rest

  pub insert-valued : (cmp : K → K → Ordering) (es : List (K × X)) (key : K) (x : X) → valued see (insert_entry cmp es key x) ≡ insert_entry cmp (valued see es) key (see x)
  insert-valued cmp [] key x = refl
  insert-valued cmp (e ∷ es) key x = insert-step cmp key x e es (cmp key e.0) (insert-valued cmp es key x)

  remove-step : (test : K → Bool) (e : K × X) (es : List (K × X)) (b : Bool) → valued see (remove_entry test es) ≡ remove_entry test (valued see es)
      → valued see (cond b es (e ∷ remove_entry test es)) ≡ cond b (valued see es) ((e.0, see e.1) ∷ remove_entry test (valued see es))
  remove-step test e es true rest = refl
  remove-step test e es false rest = ap (λ more. (e.0, see e.1) ∷ more) rest

  pub remove-valued : (test : K → Bool) (es : List (K × X)) → valued see (remove_entry test es) ≡ remove_entry test (valued see es)
  remove-valued test [] = refl
  remove-valued test (e ∷ es) = remove-step test e es (test e.0) (remove-valued test es)

  pub valued-same : (other : X → Y) (P : X → Type 0) → ((x : X) → P x → other x ≡ see x) → (es : List (K × X)) → All P (values_of es) → valued other es ≡ valued see es
  valued-same other P each [] all = refl
  valued-same other P each (e ∷ es) all =
      ap (λ y. (e.0, y) ∷ valued other es) (each e.1 (All-head P e.1 (values_of es) all))
      ∙ ap (λ more. (e.0, see e.1) ∷ more) (valued-same other P each es (All-tail P e.1 (values_of es) all))

module _ {K X : Type 0} (Apart : X → X → Type 0) (turn : (x y : X) → Apart x y → Apart y x) where
  -- ---- a write for a key

  module _ {Y : Type 0} (Within : X → Type 0) (old new : X → Y) (held : X) (others : (x : X) → Within x → Apart x held → new x ≡ old x) where
    untouched : (es : List (K × X)) → All Within (values_of es) → All (λ x. Apart x held) (values_of es) → valued new es ≡ valued old es
    untouched [] within apart = refl
    untouched (e ∷ es) within apart =
        ap (λ y. (e.0, y) ∷ valued new es) (others e.1 (All-head Within e.1 (values_of es) within) (All-head (λ x. Apart x held) e.1 (values_of es) apart))
        ∙ ap (λ more. (e.0, old e.1) ∷ more) (untouched es (All-tail Within e.1 (values_of es) within) (All-tail (λ x. Apart x held) e.1 (values_of es) apart))

    written : (test : K → Bool) (es : List (K × X)) → lookup test es ≡ Some held → All Within (values_of es) → ShareNone Apart es → valued new es ≡ set_value test (valued old es) (new held)
    written test [] found within apart = refl
    written test (e ∷ es) found within apart = elim (cases_Bool (test e.0)) [
      | inl here ↦
          let is : Some e.1 ≡ Some held = rw here at found in
          let same : e.1 ≡ held = cc in
          let P : X → Type 0 = λ y. All (λ x. Apart x y) (values_of es) in
          rw here
          (ap (λ x. (e.0, new x) ∷ valued new es) same
          ∙ ap (λ more. (e.0, new held) ∷ more) (untouched es (All-tail Within e.1 (values_of es) within) (subst P same apart.0)))
      | inr further ↦
          let rest : lookup test es ≡ Some held = rw further at found in
          let other : Apart held e.1 = of_found (λ x. Apart x e.1) test es held rest apart.0 in
          rw further
          (ap (λ y. (e.0, y) ∷ valued new es) (others e.1 (All-head Within e.1 (values_of es) within) (turn held e.1 other))
          ∙ ap (λ more. (e.0, old e.1) ∷ more) (written test es rest (All-tail Within e.1 (values_of es) within) apart.1))
    ]

    -- is one to what the key has
    pub own-written : (test : K → Bool) (es : List (K × X)) → lookup test es ≡ Some held → HaveOwn Apart Within es → valued new es ≡ set_value test (valued old es) (new held)
    own-written test es found own = written test es found own.within own.apart

  -- ---- a new key

  apart-step : (cmp : K → K → Ordering) (key : K) (x : X) (e : K × X) (es : List (K × X)) (r : Ordering) → All (λ y. Apart y x) (values_of (e ∷ es)) → ShareNone Apart (e ∷ es) → ShareNone Apart (insert_entry cmp es key x)
      → ShareNone Apart (match_ordering r ((key, x) ∷ e ∷ es) ((e.0, x) ∷ es) (e ∷ insert_entry cmp es key x))
  apart-step cmp key x e es Less all apart rest = (all, apart)
  apart-step cmp key x e es Equal all apart rest = (All-tail (λ y. Apart y x) e.1 (values_of es) all, apart.1)
  apart-step cmp key x e es Greater all apart rest =
      (All-values-insert_entry cmp key x (λ y. Apart y e.1) es apart.0 (turn e.1 x (All-head (λ y. Apart y x) e.1 (values_of es) all)), rest)

  apart-inserted : (cmp : K → K → Ordering) (key : K) (x : X) (es : List (K × X)) → All (λ y. Apart y x) (values_of es) → ShareNone Apart es → ShareNone Apart (insert_entry cmp es key x)
  apart-inserted cmp key x [] all apart = (All-nil (λ y. Apart y x), tt)
  apart-inserted cmp key x (e ∷ es) all apart = apart-step cmp key x e es (cmp key e.0) all apart (apart-inserted cmp key x es (All-tail (λ y. Apart y x) e.1 (values_of es) all) apart.1)

  -- with a value apart from all others has its own
  pub own-put : (Within More : X → Type 0) (cmp : K → K → Ordering) (es new : List (K × X)) (key : K) (x : X) → HaveOwn Apart Within es → ((y : X) → Within y → More y) → ((y : X) → Within y → Apart y x) → More x → new ≡ insert_entry cmp es key x
      → HaveOwn Apart More new
  own-put Within More cmp es new key x own wider apart more put =
      let P : List (K × X) → Type 0 = HaveOwn Apart More in
      subst P (sym put) (record {
        within = All-values-insert_entry cmp key x More es (All-weaker Within More wider (values_of es) own.within) more;
        apart = apart-inserted cmp key x es (All-weaker Within (λ y. Apart y x) apart (values_of es) own.within) own.apart;
      })

-- ---- a key that goes

module _ {K X : Type 0} (Apart : X → X → Type 0) (Within : X → Type 0) (test : K → Bool) where
  gone-step : (e : K × X) (es : List (K × X)) (b : Bool) → ShareNone Apart (e ∷ es) → ShareNone Apart (remove_entry test es) → ShareNone Apart (cond b es (e ∷ remove_entry test es))
  gone-step e es true apart rest = apart.1
  gone-step e es false apart rest = (All-map-remove_entry test (λ e. e.1) (λ x. Apart x e.1) es apart.0, rest)

  apart-removed : (es : List (K × X)) → ShareNone Apart es → ShareNone Apart (remove_entry test es)
  apart-removed [] apart = tt
  apart-removed (e ∷ es) apart = gone-step e es (test e.0) apart (apart-removed es apart.1)

  -- leaves the others their own
  pub own-removed : (es new : List (K × X)) → HaveOwn Apart Within es → new ≡ remove_entry test es → HaveOwn Apart Within new
  own-removed es new own gone =
      let P : List (K × X) → Type 0 = HaveOwn Apart Within in
      subst P (sym gone) (record { within = All-map-remove_entry test (λ e. e.1) Within es own.within; apart = apart-removed es own.apart })
