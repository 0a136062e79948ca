-- Maps of names to their places, while one more name comes in and while the last ones go.
use Rattle.std.proofs.Common.{◌≡◌, ◌↔◌, ◌⊎◌, inl, inr, ℕ, zero, suc, ◌<◌, ◌^◌, Bool, true, false, not, cond, List, [], ◌∷◌, ◌++◌, length, take, drop, Option, Some, None, refl, sym, ap, subst₂, ◌∙◌, arith, length-append}
use Rattle.std.specs.declared.cmp.Ordering.{Ordering}
use Rattle.std.specs.declared.cmp.Ordering.TheVariants.{Less, Equal, Greater}
use Rattle.std.specs.Ordering.{nat_cmp, match_ordering, is_eq}
use Rattle.std.specs.Cmp.{Equal-is}
use Rattle.std.specs.Cmp.Lexicographic.{slice_cmp}
use Rattle.std.specs.List.{list_any, slice_get}
use Rattle.std.specs.Map.{lookup}
use Rattle.std.specs.BTreeMap.{BTreeMap, get, insert_entry, get_by}
use Rattle.std.specs.Str.{bytes_eq}
use Rattle.std.specs.declared.vec.Vec.{Vec}
use Rattle.std.proofs.lemmas.Bool.{cases_Bool, and_from, not_from_false, or_parts, or_from}
use Rattle.std.proofs.lemmas.List.{take-append-drop}
use Rattle.std.proofs.lemmas.Map.Lookups.{exact_bytes}
use Rattle.std.proofs.lemmas.Map.Views.{tells_apart}
use Rattle.std.proofs.lemmas.Map.Text.{is_eq-slice_cmp}
use Rattle.cg_text.specs.Distinct.{are_distinct}
use Rattle.cost_rows.specs.Hashes.{hash_of}
use Rattle.cost_rows.specs.Naming.{place_of}
use Rattle.cost_rows.specs.Numbered.{IsFoundAt, FindsAllBut, IsNumbered}
use Rattle.cost_rows.proofs.NamingLemmas.{same_bytes, bytes-same, first-apart, at_place, place_at, with-new, distinct-with}

-- what a test finds where an entry is put in its place among others, if it answers alike at keys that compare as equal
module _ {K X : Type 0} (R : K → K → Ordering) (test : K → Bool) (alike : (x y : K) → R x y ≡ Equal → test x ≡ test y) (apart : (x y : K) → test x ≡ true → test y ≡ true → R x y ≡ Equal) (k : K) (v : X) where
  over : (b : Bool) (old : X) (rest : Option X) → cond b (Some v) rest ≡ cond b (Some v) (cond b (Some old) rest)
  over true old rest = refl
  over false old rest = refl

  past : (mine other : Bool) (old : X) (rest : Option X) → (mine ≡ true → other ≡ true → ⊥) → cond other (Some old) (cond mine (Some v) rest) ≡ cond mine (Some v) (cond other (Some old) rest)
  past true true old rest not_both = absurd (not_both refl refl)
  past true false old rest not_both = refl
  past false other old rest not_both = refl

  step : (e : K × X) (es : List (K × X)) (r : Ordering) → R k e.0 ≡ r → lookup test (insert_entry R es k v) ≡ cond (test k) (Some v) (lookup test es) → lookup test (match_ordering r ((k, v) ∷ e ∷ es) ((e.0, v) ∷ es) (e ∷ insert_entry R es k v)) ≡ cond (test k) (Some v) (lookup test (e ∷ es))
  step e es Less is rest = refl
  step e es Equal is rest =
      ap (λ b. cond b (Some v) (lookup test es)) (sym (alike k e.0 is))
      ∙ over (test k) e.1 (lookup test es)
      ∙ ap (λ b. cond (test k) (Some v) (cond b (Some e.1) (lookup test es))) (alike k e.0 is)
  step e es Greater is rest =
      ap (cond (test e.0) (Some e.1)) rest
      ∙ past (test k) (test e.0) e.1 (lookup test es) (λ mine other. let h : Equal ≡ Greater = sym (apart k e.0 mine other) ∙ is in cc)

  pub lookup-insert_entry : (es : List (K × X)) → lookup test (insert_entry R es k v) ≡ cond (test k) (Some v) (lookup test es)
  lookup-insert_entry [] = refl
  lookup-insert_entry (e ∷ es) = step e es (R k e.0) refl (lookup-insert_entry es)

-- keys by their bytes
abbrev pub by_bytes : {Z : Type 0} → Vec ℕ Z → Vec ℕ Z → Ordering
by_bytes x y = slice_cmp nat_cmp x.items y.items

bytes-equal : (a b : List ℕ) → a ≡ b → slice_cmp nat_cmp a b ≡ Equal
bytes-equal a b e = (Equal-is (slice_cmp nat_cmp a b)).0 (is_eq-slice_cmp a b ∙ bytes-same a b e)

-- a name has the number that came in with its bytes, or what it had
pub found-by-name : {Z : Type 0} (others more : BTreeMap (Vec ℕ Z) ℕ) (key : Vec ℕ Z) (n : ℕ) (name : List ℕ) → more.entries ≡ insert_entry by_bytes others.entries key n
    → get_by (λ k. slice_cmp nat_cmp name k.items) more ≡ cond (is_eq (slice_cmp nat_cmp name key.items)) (Some n) (get_by (λ k. slice_cmp nat_cmp name k.items) others)
found-by-name others more key n name entries =
    ap (lookup (λ k. is_eq (slice_cmp nat_cmp name k.items))) entries
    ∙ lookup-insert_entry by_bytes (λ k. is_eq (slice_cmp nat_cmp name k.items))
    (λ x y equal. ap (λ b. is_eq (slice_cmp nat_cmp name b)) (exact_bytes x.items y.items equal))
    (λ x y one two. bytes-equal x.items y.items (sym (tells_apart exact_bytes name x.items one) ∙ tells_apart exact_bytes name y.items two))
    key n others.entries

-- ---- places in lists

-- what stands at a place of the first elements stands there
at-take : {X : Type 0} (xs : List X) (len n : ℕ) (x : X) → slice_get (take len xs) n ≡ Some x → slice_get xs n ≡ Some x
at-take [] zero n x at = absurd (cc)
at-take [] (suc len) n x at = at
at-take (y ∷ xs) zero n x at = absurd (cc)
at-take (y ∷ xs) (suc len) zero x at = at
at-take (y ∷ xs) (suc len) (suc n) x at = at-take xs len n x at

-- what stands at a place of a list with one more element stood there, or is this element
at-push : {X : Type 0} (xs : List X) (y x : X) (n : ℕ) → slice_get (xs ++ y ∷ []) n ≡ Some x → (slice_get xs n ≡ Some x) ⊎ ((n ≡ length xs) × (x ≡ y))
at-push [] y x zero at = inr (refl, cc)
at-push [] y x (suc n) at = absurd (cc)
at-push (z ∷ xs) y x zero at = inl at
at-push (z ∷ xs) y x (suc n) at = elim (at-push xs y x n at) [
  | inl before ↦ inl before
  | inr last ↦ inr (ap suc last.0, last.1)
]

-- of distinct names the first ones are distinct
none-taken : (p : List ℕ → Bool) (names : List (List ℕ)) (len : ℕ) → list_any p names ≡ false → list_any p (take len names) ≡ false
none-taken p [] zero none = refl
none-taken p [] (suc len) none = refl
none-taken p (first ∷ names) zero none = refl
none-taken p (first ∷ names) (suc len) none =
    let parts = or_parts (p first) (list_any p names) none in
    or_from (p first) (list_any p (take len names)) parts.0 (none-taken p names len parts.1)

distinct-taken : (names : List (List ℕ)) (len : ℕ) → are_distinct names ≡ true → are_distinct (take len names) ≡ true
distinct-taken [] zero h = refl
distinct-taken [] (suc len) h = refl
distinct-taken (first ∷ names) zero h = refl
distinct-taken (first ∷ names) (suc len) h =
    let parts = first-apart first names h in
    and_from (not (list_any (bytes_eq first) (take len names))) (are_distinct (take len names))
    (not_from_false (list_any (bytes_eq first) (take len names)) (none-taken (bytes_eq first) names len parts.0))
    (distinct-taken names len parts.1)

-- ---- what the maps find

module _ {Z : Type 0} where
  -- the first names are found as before
  pub first-numbered : (names : List (List ℕ)) (len : ℕ) (hashes : BTreeMap ℕ ℕ) (others : BTreeMap (Vec ℕ Z) ℕ) → IsNumbered names hashes others → IsNumbered (take len names) hashes others
  first-numbered names len hashes others is = record {
    found = λ name n at. is.found name n (at-take names len n name at);
    distinct = distinct-taken names len is.distinct;
    few = let small = is.few in let whole = ap length (take-append-drop len names) in omega (arith, small, whole, length-append (take len names) (drop len names));
  }

  -- and one more that is found at its place
  pub one-numbered : (names : List (List ℕ)) (new : List ℕ) (hashes : BTreeMap ℕ ℕ) (others : BTreeMap (Vec ℕ Z) ℕ) → IsNumbered names hashes others → place_of new names ≡ None → length names < 2 ^ 32
      → IsFoundAt new (length names) hashes others → IsNumbered (names ++ new ∷ []) hashes others
  one-numbered names new hashes others is absent small found = record {
    found = λ name n at. elim (at-push names new name n at) [
      | inl before ↦ is.found name n before
      | inr last ↦ subst₂ (λ q m. IsFoundAt q m hashes others) (sym last.1) (sym last.0) found
    ];
    distinct = ap are_distinct (sym (with-new names new absent)) ∙ distinct-with names new is.distinct;
    few = omega (arith, length-append names (new ∷ []));
  }

  -- where all names are found by other maps
  pub kept-numbered : (names : List (List ℕ)) (new : List ℕ) (hashes : BTreeMap ℕ ℕ) (others : BTreeMap (Vec ℕ Z) ℕ) (more_hashes : BTreeMap ℕ ℕ) (more_others : BTreeMap (Vec ℕ Z) ℕ) → IsNumbered names hashes others → place_of new names ≡ None
      → FindsAllBut new hashes others more_hashes more_others → IsNumbered names more_hashes more_others
  kept-numbered names new hashes others more_hashes more_others is absent kept = record {
    found = λ name n at. kept name n (apart name n at (cases_Bool (bytes_eq name new))) (is.found name n at);
    distinct = is.distinct;
    few = is.few;
  }
    where
      apart : (name : List ℕ) (n : ℕ) → slice_get names n ≡ Some name → (bytes_eq name new ≡ true) ⊎ (bytes_eq name new ≡ false) → bytes_eq name new ≡ false
      apart name n at (inl same) =
          let nothing : Option ℕ = None in
          let h : nothing ≡ Some n = sym absent ∙ ap (λ q. place_of q names) (sym (same_bytes name new same)) ∙ place_at names name n is.distinct at in
          absurd (cc)
      apart name n at (inr other) = other

  -- a name gets a number by itself: all else is found as before
  pub name-kept : (name : List ℕ) (hashes : BTreeMap ℕ ℕ) (others more : BTreeMap (Vec ℕ Z) ℕ) (key : Vec ℕ Z) (n : ℕ) → key.items ≡ name → more.entries ≡ insert_entry by_bytes others.entries key n → FindsAllBut name hashes others hashes more
  name-kept name hashes others more key n bytes entries other m apart (inl by_hash) = inl by_hash
  name-kept name hashes others more key n bytes entries other m apart (inr by_name) =
      let different : is_eq (slice_cmp nat_cmp other key.items) ≡ false = is_eq-slice_cmp other key.items ∙ ap (bytes_eq other) bytes ∙ apart in
      inr (found-by-name others more key n other entries ∙ ap (λ b. cond b (Some n) (get_by (λ k. slice_cmp nat_cmp other k.items) others)) different ∙ by_name)

  -- and it is found by itself
  pub name-found : (name : List ℕ) (hashes : BTreeMap ℕ ℕ) (others more : BTreeMap (Vec ℕ Z) ℕ) (key : Vec ℕ Z) (n : ℕ) → key.items ≡ name → more.entries ≡ insert_entry by_bytes others.entries key n → IsFoundAt name n hashes more
  name-found name hashes others more key n bytes entries =
      let same : is_eq (slice_cmp nat_cmp name key.items) ≡ true = is_eq-slice_cmp name key.items ∙ bytes-same name key.items (sym bytes) in
      inr (found-by-name others more key n name entries ∙ ap (λ b. cond b (Some n) (get_by (λ k. slice_cmp nat_cmp name k.items) others)) same)

-- ---- what a search finds

-- the number that a map gives, if it is that of the name
abbrev pub IsIfNamed : Option ℕ → Option ℕ → List ℕ → List (List ℕ) → Type 0
IsIfNamed it given name names = (n : ℕ) → (it ≡ Some n) ↔ ((given ≡ Some n) × (slice_get names n ≡ Some name))

module _ {Z : Type 0} (names : List (List ℕ)) (name : List ℕ) (hashes : BTreeMap ℕ ℕ) (others : BTreeMap (Vec ℕ Z) ℕ) (is : IsNumbered names hashes others) where
  -- a number that is that of the name is its place
  pub named-place : (it given : Option ℕ) (n : ℕ) → IsIfNamed it given name names → it ≡ Some n → it ≡ place_of name names
  named-place it given n named some = some ∙ sym (place_at names name n is.distinct ((named n).0 some).1)

  nowhere : (first it : Option ℕ) (p : ℕ) → IsIfNamed first (get nat_cmp hashes (hash_of name)) name names → first ≡ None → IsIfNamed it (get_by (λ k. slice_cmp nat_cmp name k.items) others) name names → it ≡ None → slice_get names p ≡ Some name → ⊥
  nowhere first it p by_hash none by_name nothing at = elim (is.found name p at) [
    | inl here ↦ let no : Option ℕ = None in let h : no ≡ Some p = sym none ∙ (by_hash p).1 (here, at) in absurd (cc)
    | inr here ↦ let no : Option ℕ = None in let h : no ≡ Some p = sym nothing ∙ (by_name p).1 (here, at) in absurd (cc)
  ]

  absent : (first it place : Option ℕ) → IsIfNamed first (get nat_cmp hashes (hash_of name)) name names → first ≡ None → IsIfNamed it (get_by (λ k. slice_cmp nat_cmp name k.items) others) name names → it ≡ None → place_of name names ≡ place → it ≡ place
  absent first it None by_hash none by_name nothing place = nothing
  absent first it (Some p) by_hash none by_name nothing place = absurd (nowhere first it p by_hash none by_name nothing (at_place names name p place))

  -- where the hash gives no number of the name, the name itself gives its place, if it has one
  pub searched : (first it : Option ℕ) (came : Option ℕ) → it ≡ came → IsIfNamed first (get nat_cmp hashes (hash_of name)) name names → first ≡ None → IsIfNamed it (get_by (λ k. slice_cmp nat_cmp name k.items) others) name names → it ≡ place_of name names
  searched first it None came by_hash none by_name = absent first it (place_of name names) by_hash none by_name came refl
  searched first it (Some n) came by_hash none by_name = named-place it (get_by (λ k. slice_cmp nat_cmp name k.items) others) n by_name came
