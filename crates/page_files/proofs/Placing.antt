-- Rows placed one after another, and edits of a tree one after another.
use Rattle.std.proofs.Common.{◌≡◌, ℕ, zero, suc, ◌+◌, ◌-◌, ◌<◌, Bool, true, List, [], ◌∷◌, ◌++◌, length, map, take, drop, get_or, All, Result, MatchResult, refl, sym, ap, subst, ◌∙◌, inl, inr, arith, append-nil, eq-eqb, ne_eqb, take-append-drop, take_all, length-drop}
use Rattle.std.proofs.Math.Path.{fun_ext}
use Rattle.std.proofs.lemmas.Bool.{cases_eq}
use Rattle.std.proofs.lemmas.List.{append_assoc, take_more}
use Rattle.std.proofs.lemmas.List.Elements.{All-head, All-tail}
use Rattle.sqlite_pages.specs.PageMap.{PageMap}
use Rattle.sqlite_pages.specs.declared.error.Error.{Error}
use Rattle.sqlite_pages.specs.declared.pages.Pages.{Ghosts}
use Rattle.sqlite_pages.specs.Calls.{IsClean, Continues}
use Rattle.sqlite_btree.specs.Cut.{Ascends, Each}
use Rattle.sqlite_btree.proofs.Results.{so_ok}
use Rattle.sqlite_value.specs.Order.{Row}
use Rattle.sqlite_trees.specs.declared.store.Shape.{Shape}
use Rattle.sqlite_trees.specs.Tree.{with_tree}
use Rattle.sqlite_store.specs.declared.catalog.Wanted.{Wanted}
use Rattle.sqlite_store.specs.Catalog.{reals_at}
use Rattle.sqlite_store.specs.Db.{shown, trees_in, IsDb, Names, Edits}
use Rattle.sqlite_store.specs.Limit.{HasDeepTree}
use Rattle.sqlite_store.proofs.Causes.{Continues-trans}
use Rattle.page_files.specs.Places.{Place, place_all, Deepens, PlacesFirst, FailsToPlace}
use Rattle.page_files.specs.OneTree.{PlacesRow}

pub place_all-append : (place : Place) (first next rows : List Row) → place_all place (first ++ next) rows ≡ place_all place next (place_all place first rows)
place_all-append place [] next rows = refl
place_all-append place (x ∷ first) next rows = place_all-append place first next (place x rows)

pub each_of_all : {X : Type 0} (P : X → Type 0) (xs : List X) → All P xs → Each P xs
each_of_all P [] all = tt
each_of_all P (x ∷ xs) all = (All-head P x xs all, each_of_all P xs (All-tail P x xs all))

-- where a row goes past those that it comes after, rows that rise are placed behind
module _ {X : Type 0} (place : Place) (show : X → Row) (order : X → X → Bool) (none : (x : X) → place (show x) [] ≡ show x ∷ [])
    (past : (x y : X) (rows : List Row) → order x y ≡ true → place (show y) (show x ∷ rows) ≡ show x ∷ place (show y) rows) where
  one_behind : (xs : List X) (y : X) → Each (λ x. order x y ≡ true) xs → place (show y) (map show xs) ≡ map show (xs ++ y ∷ [])
  one_behind [] y all = none y
  one_behind (x ∷ xs) y all = past x y (map show xs) all.0 ∙ ap (λ l. show x ∷ l) (one_behind xs y all.1)

  ends_below : (xs : List X) (y : X) (ys : List X) → Ascends order (xs ++ y ∷ ys) → Each (λ x. order x y ≡ true) xs
  ends_below [] y ys up = tt
  ends_below (x ∷ xs) y ys up = (first xs up.0, ends_below xs y ys up.1)
    where
      first : (zs : List X) → Each (λ z. order x z ≡ true) (zs ++ y ∷ ys) → order x y ≡ true
      first [] all = all.0
      first (z ∷ zs) all = first zs all.1

  pub placed_behind : (xs ys : List X) → Ascends order (xs ++ ys) → place_all place (map show ys) (map show xs) ≡ map show (xs ++ ys)
  placed_behind xs [] up = ap (map show) (sym (append-nil xs))
  placed_behind xs (y ∷ ys) up =
      let same : (xs ++ y ∷ []) ++ ys ≡ xs ++ y ∷ ys = append_assoc xs (y ∷ []) ys in
      ap (place_all place (map show ys)) (one_behind xs y (ends_below xs y ys up)) ∙ placed_behind (xs ++ y ∷ []) ys (subst (Ascends order) (sym same) up) ∙ ap (map show) same

-- what each row keeps, all keep
pub place_all-shown : (place : Place) (show : Row → Row) → ((new : Row) → show new ≡ new → (rows : List Row) → map show (place new rows) ≡ place new (map show rows))
    → (news : List Row) → Each (λ row. show row ≡ row) news → (rows : List Row) → map show (place_all place news rows) ≡ place_all place news (map show rows)
place_all-shown place show one [] same rows = refl
place_all-shown place show one (new ∷ news) same rows =
    place_all-shown place show one news same.1 (place new rows) ∙ ap (place_all place news) (one new same.0 rows)

module _ {size t : ℕ} {schema : List Wanted} where
  pub edits_none : {pages : PageMap} → IsDb size schema pages → Edits size schema pages pages t (λ rows. rows)
  edits_none {pages} db =
      record {
        db = db;
        roots = refl;
        listed = refl;
        trees = fun_ext (λ u. elim (cases_eq u t) [ inl same ↦ rw (eq-eqb u t same, same) | inr other ↦ rw (ne_eqb u t other) ]);
      }

  pub edits_as : {before after : PageMap} {edit other : List Row → List Row} → ((rows : List Row) → edit rows ≡ other rows) → Edits size schema before after t edit → Edits size schema before after t other
  edits_as {before} {after} {edit} {other} same e =
      record { db = e.db; roots = e.roots; listed = e.listed; trees = e.trees ∙ ap (with_tree (trees_in size schema before) t) (same (trees_in size schema before t)) }

  pub edits_twice : {before mid after : PageMap} {first second : List Row → List Row} → Edits size schema before mid t first → Edits size schema mid after t second
      → Edits size schema before after t (λ rows. second (first rows))
  edits_twice {before} {mid} {after} {first} {second} a b =
      let old = trees_in size schema before in
      let now : trees_in size schema mid t ≡ first (old t) = ap (λ trees. trees t) a.trees ∙ rw (eq-eqb t t refl) refl in
      record {
        db = b.db;
        roots = b.roots ∙ a.roots;
        listed = b.listed ∙ a.listed;
        trees = b.trees ∙ fun_ext (λ u. elim (cases_eq u t) [
          | inl same ↦ rw (eq-eqb u t same) (ap second now)
          | inr other ↦ rw (ne_eqb u t other) (ap (λ trees. trees u) a.trees ∙ rw (ne_eqb u t other) refl)
        ]);
      }

  pub names_after : {before after : PageMap} {edit : List Row → List Row} {shape : Shape} {root : ℕ} → Edits size schema before after t edit → Names size schema before t shape root
      → Names size schema after t shape root
  names_after {before} {after} e names = record { shape_is = names.shape_is; root_is = ap (λ roots. get_or roots t 0) e.roots ∙ names.root_is }

-- a limit that is met later
pub deepens_later : {P : Type 0} (g : Ghosts P) → ((a b c : P) → g.follows a b → g.follows b c → g.follows a c) → {first old : P} → Continues g first old → {t root : ℕ} {schema : List Wanted} {place : Place}
    (done news : List Row) → Edits (g.size first) schema (g.pages first) (g.pages old) t (place_all place done) → Deepens g old schema t root place news → Deepens g first schema t root place (done ++ news)
deepens_later g trans {first} {old} so {t} {root} {schema} {place} done news e d =
    record {
      front = done ++ d.front;
      back = d.back;
      parts = ap (λ l. done ++ l) d.parts ∙ sym (append_assoc done d.front d.back);
      now = d.now;
      comes = Continues-trans g trans so d.comes;
      edits = edits_as (λ rows. sym (place_all-append place done d.front rows))
          (edits_twice e (subst (λ s. Edits s schema (g.pages old) (g.pages d.now) t (place_all place d.front)) so.same_size d.edits));
      deep = d.deep;
    }

module _ {P : Type 0} (g : Ghosts P) {first old : P} (new : P) (so : Continues g first old) {schema : List Wanted} {t root : ℕ} {shape : Shape} (place : Place)
    (names : Names (g.size first) schema (g.pages first) t shape root) (clean : IsClean g new) where
  -- after some rows the first of the rest are placed
  pub placed_more : ((a b c : P) → g.follows a b → g.follows b c → g.follows a c) → (done rest : List Row) → Edits (g.size first) schema (g.pages first) (g.pages old) t (place_all place done) → All (λ row. shown shape (reals_at schema t) row ≡ row) rest
      → (result : Result ℕ Error) → PlacesFirst g old new shape root place rest result
      → MatchResult result (λ n. Edits (g.size first) schema (g.pages first) (g.pages new) t (place_all place (done ++ take n rest))) (FailsToPlace g first new schema t root place (done ++ rest))
  placed_more trans done rest edits same result places =
      let size = so.same_size in
      so_ok result (λ n. Edits (g.size old) schema (g.pages old) (g.pages new) t (place_all place (take n rest))) _ (g.faults first) (g.faults old) _
      (Deepens g old schema t root place rest) (Deepens g first schema t root place (done ++ rest)) (omega (arith, so.more_faults))
      (λ d. deepens_later g trans so done rest edits d)
      (places clean schema t (subst (λ s. IsDb s schema (g.pages old)) (sym size) edits.db) (subst (λ s. Names s schema (g.pages old) t shape root) (sym size) (names_after edits names)) same)
      (λ n e. edits_as (λ rows. sym (place_all-append place done (take n rest) rows))
      (edits_twice edits (subst (λ s. Edits s schema (g.pages old) (g.pages new) t (place_all place (take n rest))) size e)))

  -- and one row more
  pub one_placed : {A : Type 0} (n : ℕ) (news : List Row) (row : Row) → n < length news → row ≡ get_or news n [] → Edits (g.size first) schema (g.pages first) (g.pages old) t (place_all place (take n news))
      → All (λ row. shown shape (reals_at schema t) row ≡ row) news → (result : Result A Error) → PlacesRow g old new shape root row place result
      → MatchResult result (λ _. Edits (g.size first) schema (g.pages first) (g.pages new) t (place_all place (take (n + 1) news))) (FailsToPlace g first new schema t root place news)
  one_placed n news row within is edits same result places =
      let size = so.same_size in
      let show = shown shape (reals_at schema t) in
      so_ok result (λ _. Edits (g.size old) schema (g.pages old) (g.pages new) t (place row)) _ (g.faults first) (g.faults old) _
      (HasDeepTree (g.size old) (g.pages old) root) (Deepens g first schema t root place news) (omega (arith, so.more_faults))
      (λ d. record { front = take n news; back = drop n news; parts = sym (take-append-drop n news); now = old; comes = so; edits = edits; deep = d })
      (places clean schema t (subst (λ s. IsDb s schema (g.pages old)) (sym size) edits.db) (subst (λ s. Names s schema (g.pages old) t shape root) (sym size) (names_after edits names))
      (subst (λ r. show r ≡ r) (sym is) (same n [] within)))
      (λ _ e. edits_as (λ rows. sym (ap (λ l. place_all place l rows) (take_more news n [] within ∙ ap (λ r. take n news ++ r ∷ []) (sym is)) ∙ place_all-append place (take n news) (row ∷ []) rows))
      (edits_twice edits (subst (λ s. Edits s schema (g.pages old) (g.pages new) t (place row)) size e)))

take_none : {X : Type 0} (n : ℕ) → take {A = X} n [] ≡ []
take_none zero = refl
take_none (suc n) = refl

-- some, and then some of the rest
pub take_more_of : {X : Type 0} (xs : List X) (d n : ℕ) → take d xs ++ take n (drop d xs) ≡ take (d + n) xs
take_more_of xs zero n = let same : n ≡ 0 + n = omega arith in ap (λ k. take k xs) same
take_more_of [] (suc d) n = take_none n ∙ sym (take_none (suc d + n))
take_more_of (x ∷ xs) (suc d) n = let same : suc (d + n) ≡ suc d + n = omega arith in ap (λ l. x ∷ l) (take_more_of xs d n) ∙ ap (λ k. take k (x ∷ xs)) same

-- what a range up to the end is
pub range_to_end : {X : Type 0} (xs : List X) (d : ℕ) → take (length xs - d) (drop d xs) ≡ drop d xs
range_to_end xs d = take_all (length xs - d) (drop d xs) (omega (arith, length-drop d xs))
