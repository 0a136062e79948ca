-- The indexes of a table are filled one after another.
use Rattle.std.proofs.Common.{◌≡◌, ◌≢◌, ◌==◌, ◌||◌, ℕ, suc, ◌+◌, ◌<◌, Bool, true, false, true≢false, List, [], ◌∷◌, ◌++◌, drop, get_or, length, map, refl, sym, ap, subst, ◌∙◌, arith, append_assoc, append-nil, drop-cons, eq-eqb, ne_eqb}
use Rattle.std.specs.List.{AllByRecursion, list_any}
use Rattle.std.proofs.lemmas.List.{drop_all}
use Rattle.sqlite_disk.specs.declared.Disk.{Ghosts}
use Rattle.sqlite_pool.specs.Pool.{state}
use Rattle.sqlite_pool.specs.Stored.{Keeps}
use Rattle.sqlite_schema.specs.declared.schema.Index.{Index}
use Rattle.sqlite_sql.specs.Catalog.{IsIndexOf}
use Rattle.sqlite_store.specs.declared.catalog.Wanted.{Wanted}
use Rattle.sqlite_trees.specs.Tree.{Trees, IsAscending, insert_entry, with_tree}
use Rattle.sqlite_value.specs.Keys.{plain}
use Rattle.sqlite_value.specs.Order.{Row}
use Rattle.page_files.specs.Places.{place_all}
use Rattle.page_files.specs.declared.files.PageFile.{PageFile}
use Rattle.page_files.specs.Files.{IsFaithful, IsUsable}
use Rattle.page_files.specs.Held.{Writes}
use Rattle.page_places.specs.Fills.{Fills}
use Rattle.page_places.specs.declared.places.IndexPlace.{IndexPlace}
use Rattle.page_places.specs.Places.{AreIndexPlaces, IsIndexPlace}
use Rattle.page_places.proofs.Changed.{with_other, with_same}
use Rattle.page_places.proofs.Filling.{first_place, none_left}
use Rattle.line_fills.specs.Filled.{IsIndexFilled}
use Rattle.line_fills.specs.Placed.{AreEntriesOf, CanBeFilled, HasEntries}
use Rattle.line_fills.proofs.Entered.{each, entered}

abbrev pub trees_of : List Index → List ℕ
trees_of = map (λ (i : Index). i.tree)

-- a tree is of none of the indexes
pub not_among : (tree : ℕ) (indexes : List Index) → list_any (λ n. n == tree) (trees_of indexes) ≡ false → AllByRecursion (λ (i : Index). i.tree ≢ tree) indexes
not_among tree [] none = tt
not_among tree (i ∷ indexes) none = go (i.tree == tree) refl none (not_among tree indexes)
  where
    go : (b : Bool) → (i.tree == tree) ≡ b → (b || list_any (λ n. n == tree) (trees_of indexes)) ≡ false
        → (list_any (λ n. n == tree) (trees_of indexes) ≡ false → AllByRecursion (λ (j : Index). j.tree ≢ tree) indexes) → AllByRecursion (λ (j : Index). j.tree ≢ tree) (i ∷ indexes)
    go true e h more = absurd (true≢false h)
    go false e h more = ((λ same. true≢false (sym (eq-eqb i.tree tree same) ∙ e)), more h)

pub among_none : (tree : ℕ) (indexes : List Index) → AllByRecursion (λ (i : Index). i.tree ≢ tree) indexes → list_any (λ n. n == tree) (trees_of indexes) ≡ false
among_none tree [] all = refl
among_none tree (i ∷ indexes) all = rw (ne_eqb i.tree tree all.0) (among_none tree indexes all.1)

-- those before one of the indexes have other trees
before_apart : (done : List Index) (i : Index) (rest : List Index) → IsAscending (λ (a b : Index). a.tree ≢ b.tree) (done ++ i ∷ rest) → AllByRecursion (λ (j : Index). j.tree ≢ i.tree) done
before_apart [] i rest apart = tt
before_apart (j ∷ done) i rest apart = (here done apart.0, before_apart done i rest apart.1)
  where
    here : (more : List Index) → AllByRecursion (λ (b : Index). j.tree ≢ b.tree) (more ++ i ∷ rest) → j.tree ≢ i.tree
    here [] all = all.0
    here (x ∷ more) all = here more all.1

-- what each of a list has, one in the middle has
in_middle : (P : Index → Type 0) (done : List Index) (i : Index) (rest : List Index) → AllByRecursion P (done ++ i ∷ rest) → P i
in_middle P [] i rest all = all.0
in_middle P (j ∷ done) i rest all = in_middle P done i rest all.1

and_last : (P : Index → Type 0) (done : List Index) (i : Index) → AllByRecursion P done → P i → AllByRecursion P (done ++ i ∷ [])
and_last P [] i all last = (last, tt)
and_last P (j ∷ done) i all last = (all.0, and_last P done i all.1 last)

front_all : (P : Index → Type 0) (done : List Index) (i : Index) → AllByRecursion P (done ++ i ∷ []) → AllByRecursion P done × P i
front_all P [] i all = (tt, all.0)
front_all P (j ∷ done) i all = let more = front_all P done i all.1 in ((all.0, more.0), more.1)

-- filled indexes stay so where other trees are those that change
still_filled : (now next after : Trees) (news : List Row) (indexes : List Index) → AllByRecursion (λ (j : Index). after j.tree ≡ next j.tree) indexes → AllByRecursion (IsIndexFilled now next news) indexes
    → AllByRecursion (IsIndexFilled now after news) indexes
still_filled now next after news [] same filled = tt
still_filled now next after news (j ∷ indexes) same filled =
    (subst (Fills j.columns (length j.columns) news (now j.tree)) (sym same.0) filled.0, still_filled now next after news indexes same.1 filled.1)

-- and where they were the same before
pub still_filled_from : (now before next : Trees) (news : List Row) (indexes : List Index) → AllByRecursion (λ (j : Index). now j.tree ≡ before j.tree) indexes → AllByRecursion (IsIndexFilled now next news) indexes
    → AllByRecursion (IsIndexFilled before next news) indexes
still_filled_from now before next news [] same filled = tt
still_filled_from now before next news (j ∷ indexes) same filled =
    (subst (λ rows. Fills j.columns (length j.columns) news rows (next j.tree)) same.0 filled.0, still_filled_from now before next news indexes same.1 filled.1)

module _ {D : Type 0} {g : Ghosts D} where
  -- the indexes of the first k places are filled
  pub record IsPart (wanted : List Wanted) (roots : List ℕ) (was now : Trees) (places : List IndexPlace) (indexes : List Index) (news : List Row) (k : ℕ) (file : PageFile D g) : Type 0 where
    pub done : List Index
    pub left : List Index
    pub split : indexes ≡ done ++ left
    pub places_left : AreIndexPlaces wanted roots (drop k places) left
    pub has : HasEntries wanted roots was now done news file

  -- how far a loop has come that began with the file `old`
  pub record HasFilledSome (old file : PageFile D g) (places : List IndexPlace) (news : List Row) (k : ℕ) : Type 0 where
    pub keeps : Keeps (state old.pool) (state file.pool)
    pub usable : IsUsable old → IsUsable file
    pub part : IsFaithful file → (wanted : List Wanted) (roots : List ℕ) (was now : Trees) (indexes : List Index) (olds : List Row) → Writes wanted roots was now old
        → AreIndexPlaces wanted roots places indexes → CanBeFilled now indexes olds news → IsPart wanted roots was now places indexes news k file

  module _ (wanted : List Wanted) (roots : List ℕ) (was now : Trees) (places : List IndexPlace) (indexes : List Index) (news : List Row) (k : ℕ) (file : PageFile D g)
      (part : IsPart wanted roots was now places indexes news k file) where
    pub all_filled : length places ≡ k → HasEntries wanted roots was now indexes news file
    all_filled is =
        let none = none_left wanted roots part.left (subst (λ l. AreIndexPlaces wanted roots l part.left) (drop_all k places (omega arith)) part.places_left) in
        let all : indexes ≡ part.done = part.split ∙ ap (λ l. part.done ++ l) none ∙ append-nil part.done in
        subst (λ l. HasEntries wanted roots was now l news file) (sym all) part.has

    -- the next index is filled
    module _ (olds : List Row) (can : CanBeFilled now indexes olds news) (d : IndexPlace) (low : k < length places) (new : PageFile D g) where
      abbrev place : IndexPlace
      place = get_or places k d

      next_place : (i : Index) × (rest : List Index) × (part.left ≡ i ∷ rest) × IsIndexPlace wanted roots place i × AreIndexPlaces wanted roots (drop (suc k) places) rest
      next_place = first_place wanted roots place (drop (suc k) places) part.left (subst (λ l. AreIndexPlaces wanted roots l part.left) (drop-cons places k d low) part.places_left)

      -- what each of the indexes has, that at the next place has
      pub next_one : (P : Index → Type 0) → (i : Index) × IsIndexPlace wanted roots (get_or places k d) i × (AllByRecursion P indexes → P i)
      next_one P =
          let n = next_place in
          let whole : indexes ≡ part.done ++ n.0 ∷ n.1 = part.split ∙ ap (λ l. part.done ++ l) n.2 in
          (n.0, n.3, λ all. in_middle P part.done n.0 n.1 (subst (AllByRecursion P) whole all))

      pub one_more : ((i : Index) → IsIndexPlace wanted roots place i → (entries : List Row) × AreEntriesOf place.columns.now news entries
          × Writes wanted roots was (with_tree part.has.next i.tree (place_all (insert_entry plain) entries (part.has.next i.tree))) new)
          → IsPart wanted roots was now places indexes news (k + 1) new
      one_more fills =
          let n = next_place in
          let i = n.0 in
          let done = part.done in
          let next = part.has.next in
          let made = fills i n.3 in
          let entries = made.0 in
          let rows = place_all (insert_entry plain) entries (next i.tree) in
          let after = with_tree next i.tree rows in
          let later : suc k ≡ k + 1 = omega arith in
          let whole : indexes ≡ done ++ i ∷ n.1 = part.split ∙ ap (λ l. done ++ l) n.2 in
          let apart = before_apart done i n.1 (subst (IsAscending (λ (a b : Index). a.tree ≢ b.tree)) whole can.apart) in
          let there : next i.tree ≡ now i.tree = part.has.spared i.tree (among_none i.tree done apart) in
          let indexed : IsIndexOf place.columns.now olds (now i.tree) =
          subst (λ cs. IsIndexOf cs olds (now i.tree)) (sym n.3.columns) (in_middle (λ (j : Index). IsIndexOf j.columns olds (now j.tree)) done i n.1 (subst (AllByRecursion (λ (j : Index). IsIndexOf j.columns olds (now j.tree))) whole can.indexed)) in
          let filled : Fills place.columns.now (length place.columns.now) news (now i.tree) (place_all (insert_entry plain) entries (now i.tree)) = entered place.columns.now news olds entries can.shaped made.1 (now i.tree) indexed in
          let here : after i.tree ≡ place_all (insert_entry plain) entries (now i.tree) = with_same next i.tree rows ∙ ap (place_all (insert_entry plain) entries) there in
          record {
            done = done ++ i ∷ [];
            left = n.1;
            split = whole ∙ sym (append_assoc done (i ∷ []) n.1);
            places_left = subst (λ j. AreIndexPlaces wanted roots (drop j places) n.1) later n.4;
            has = record {
              next = after;
              writes = made.2;
              spared = λ tree none.
                  let away = front_all (λ (j : Index). j.tree ≢ tree) done i (not_among tree (done ++ i ∷ []) none) in
                  with_other next i.tree tree rows (λ same. away.1 (sym same)) ∙ part.has.spared tree (among_none tree done away.0);
              filled = and_last (IsIndexFilled now after news) done i
                  (still_filled now next after news done (each (λ (j : Index). j.tree ≢ i.tree) (λ (j : Index). after j.tree ≡ next j.tree) (λ j other. with_other next i.tree j.tree rows other) done apart) part.has.filled)
                  (subst (λ cs. Fills cs (length cs) news (now i.tree) (after i.tree)) n.3.columns (subst (Fills place.columns.now (length place.columns.now) news (now i.tree)) (sym here) filled));
            };
          }
