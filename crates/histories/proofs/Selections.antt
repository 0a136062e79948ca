-- The files of a selection, and the runs of tables that they are.
use Rattle.std.proofs.Common.{◌≡◌, ℕ, ◌<◌, Bool, true, false, ◌||◌, ◌==◌, eqb, List, [], ◌∷◌, map, filter, refl, sym, ap, ◌∙◌, cond, arith}
use Rattle.std.specs.Cmp.{nat_cmp_is}
use Rattle.std.specs.List.{list_any, AllByRecursion}
use Rattle.std.specs.List.Sorted.{IsStrictlySortedBy}
use Rattle.std.specs.Ordering.{nat_cmp}
use Rattle.std.specs.declared.cmp.Ordering.TheVariants.{Less}
use Rattle.std.proofs.lemmas.Bool.{eqb-true, ne_eqb}
use Rattle.plain_tables.specs.Tables.{Tables, RunRow}
use Rattle.run_stores.specs.Book.{run_held}
use Rattle.histories.specs.History.{History, File, held, is_member}
use Rattle.histories.specs.Legal.{IsHistory}
use Rattle.histories.specs.SelectedRuns.{selects_in, AreSelected, SelectionAgrees}
use Rattle.histories.specs.Selections.{selects, selected, numbers_of}
use Rattle.histories.specs.Representation.{AreBooksOf, TablesRepresent}
use Rattle.requests.specs.Plain.{Selection}
use Rattle.requests.specs.declared.selections.Selection.TheVariants as selections
use Rattle.histories.proofs.Invariants.{IsBefore, numbered}
use Rattle.histories.proofs.Lists.{pairs_map}
use Rattle.histories.proofs.Tests.{Pairs, all_on, filter_all, pairs_filter}

-- ---- each once

abbrev IsLess : ℕ → ℕ → Type 0
IsLess m n = m < n

less_is : (a b : ℕ) → a < b → nat_cmp a b ≡ Less
less_is a b low = sym (nat_cmp_is a b Less low)

sorted_of : (ns : List ℕ) → Pairs IsLess ns → IsStrictlySortedBy nat_cmp ns
unfolding IsStrictlySortedBy
sorted_of [] up = tt
sorted_of (n ∷ ns) up = (all_on (IsLess n) (λ m. nat_cmp n m ≡ Less) ns (less_is n) up.0, sorted_of ns up.1)

selected_once : (h : History) → IsHistory h → (s : Selection) → IsStrictlySortedBy nat_cmp (numbers_of (selected h s))
selected_once h is s =
    sorted_of (numbers_of (selected h s))
    (pairs_map IsBefore IsLess (λ (f : File). f.number) (selected h s) (λ f g low. low)
    (pairs_filter IsBefore (λ (f : File). selects h s f.number) (held h) (numbered h is).rising))

-- ---- one run

none_of : (n : ℕ) (files : List File) → AllByRecursion (λ (f : File). n < f.number) files → filter (λ (f : File). f.number == n) files ≡ []
none_of n [] above = refl
none_of n (f ∷ files) above =
    let other : eqb f.number n ≡ false = ne_eqb f.number n (λ same. let low : n < f.number = above.0 in omega arith) in
    ap (λ b. cond b (f ∷ filter (λ (g : File). g.number == n) files) (filter (λ (g : File). g.number == n) files)) other ∙ none_of n files above.1

one_of : (n : ℕ) (files : List File) → Pairs IsBefore files → list_any (λ (f : File). f.number == n) files ≡ true → (f : File) × (filter (λ (g : File). g.number == n) files ≡ f ∷ []) × (f.number ≡ n)
one_of n [] up there = absurd cc
one_of n (f ∷ files) up there = go (eqb f.number n) refl there (λ later. one_of n files up.1 later)
  where
    go : (b : Bool) → eqb f.number n ≡ b → b || list_any (λ (g : File). g.number == n) files ≡ true
        → (list_any (λ (g : File). g.number == n) files ≡ true → (g : File) × (filter (λ (k : File). k.number == n) files ≡ g ∷ []) × (g.number ≡ n))
        → (g : File) × (cond b (f ∷ filter (λ (k : File). k.number == n) files) (filter (λ (k : File). k.number == n) files) ≡ g ∷ []) × (g.number ≡ n)
    go true same here rest =
        let is : f.number ≡ n = eqb-true f.number n same in
        (f, ap (λ l. f ∷ l) (none_of n files (all_on (IsBefore f) (λ (g : File). n < g.number) files (λ g low. let below : f.number < g.number = low in omega arith) up.0)), is)
    go false same here rest = rest here

-- ---- the members of a group

numbers_filter : (p : ℕ → Bool) (files : List File) → numbers_of (filter (λ (f : File). p f.number) files) ≡ filter p (numbers_of files)
numbers_filter p [] = refl
numbers_filter p (f ∷ files) = go (p f.number) (numbers_filter p files)
  where
    go : (b : Bool) → numbers_of (filter (λ (g : File). p g.number) files) ≡ filter p (numbers_of files)
        → numbers_of (cond b (f ∷ filter (λ (g : File). p g.number) files) (filter (λ (g : File). p g.number) files)) ≡ cond b (f.number ∷ filter p (numbers_of files)) (filter p (numbers_of files))
    go true rest = ap (λ l. f.number ∷ l) rest
    go false rest = rest

pub are_selected : (h : History) → IsHistory h → AreSelected h
are_selected h is = record {
  once = selected_once h is;
  all = filter_all (λ (f : File). true) (held h) (λ f. refl);
  one = λ n there. one_of n (held h) (numbered h is).rising there;
  group = λ name. numbers_filter (is_member h name) (held h);
}

-- ---- in tables

selects_same : (h : History) (t : Tables) → TablesRepresent h t → (s : Selection) (n : ℕ) → selects_in t s n ≡ selects h s n
selects_same h t represent selections.All n = refl
selects_same h t represent (selections.Run m) n = refl
selects_same h t represent (selections.Group name) n = represent.members name n

module _ (t : Tables) (p q : ℕ → Bool) (same : (n : ℕ) → q n ≡ p n) where
  books_where : (files : List File) (lines : List RunRow) → AreBooksOf files (map (run_held t) lines)
      → AreBooksOf (filter (λ (f : File). p f.number) files) (map (run_held t) (filter (λ (r : RunRow). q r.number) lines))
  books_where [] [] all = tt
  books_where [] (r ∷ lines) all = absurd all
  books_where (f ∷ files) [] all = absurd all
  books_where (f ∷ files) (r ∷ lines) all = go (p f.number) (q r.number) (ap q all.0.number ∙ same f.number) (books_where files lines all.1)
    where
      go : (a b : Bool) → b ≡ a → AreBooksOf (filter (λ (g : File). p g.number) files) (map (run_held t) (filter (λ (l : RunRow). q l.number) lines))
          → AreBooksOf (cond a (f ∷ filter (λ (g : File). p g.number) files) (filter (λ (g : File). p g.number) files))
          (map (run_held t) (cond b (r ∷ filter (λ (l : RunRow). q l.number) lines) (filter (λ (l : RunRow). q l.number) lines)))
      go true true is rest = (all.0, rest)
      go false false is rest = rest
      go true false is rest = absurd cc
      go false true is rest = absurd cc

pub tells_selected : (h : History) (t : Tables) (s : Selection) → TablesRepresent h t → SelectionAgrees h t s
tells_selected h t s represent = books_where t (selects h s) (selects_in t s) (selects_same h t represent s) (held h) t.runs represent.runs
