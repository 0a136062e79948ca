-- An index has an entry for each row after rows were put behind the others, one was taken out, or some were replaced.
use Rattle.std.proofs.Common.{◌≡◌, ℕ, ℤ, List, [], ◌∷◌, ◌++◌, map, Bool, true, false, not, is_eq, Ordering, Less, Equal, Greater, IsPermutation, true≢false, refl, sym, ap, ap₂, subst, inl, inr, ◌∙◌, arith}
use Rattle.std.specs.List.{AllByRecursion}
use Rattle.std.specs.Ordering.{match_ordering, ordering_then}
use Rattle.std.proofs.lemmas.Cmp.{tied_itself}
use Rattle.std.proofs.lemmas.List.{map-append}
use Rattle.std.proofs.lemmas.List.Sorted.{IsPermutation-append, IsPermutation-append_comm, IsPermutation-cons, IsPermutation-middle, IsPermutation-refl, IsPermutation-trans}
use Rattle.sqlite_value.specs.declared.keys.Order.{Order}
use Rattle.sqlite_value.specs.Keys.{entry_cmp, first_key, later}
use Rattle.sqlite_value.specs.Order.{Row, class, column, value_cmp}
use Rattle.sqlite_value.specs.declared.value.Value.TheVariants.{Int}
use Rattle.sqlite_value.proofs.KeyLemmas.{entry_cmp_total, tied_no_text}
use Rattle.sqlite_trees.specs.Tree.{has_rowid, insert_entry, remove_entry, rowid, without_rowid}
use Rattle.sqlite_trees.specs.View.{IsShaped}
use Rattle.sqlite_trees.specs.declared.store.Shape.TheVariants as shape
use Rattle.sqlite_trees.proofs.ListLemmas.{IsPermutation-filter, all-permutation, filter-map, filter_same}
use Rattle.sqlite_sql.specs.Catalog.{IsIndexOf, entry_of}
use Rattle.sqlite_rules.specs.Lists.{Has}
use Rattle.sqlite_rules.proofs.ListLemmas.{all_from, all_has}
use Rattle.sqlite_rules.proofs.ProbeLemmas.{has_mapped}
use Rattle.page_places.proofs.OneRow.{one_row}

equal : (o : Ordering) → is_eq o ≡ true → o ≡ Equal
equal Less h = absurd (true≢false (sym h))
equal Equal h = refl
equal Greater h = absurd (true≢false (sym h))

then_equal : (a b : Ordering) → is_eq (ordering_then a b) ≡ true → (is_eq a ≡ true) × (is_eq b ≡ true)
then_equal Less b h = absurd (true≢false (sym h))
then_equal Equal b h = (refl, h)
then_equal Greater b h = absurd (true≢false (sym h))

-- equal entries have one rowid
pub rowid_of_entry : (o : Order) (cs : List ℕ) (a b : Row) → class (rowid b) ≡ 1 → is_eq (entry_cmp o (entry_of cs a) (entry_of cs b)) ≡ true → is_eq (value_cmp (rowid a) (rowid b)) ≡ true
rowid_of_entry o [] a b number h = ap is_eq (tied_no_text (first_key o) (rowid a) (rowid b) (λ e. omega arith) (equal _ (then_equal _ _ h).0))
rowid_of_entry o (c ∷ cs) a b number h = rowid_of_entry (later o) cs a b number (then_equal _ _ h).1

-- an entry that equals none of these goes among them
pub insert_entry_same : (o : Order) (new : Row) (es : List Row) → AllByRecursion (λ e. is_eq (entry_cmp o e new) ≡ false) es → IsPermutation (new ∷ es) (insert_entry o new es)
insert_entry_same k new [] fresh = IsPermutation-refl _
insert_entry_same k new (e ∷ es) fresh = go (entry_cmp k e new) fresh.0 (insert_entry_same k new es fresh.1)
  where
    go : (o : Ordering) → is_eq o ≡ false → IsPermutation (new ∷ es) (insert_entry k new es) → IsPermutation (new ∷ e ∷ es) (match_ordering o (e ∷ insert_entry k new es) (e ∷ es) (new ∷ e ∷ es))
    go Less h more = IsPermutation-trans _ _ _ (IsPermutation-middle (new ∷ []) e es) (IsPermutation-cons e _ _ more)
    go Equal h more = absurd (true≢false h)
    go Greater h more = IsPermutation-refl _

-- a row above the others
pub entry_put : (o : Order) (cs : List ℕ) (id : ℤ) (columns : Row) (rows entries : List Row) → AllByRecursion (λ r. value_cmp (rowid r) (Int id) ≡ Less) rows → IsIndexOf cs rows entries
    → IsIndexOf cs (rows ++ (Int id ∷ columns) ∷ []) (insert_entry o (entry_of cs (Int id ∷ columns)) entries)
entry_put o cs id columns rows entries above h =
    let new : Row = Int id ∷ columns in
    let fresh = λ (e : Row) (there : Has (map (entry_of cs) rows) e).
    let r = has_mapped (entry_of cs) rows e there in
    let other : is_eq (entry_cmp o (entry_of cs r.0) (entry_of cs new)) ≡ false = apart r.0 (all_has (λ q. value_cmp (rowid q) (Int id) ≡ Less) rows r.0 above r.1) _ refl in
    ap (λ x. is_eq (entry_cmp o x (entry_of cs new))) r.2 ∙ other in
    subst (λ l. IsPermutation l (insert_entry o (entry_of cs new) entries)) (sym (map-append (entry_of cs) rows (new ∷ [])))
    (IsPermutation-trans _ _ _ (IsPermutation-append_comm (map (entry_of cs) rows) (entry_of cs new ∷ []))
    (IsPermutation-trans _ _ _ (IsPermutation-cons (entry_of cs new) _ _ h)
    (insert_entry_same o (entry_of cs new) entries (all-permutation (λ e. is_eq (entry_cmp o e (entry_of cs new)) ≡ false) (map (entry_of cs) rows) entries h (all_from _ (map (entry_of cs) rows) fresh)))))
  where
    apart : (r : Row) → value_cmp (rowid r) (Int id) ≡ Less → (b : Bool) → is_eq (entry_cmp o (entry_of cs r) (entry_of cs (Int id ∷ columns))) ≡ b → is_eq (entry_cmp o (entry_of cs r) (entry_of cs (Int id ∷ columns))) ≡ false
    apart r low false e = e
    apart r low true e = absurd (true≢false (sym (rowid_of_entry o cs r (Int id ∷ columns) refl e) ∙ ap is_eq low))

-- the row with a rowid
pub entry_removed : (o : Order) (cs : List ℕ) (id : ℤ) (columns : Row) (rows entries : List Row) → IsShaped shape.Table rows → Has rows (Int id ∷ columns) → IsIndexOf cs rows entries
    → IsIndexOf cs (without_rowid id rows) (remove_entry o (entry_of cs (Int id ∷ columns)) entries)
entry_removed o cs id columns rows entries shaped there h =
    let old : Row = Int id ∷ columns in
    let same = filter_same (λ r. not (is_eq (entry_cmp o (entry_of cs r) (entry_of cs old)))) (λ r. not (has_rowid id r)) rows (all_from _ rows (λ r has_r. ap not (go r (λ is. one_row rows shaped old r there has_r is) _ _ refl refl))) in
    rw (← same, ← filter-map (λ e. not (is_eq (entry_cmp o e (entry_of cs old)))) (entry_of cs) rows) (IsPermutation-filter _ _ _ h)
  where
    go : (r : Row) → (has_rowid id r ≡ true → r ≡ Int id ∷ columns) → (a b : Bool) → is_eq (entry_cmp o (entry_of cs r) (entry_of cs (Int id ∷ columns))) ≡ a → has_rowid id r ≡ b → is_eq (entry_cmp o (entry_of cs r) (entry_of cs (Int id ∷ columns))) ≡ has_rowid id r
    go r k true true p q = p ∙ sym q
    go r k false false p q = p ∙ sym q
    go r k false true p q = absurd (true≢false (sym (ap (λ x. is_eq (entry_cmp o (entry_of cs x) (entry_of cs (Int id ∷ columns)))) (k q) ∙ ap is_eq (tied_itself (entry_cmp_total o) (entry_of cs (Int id ∷ columns)))) ∙ p))
    go r k true false p q = absurd (true≢false (sym (rowid_of_entry o cs r (Int id ∷ columns) refl p) ∙ q))

-- rows with the columns of the rows in whose place they stand
pub entries_still : (cs : List ℕ) (turn : Row → Row) (rows entries : List Row) → ((r : Row) → Has rows r → AllByRecursion (λ place. column (turn r) place ≡ column r place) (0 ∷ cs)) → IsIndexOf cs rows entries → IsIndexOf cs (map turn rows) entries
entries_still cs turn rows entries same h = subst (λ l. IsPermutation l entries) (sym (mapped rows same)) h
  where
    columns_same : (places : List ℕ) (new old : Row) → AllByRecursion (λ place. column new place ≡ column old place) places → map (column new) places ≡ map (column old) places
    columns_same [] new old e = refl
    columns_same (p ∷ places) new old e = ap₂ ◌∷◌ e.0 (columns_same places new old e.1)

    mapped : (all : List Row) → ((r : Row) → Has all r → AllByRecursion (λ place. column (turn r) place ≡ column r place) (0 ∷ cs)) → map (entry_of cs) (map turn all) ≡ map (entry_of cs) all
    mapped [] each = refl
    mapped (r ∷ all) each =
        let here = each r (inl refl) in
        ap₂ {A = Row} ◌∷◌ (ap₂ (λ (l : Row) v. l ++ v ∷ []) (columns_same cs (turn r) r here.1) here.0) (mapped all (λ q there. each q (inr there)))

-- rows behind the others, by their entries behind the others'
pub entries_behind : (cs : List ℕ) (rows news entries es : List Row) → IsIndexOf cs rows entries → IsIndexOf cs news es → IsIndexOf cs (rows ++ news) (entries ++ es)
entries_behind cs rows news entries es h k = subst (λ l. IsPermutation l (entries ++ es)) (sym (map-append (entry_of cs) rows news)) (IsPermutation-append _ _ _ _ h k)
