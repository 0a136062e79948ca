-- A tree loses rows that a test picks, one part after another.
use Rattle.std.proofs.Common.{◌≡◌, ℕ, suc, eq-eqb, Result, MatchResult, Ok, Err, Bool, true, false, List, [], ◌∷◌, map, refl, sym, ap, subst, ◌∙◌, inl, inr, is_lt, is_eq, is_gt, Ordering, Less, Equal, Greater}
use Rattle.std.specs.Ordering.{ordering_reverse}
use Rattle.std.proofs.lemmas.Bool.{cases_Bool}
use Rattle.std.proofs.lemmas.Cmp.{tied_itself}
use Rattle.sqlite_pages.specs.PageMap.{PageMap}
use Rattle.sqlite_btree.specs.Cut.{Ascends, Each, IsIn, drop_at_cut, is_hit}
use Rattle.sqlite_btree.specs.Stored.{IsIndex, IsWritten}
use Rattle.sqlite_btree.proofs.CutLemmas.{Each-in}
use Rattle.sqlite_btree.proofs.ViewLemmas.{ascends_records}
use Rattle.sqlite_record.specs.Affinity.{widen}
use Rattle.sqlite_record.specs.Record.{decode}
use Rattle.sqlite_record.specs.Strict.{IsRecord}
use Rattle.sqlite_record.proofs.AffinityLemmas.{prefix_cmp-widen}
use Rattle.sqlite_store.specs.Catalog.{reals_at}
use Rattle.sqlite_store.specs.declared.catalog.Wanted.{Wanted}
use Rattle.sqlite_store.specs.Db.{record_order, trees_in, Edits, IsDb, Names}
use Rattle.sqlite_store.proofs.DbLemmas.{Each-drop_at_cut, edited, index_reads, named_laid, named_rows}
use Rattle.sqlite_store.proofs.OrderLemmas.{less}
use Rattle.sqlite_store.proofs.RowLemmas.{remove_entry-map}
use Rattle.sqlite_store.proofs.ShownLemmas.{remove_entry-shown}
use Rattle.sqlite_trees.specs.declared.store.Shape.TheVariants.{Index}
use Rattle.sqlite_trees.specs.Tree.{remove_entry, with_tree}
use Rattle.sqlite_trees.proofs.TreeLemmas.{prefix_cmp_follows}
use Rattle.sqlite_value.specs.declared.keys.Order.{Order}
use Rattle.sqlite_value.specs.Keys.{entry_cmp, prefix_cmp}
use Rattle.sqlite_value.specs.Order.{Row}
use Rattle.sqlite_value.proofs.KeyLemmas.{entry_cmp_total}
use Rattle.page_files.specs.Removals.{has_prefix, without, Loses, LosesUntil}
use Rattle.page_files.proofs.Placing.{edits_none, edits_twice}

-- a record that an index has is found in it
pub there_hit : (k : Order) (found : List ℕ) (records : List (List ℕ)) → Ascends (record_order k) records → IsIn found records → is_hit (λ x. entry_cmp k (decode x) (decode found)) records ≡ true
there_hit k found [] up at = absurd at
there_hit k found (x ∷ xs) up (inl e) = let same : entry_cmp k (decode x) (decode found) ≡ Equal = ap (λ y. entry_cmp k (decode x) (decode y)) e ∙ tied_itself (entry_cmp_total k) (decode x) in rw same refl
there_hit k found (x ∷ xs) up (inr at) = let below : entry_cmp k (decode x) (decode found) ≡ Less = less _ (Each-in (λ z. record_order k x z ≡ true) xs found up.0 at) in rw below (there_hit k found xs up.1 at)

neither : (o : Ordering) → (is_lt o ≡ true → ⊥) → (is_gt o ≡ true → ⊥) → is_eq o ≡ true
neither Less low high = absurd (low refl)
neither Equal low high = refl
neither Greater low high = absurd (high refl)

equal : (o : Ordering) → is_eq o ≡ true → o ≡ Equal
equal Less h = absurd cc
equal Equal h = refl
equal Greater h = absurd cc

module _ (k : Order) (prefix : Row) where
  -- an entry that is equal to one that begins so does too
  begins : (row e : Row) → has_prefix k prefix e ≡ true → entry_cmp k row e ≡ Equal → has_prefix k prefix row ≡ true
  begins row e is same =
      let there = equal _ is in
      let back : entry_cmp k e row ≡ Equal = (entry_cmp_total k).antisymm e row ∙ ap ordering_reverse same in
      neither (prefix_cmp k row prefix) (λ low. let h = (prefix_cmp_follows k prefix e row (ap is_gt back)).0 low in cc) (λ high. let h = (prefix_cmp_follows k prefix row e (ap is_gt same)).1 high in cc)

  pub removed_keeps : (e : Row) → has_prefix k prefix e ≡ true → (rows : List Row) → without (has_prefix k prefix) (remove_entry k e rows) ≡ without (has_prefix k prefix) rows
  removed_keeps e is [] = refl
  removed_keeps e is (row ∷ rows) = elim (cases_Bool (is_eq (entry_cmp k row e))) [
    | inl same ↦ rw (same, begins row e is (equal _ same)) (removed_keeps e is rows)
    | inr other ↦ rw other (elim (cases_Bool (has_prefix k prefix row)) [ inl out ↦ rw out (removed_keeps e is rows) | inr kept ↦ rw kept (ap (λ l. row ∷ l) (removed_keeps e is rows)) ])
  ]

  none_out : (reals : ℕ) (records : List (List ℕ)) → Each (λ r. has_prefix k prefix (decode r) ≡ false) records
      → without (has_prefix k prefix) (map (widen reals) (map decode records)) ≡ map (widen reals) (map decode records)
  none_out reals [] all = refl
  none_out reals (r ∷ records) all = rw (ap is_eq (prefix_cmp-widen k reals (decode r) prefix) ∙ all.0) (ap (λ l. widen reals (decode r) ∷ l) (none_out reals records all.1))

  -- where no record begins so, no entry does
  pub none_left : {size t root : ℕ} {schema : List Wanted} {pages : PageMap} (db : IsDb size schema pages) (names : Names size schema pages t (Index k) root)
      → Each (λ r. has_prefix k prefix (decode r) ≡ false) (named_laid db names).1.0 → LosesUntil (has_prefix k prefix) size schema pages pages t false
  none_left {size} {t} {root} {schema} {pages} db names none =
      let laid = named_laid db names in
      let shows : trees_in size schema pages t ≡ map (widen (reals_at schema t)) (map decode laid.1.0) = named_rows names ∙ ap (map (widen (reals_at schema t))) (index_reads pages laid.0 laid.1.1) in
      record {
        loses = record { edit = λ rows. rows; edits = edits_none db; keeps = refl };
        none = λ _. subst (λ rows. without (has_prefix k prefix) rows ≡ rows) (sym shows) (none_out (reals_at schema t) laid.1.0 none);
      }

  -- a record that begins so is taken out
  pub first_out : {size t root : ℕ} {schema : List Wanted} {before after : PageMap} (db : IsDb size schema before) (names : Names size schema before t (Index k) root) (found : List ℕ)
      → has_prefix k prefix (decode found) ≡ true
      → IsWritten (db.layouts (suc t)) before after (λ new. IsIndex (record_order k) size new root (drop_at_cut (λ x. entry_cmp k (decode x) (decode found)) (named_laid db names).1.0))
      → LosesUntil (has_prefix k prefix) size schema before after t true
  first_out {size} {t} {root} {schema} {before} {after} db names found is w =
      let laid = named_laid db names in
      let raw = laid.1.0 in
      record {
        loses = record {
          edit = remove_entry k (decode found);
          edits = edited db names w.new w.moves (_, w.fact, Each-drop_at_cut IsRecord _ raw laid.1.2) (remove_entry k (decode found))
              (index_reads after w.moves.laid w.fact ∙ remove_entry-map k (decode found) raw (ascends_records laid.1.1) ∙ ap (remove_entry k (decode found)) (sym (index_reads before laid.0 laid.1.1)))
              (remove_entry-shown _ k (decode found));
          keeps = removed_keeps (decode found) is (trees_in size schema before t);
        };
        none = λ no. absurd cc;
      }

module _ {size t : ℕ} {schema : List Wanted} where
  -- the rows of an edited tree
  edited_rows : {before after : PageMap} {edit : List Row → List Row} → Edits size schema before after t edit → trees_in size schema after t ≡ edit (trees_in size schema before t)
  edited_rows e = ap (λ trees. trees t) e.trees ∙ rw (eq-eqb t t refl) refl

  pub loses_none : {picks : Row → Bool} {pages : PageMap} → IsDb size schema pages → Loses picks size schema pages pages t
  loses_none db = record { edit = λ rows. rows; edits = edits_none db; keeps = refl }

  pub loses_more : {picks : Row → Bool} {before mid after : PageMap} {more : Bool} → Loses picks size schema before mid t → LosesUntil picks size schema mid after t more
      → LosesUntil picks size schema before after t more
  loses_more {picks} a b =
      record {
        loses = record {
          edit = λ rows. b.loses.edit (a.edit rows);
          edits = edits_twice a.edits b.loses.edits;
          keeps = ap (λ rows. without picks (b.loses.edit rows)) (sym (edited_rows a.edits)) ∙ b.loses.keeps ∙ ap (without picks) (edited_rows a.edits) ∙ a.keeps;
        };
        none = b.none;
      }

  -- none is left
  pub loses_all : {picks : Row → Bool} {before after : PageMap} → LosesUntil picks size schema before after t false → Edits size schema before after t (without picks)
  loses_all {picks} {before} {after} l =
      let e = l.loses.edits in
      let rows : l.loses.edit (trees_in size schema before t) ≡ without picks (trees_in size schema before t) =
      sym (edited_rows e) ∙ sym (l.none refl) ∙ ap (without picks) (edited_rows e) ∙ l.loses.keeps in
      record { db = e.db; roots = e.roots; listed = e.listed; trees = e.trees ∙ ap (with_tree (trees_in size schema before) t) rows }

-- where a call succeeds, a fact from another
pub where_ok : {X E : Type 0} (r : Result X E) (P R : X → Type 0) (Q : E → Type 0) → ((x : X) → P x → R x) → MatchResult r P Q → MatchResult r R Q
where_ok (Ok x) P R Q so h = so x h
where_ok (Err e) P R Q so h = h
