-- What a trimmed leaf makes of the rows that the pages read as.
use Rattle.std.proofs.Common.{◌≡◌, ℕ, suc, ◌+◌, ◌≤◌, ℤ, pos, Bool, true, false, not, List, [], ◌∷◌, ◌++◌, length, map, take, drop, filter, get_or, refl, sym, ap, ap₂, subst, ◌∙◌, inl, arith, int_lt, int_cmp, is_lt, is_eq}
use Rattle.std.proofs.lemmas.Int.{ints}
use Rattle.std.proofs.lemmas.List.{drop-map, map-append, take-map}
use Rattle.std.proofs.lemmas.List.Elements.{filter-append}
use Rattle.std.proofs.Math.Seq.{drop-cons}
use Rattle.sqlite_format.specs.declared.kind.Tree.TheVariants as kind
use Rattle.sqlite_pages.specs.PageMap.{PageMap}
use Rattle.sqlite_btree.specs.Chain.{Entry}
use Rattle.sqlite_btree.specs.Cut.{Ascends, Each, drop_at_cut}
use Rattle.sqlite_btree.specs.Stored.{IsIndex, IsTable, as_record, as_row, by_rowid, no_order, rowid_of}
use Rattle.sqlite_btree.proofs.CutLemmas.{Ascends-across, Ascends-without, Each-append, Each-from, Each-left, Each-right, skips}
use Rattle.sqlite_btree.proofs.ViewLemmas.{ascends_rows}
use Rattle.sqlite_record.specs.Affinity.{widen}
use Rattle.sqlite_record.specs.Record.{decode}
use Rattle.sqlite_record.specs.Strict.{IsRecord}
use Rattle.sqlite_record.proofs.AffinityLemmas.{prefix_cmp-widen}
use Rattle.sqlite_store.specs.Catalog.{reals_at}
use Rattle.sqlite_store.specs.Db.{IsDb, Names, Edits, record_order, shown, table_row, trees_in}
use Rattle.sqlite_store.specs.declared.catalog.Wanted.{Wanted}
use Rattle.sqlite_store.proofs.DbLemmas.{edited, index_reads, named_laid, named_rows, table_reads}
use Rattle.sqlite_store.proofs.RowLemmas.{without_rowid-map}
use Rattle.sqlite_store.proofs.ShownLemmas.{without_rowid-shown}
use Rattle.sqlite_trees.specs.declared.store.Shape.TheVariants.{Index, Table}
use Rattle.sqlite_trees.specs.Tree.{without_rowid}
use Rattle.sqlite_value.specs.declared.keys.Order.{Order as Keys}
use Rattle.sqlite_value.specs.Order.{Row}
use Rattle.page_files.specs.Removals.{Loses, has_prefix, without, without_rowids}
use Rattle.page_files.specs.Trims.{EachAs, HasTrimmed}

abbrev Raw : Type 0
Raw = ℤ × List ℕ

abbrev below : Raw → Raw → Bool
below a b = int_lt a.0 b.0

less_of : (a b : ℤ) → int_lt a b ≡ true → is_lt (int_cmp a b) ≡ true
less_of a b h = grind (arith, ints)

same_of : (a : ℤ) → (is_lt (int_cmp a a) ≡ false) × (is_eq (int_cmp a a) ≡ true)
same_of a = (grind (arith, ints), grind (arith, ints))

-- a row between others goes
one_out : (xs : List Raw) (y : Raw) (zs : List Raw) → Ascends below (xs ++ y ∷ zs) → without_rowid y.0 (map table_row (xs ++ y ∷ zs)) ≡ map table_row (xs ++ zs)
one_out xs y zs up =
    let front : Each (λ x. is_lt (by_rowid y.0 x) ≡ true) xs = Each-from (λ x. is_lt (by_rowid y.0 x) ≡ true) xs (λ x at. less_of x.0 y.0 (Ascends-across below xs (y ∷ zs) x y up at (inl refl))) in
    let same = same_of y.0 in
    let here : drop_at_cut (by_rowid y.0) (y ∷ zs) ≡ zs = rw (same.0, same.1) refl in
    sym (without_rowid-map y.0 (xs ++ y ∷ zs) up) ∙ ap (map table_row) ((skips (by_rowid y.0) xs (y ∷ zs) front).dropped ∙ ap (λ l. xs ++ l) here)

-- and so do some that stand one after another
some_out : (xs ys zs : List Raw) → Ascends below (xs ++ (ys ++ zs)) → without_rowids (map (λ y. y.0) ys) (map table_row (xs ++ (ys ++ zs))) ≡ map table_row (xs ++ zs)
some_out xs [] zs up = refl
some_out xs (y ∷ ys) zs up = ap (without_rowids (map (λ r. r.0) ys)) (one_out xs y (ys ++ zs) up) ∙ some_out xs ys zs (Ascends-without below xs y (ys ++ zs) up)

-- rowids that are given one after another
ids_given : (ids : List ℤ) (i : ℕ) (entries : List Entry) → i + length entries ≤ length ids → EachAs (λ k (e : Entry). rowid_of e.key ≡ get_or ids k (pos 0)) i entries
    → map (λ (r : Raw). r.0) (map as_row entries) ≡ take (length entries) (drop i ids)
ids_given ids i [] within all = refl
ids_given ids i (e ∷ entries) within all =
    ap₂ ◌∷◌ all.0 (ids_given ids (suc i) entries (omega arith) all.1) ∙ ap (take (suc (length entries))) (sym (drop-cons ids i (pos 0) (omega arith)))

shown_without : (reals : ℕ) (ids : List ℤ) (rows : List Row) → map (shown Table reals) (without_rowids ids rows) ≡ without_rowids ids (map (shown Table reals) rows)
shown_without reals [] rows = refl
shown_without reals (id ∷ ids) rows = shown_without reals ids (without_rowid id rows) ∙ ap (without_rowids ids) (without_rowid-shown reals id rows)

module _ {size t root : ℕ} {schema : List Wanted} {before after : PageMap} (db : IsDb size schema before) where
  -- a table
  pub table_trimmed : (names : Names size schema before t Table root) (ids : List ℤ) (n : ℕ) → n ≤ length ids
      → HasTrimmed kind.Table no_order size (db.layouts (suc t)) before after root (named_laid db names).1.1.entries (λ k e. rowid_of e.key ≡ get_or ids k (pos 0)) n
      → Edits size schema before after t (without_rowids (take n ids))
  table_trimmed names ids n within h =
      let laid = named_laid db names in
      let raw = laid.1.0 in
      let table = laid.1.1 in
      let F = map as_row h.first in
      let G = map as_row h.gone in
      let B = map as_row h.rest in
      let parts : raw ≡ F ++ (G ++ B) = sym table.shows ∙ ap (map as_row) h.parts ∙ map-append as_row h.first (h.gone ++ h.rest) ∙ ap (λ l. F ++ l) (map-append as_row h.gone h.rest) in
      let now : IsTable size h.written.new root (F ++ B) = record { entries = h.first ++ h.rest; stored = h.written.fact.0; tight = h.written.fact.1; shows = map-append as_row h.first h.rest } in
      let given : map (λ (r : Raw). r.0) G ≡ take n ids = ids_given ids 0 h.gone (omega (arith, within, h.count)) h.facts ∙ ap (λ k. take k ids) h.count in
      let strict = subst (Each (λ row. IsRecord row.1)) parts laid.1.2 in
      let left : map table_row (F ++ B) ≡ without_rowids (take n ids) (map table_row raw) =
      sym (some_out F G B (subst (Ascends below) parts (ascends_rows table))) ∙ ap₂ (λ l rows. without_rowids l (map table_row rows)) given (sym parts) in
      edited db names h.written.new h.written.moves (_, now, Each-append (λ row. IsRecord row.1) F B (Each-left (λ row. IsRecord row.1) F (G ++ B) strict) (Each-right (λ row. IsRecord row.1) G B (Each-right (λ row. IsRecord row.1) F (G ++ B) strict)))
      (without_rowids (take n ids)) (table_reads after h.written.moves.laid now ∙ left ∙ ap (without_rowids (take n ids)) (sym (table_reads before laid.0 table)))
      (shown_without (reals_at schema t) (take n ids))

-- rows that a test picks, between others
all_picked : (picks : Row → Bool) (rows : List Row) → Each (λ row. picks row ≡ true) rows → without picks rows ≡ []
all_picked picks [] all = refl
all_picked picks (row ∷ rows) all = rw all.0 (all_picked picks rows all.1)

abbrev without_range : ℕ → ℕ → List Row → List Row
without_range from to rows = take from rows ++ drop to rows

range_left : (f g b : List Row) → without_range (length f) (length f + length g) (f ++ (g ++ b)) ≡ f ++ b
range_left [] g b = dropped g
  where
    dropped : (xs : List Row) → drop (0 + length xs) (xs ++ b) ≡ b
    dropped [] = refl
    dropped (x ∷ xs) = let same : 0 + length (x ∷ xs) ≡ suc (0 + length xs) = omega arith in ap (λ k. drop k (x ∷ xs ++ b)) same ∙ dropped xs
range_left (x ∷ f) g b = let same : length (x ∷ f) + length g ≡ suc (length f + length g) = omega arith in ap (λ k. x ∷ take (length f) (f ++ (g ++ b)) ++ drop k (x ∷ f ++ (g ++ b))) same ∙ ap (λ l. x ∷ l) (range_left f g b)

range_shown : (show : Row → Row) (from to : ℕ) (rows : List Row) → map show (without_range from to rows) ≡ without_range from to (map show rows)
range_shown show from to rows = map-append show (take from rows) (drop to rows) ∙ ap₂ (λ a b. a ++ b) (sym (take-map show from rows)) (sym (drop-map show to rows))

module _ (k : Keys) (prefix : Row) where
  facts_each : (entries : List Entry) (i : ℕ) (reals : ℕ) → EachAs (λ (_ : ℕ) (e : Entry). has_prefix k prefix (decode e.payload) ≡ true) i entries
      → Each (λ row. has_prefix k prefix row ≡ true) (map (widen reals) (map decode (map as_record entries)))
  facts_each [] i reals all = tt
  facts_each (e ∷ entries) i reals all = (ap is_eq (prefix_cmp-widen k reals (decode e.payload) prefix) ∙ all.0, facts_each entries (suc i) reals all.1)

  -- an index
  pub index_trimmed : {size t root : ℕ} {schema : List Wanted} {before after : PageMap} (db : IsDb size schema before) (names : Names size schema before t (Index k) root) (n : ℕ)
      → HasTrimmed kind.Index (record_order k) size (db.layouts (suc t)) before after root (named_laid db names).1.1.entries (λ _ e. has_prefix k prefix (decode e.payload) ≡ true) n
      → Loses (has_prefix k prefix) size schema before after t
  index_trimmed {size} {t} {root} {schema} {before} {after} db names n h =
      let picks = has_prefix k prefix in
      let laid = named_laid db names in
      let raw = laid.1.0 in
      let index = laid.1.1 in
      let F = map as_record h.first in
      let G = map as_record h.gone in
      let B = map as_record h.rest in
      let parts : raw ≡ F ++ (G ++ B) = sym index.shows ∙ ap (map as_record) h.parts ∙ map-append as_record h.first (h.gone ++ h.rest) ∙ ap (λ l. F ++ l) (map-append as_record h.gone h.rest) in
      let now : IsIndex (record_order k) size h.written.new root (F ++ B) = record { entries = h.first ++ h.rest; stored = h.written.fact.0; tight = h.written.fact.1; shows = map-append as_record h.first h.rest } in
      let strict = subst (Each IsRecord) parts laid.1.2 in
      let seen = map decode in
      let rows : map decode raw ≡ seen F ++ (seen G ++ seen B) = ap seen parts ∙ map-append decode F (G ++ B) ∙ ap (λ l. seen F ++ l) (map-append decode G B) in
      let edit = without_range (length (seen F)) (length (seen F) + length (seen G)) in
      let left : map decode (F ++ B) ≡ edit (map decode raw) = map-append decode F B ∙ sym (range_left (seen F) (seen G) (seen B)) ∙ ap edit (sym rows) in
      let show = widen (reals_at schema t) in
      let shows : trees_in size schema before t ≡ map show (map decode raw) = named_rows names ∙ ap (map show) (index_reads before laid.0 index) in
      let whole : map show (map decode raw) ≡ map show (seen F) ++ (map show (seen G) ++ map show (seen B)) =
      ap (map show) rows ∙ map-append show (seen F) (seen G ++ seen B) ∙ ap (λ l. map show (seen F) ++ l) (map-append show (seen G) (seen B)) in
      let less : edit (map show (map decode raw)) ≡ map show (seen F) ++ map show (seen B) =
      sym (range_shown show (length (seen F)) (length (seen F) + length (seen G)) (map decode raw)) ∙ ap (map show) (ap edit rows ∙ range_left (seen F) (seen G) (seen B)) ∙ map-append show (seen F) (seen B) in
      record {
        edit = edit;
        edits = edited db names h.written.new h.written.moves (_, now, Each-append IsRecord F B (Each-left IsRecord F (G ++ B) strict) (Each-right IsRecord G B (Each-right IsRecord F (G ++ B) strict))) edit
            (index_reads after h.written.moves.laid now ∙ left ∙ ap edit (sym (index_reads before laid.0 index))) (range_shown show (length (seen F)) (length (seen F) + length (seen G)));
        keeps = ap (λ rs. without picks (edit rs)) shows ∙ ap (without picks) less ∙ filter-append (λ r. not (picks r)) (map show (seen F)) (map show (seen B))
            ∙ sym (ap (without picks) (shows ∙ whole) ∙ filter-append (λ r. not (picks r)) (map show (seen F)) (map show (seen G) ++ map show (seen B))
            ∙ ap (λ l. without picks (map show (seen F)) ++ l) (filter-append (λ r. not (picks r)) (map show (seen G)) (map show (seen B))
            ∙ ap (λ l. l ++ without picks (map show (seen B))) (all_picked picks (map show (seen G)) (facts_each h.gone 0 (reals_at schema t) h.facts))));
      }
