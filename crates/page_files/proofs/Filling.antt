-- What a filled leaf comes to for the rows that the pages read as.
use Rattle.std.proofs.Common.{◌≡◌, ℕ, zero, suc, ◌<◌, true, List, [], ◌∷◌, ◌++◌, map, take, All, refl, sym, ap, ap₂, ◌∙◌, arith, ℤ, int_lt, int_cmp, Less}
use Rattle.std.specs.Borrow.{Bor}
use Rattle.std.proofs.lemmas.Int.{ints}
use Rattle.std.proofs.lemmas.List.{map-append, take-map}
use Rattle.std.proofs.lemmas.List.Elements.{All-take}
use Rattle.sqlite_format.specs.declared.kind.Tree.TheVariants as kind
use Rattle.sqlite_pages.specs.PageMap.{PageMap}
use Rattle.sqlite_btree.specs.Cut.{Each}
use Rattle.sqlite_btree.specs.Stored.{IsTable, IsIndex, IsWhole, IsWritten, as_row, as_record, no_order}
use Rattle.sqlite_btree.proofs.CutLemmas.{Each-append}
use Rattle.sqlite_btree.proofs.ViewLemmas.{ascends_rows, ascends_records}
use Rattle.sqlite_value.specs.Order.{Row}
use Rattle.sqlite_value.specs.Keys.{entry_cmp}
use Rattle.sqlite_value.specs.declared.keys.Order.{Order as Keys}
use Rattle.sqlite_value.proofs.OrderLemmas.{value_cmp-Int}
use Rattle.sqlite_record.specs.Record.{decode}
use Rattle.sqlite_record.specs.Strict.{IsRecord}
use Rattle.sqlite_trees.specs.Tree.{put_row, insert_entry}
use Rattle.sqlite_trees.specs.declared.store.Shape.TheVariants.{Table, Index}
use Rattle.sqlite_store.specs.declared.catalog.Wanted.{Wanted}
use Rattle.sqlite_store.specs.Catalog.{reals_at}
use Rattle.sqlite_store.specs.Db.{shown, table_row, record_order, IsDb, Names, Edits}
use Rattle.sqlite_store.proofs.DbLemmas.{table_reads, index_reads, named_laid, edited}
use Rattle.sqlite_store.proofs.OrderLemmas.{less}
use Rattle.sqlite_store.proofs.ShownLemmas.{put_row-shown, insert_entry-shown}
use Rattle.page_files.specs.Places.{place_all, rows_given, entries_given}
use Rattle.page_files.specs.Rows.{entries_of, table_rows, index_rows, IsOfRowid}
use Rattle.page_files.proofs.Placing.{each_of_all, place_all-shown, placed_behind}

abbrev raw_row : ℤ × Bor (List ℕ) → ℤ × List ℕ
raw_row row = (row.0, row.1.now)

map-map : {X Y Z : Type 0} (f : Y → Z) (g : X → Y) (xs : List X) → map f (map g xs) ≡ map (λ x. f (g x)) xs
map-map f g [] = refl
map-map f g (x ∷ xs) = ap (λ l. f (g x) ∷ l) (map-map f g xs)

each_map : {X Y : Type 0} (f : X → Y) (P : Y → Type 0) (xs : List X) → Each (λ x. P (f x)) xs → Each P (map f xs)
each_map f P [] all = tt
each_map f P (x ∷ xs) all = (all.0, each_map f P xs all.1)

keyed_rows : (rows : List (ℤ × Bor (List ℕ))) (n : ℕ) → ((i : ℕ) → i < n → IsOfRowid rows i) → map as_row (entries_of kind.Table (take n (table_rows rows))) ≡ map raw_row (take n rows)
keyed_rows rows zero keyed = refl
keyed_rows [] (suc n) keyed = refl
keyed_rows (x ∷ rows) (suc n) keyed =
    ap₂ (λ (first : ℤ × List ℕ) (rest : List (ℤ × List ℕ)). first ∷ rest) (ap (λ (id : ℤ). (id, x.1.now)) (keyed 0 (omega arith) x (omega arith)))
    (keyed_rows rows n (λ i below d within. keyed (suc i) (omega arith) d (omega arith)))

records_of : (entries : List (Bor (List ℕ))) (n : ℕ) → map as_record (entries_of kind.Index (take n (index_rows entries))) ≡ map (λ entry. entry.now) (take n entries)
records_of entries zero = refl
records_of [] (suc n) = refl
records_of (x ∷ entries) (suc n) = ap (λ l. x.now ∷ l) (records_of entries n)

int_less : (a b : ℤ) → int_lt a b ≡ true → int_cmp a b ≡ Less
int_less a b h = grind (arith, ints)

past_row : (x y : ℤ × List ℕ) (rows : List Row) → int_lt x.0 y.0 ≡ true → put_row (table_row y) (table_row x ∷ rows) ≡ table_row x ∷ put_row (table_row y) rows
past_row x y rows h = rw (value_cmp-Int x.0 y.0, int_less x.0 y.0 h) refl

past_entry : (k : Keys) (x y : List ℕ) (rows : List Row) → record_order k x y ≡ true → insert_entry k (decode y) (decode x ∷ rows) ≡ decode x ∷ insert_entry k (decode y) rows
past_entry k x y rows h = rw (less (entry_cmp k (decode x) (decode y)) h) refl

module _ {size t root : ℕ} {schema : List Wanted} {before after : PageMap} (db : IsDb size schema before) (n : ℕ) where
  pub table_filled : (names : Names size schema before t Table root) (rows : List (ℤ × Bor (List ℕ))) → All (λ row. IsRecord row.1.now) rows → ((i : ℕ) → i < n → IsOfRowid rows i)
      → All (λ row. shown Table (reals_at schema t) row ≡ row) (rows_given rows)
      → IsWritten (db.layouts (suc t)) before after (λ new. IsWhole kind.Table no_order size new root ((named_laid db names).1.1.entries ++ entries_of kind.Table (take n (table_rows rows))))
      → Edits size schema before after t (place_all put_row (take n (rows_given rows)))
  table_filled names rows strict keyed same w =
      let laid = named_laid db names in
      let raw = laid.1.0 in
      let table = laid.1.1 in
      let news = map raw_row (take n rows) in
      let given = take n (rows_given rows) in
      let now : IsTable size w.new root (raw ++ news) = record {
        entries = _;
        stored = w.fact.0;
        tight = w.fact.1;
        shows = map-append as_row table.entries (entries_of kind.Table (take n (table_rows rows))) ∙ ap₂ (λ a b. a ++ b) table.shows (keyed_rows rows n keyed);
      } in
      let records = each_map raw_row (λ (row : ℤ × List ℕ). IsRecord row.1) (take n rows) (each_of_all (λ (row : ℤ × Bor (List ℕ)). IsRecord row.1.now) (take n rows) (All-take (λ (row : ℤ × Bor (List ℕ)). IsRecord row.1.now) n rows strict)) in
      let says : given ≡ map table_row news = (take-map (λ (row : ℤ × Bor (List ℕ)). table_row (raw_row row)) n rows) ∙ sym (map-map table_row raw_row (take n rows)) in
      let placed = placed_behind put_row table_row (λ a b. int_lt a.0 b.0) (λ x. refl) past_row raw news (ascends_rows now) in
      let show = shown Table (reals_at schema t) in
      edited db names w.new w.moves (_, now, Each-append (λ row. IsRecord row.1) raw news laid.1.2 records) (place_all put_row given)
      (table_reads after w.moves.laid now ∙ sym placed ∙ ap₂ (λ a b. place_all put_row a b) (sym says) (sym (table_reads before laid.0 table)))
      (place_all-shown put_row show (λ new e rs. put_row-shown (reals_at schema t) new e rs) given (each_of_all (λ row. show row ≡ row) given (All-take (λ row. show row ≡ row) n (rows_given rows) same)))

  pub index_filled : (k : Keys) (names : Names size schema before t (Index k) root) (entries : List (Bor (List ℕ))) → All (λ entry. IsRecord entry.now) entries
      → All (λ row. shown (Index k) (reals_at schema t) row ≡ row) (entries_given entries)
      → IsWritten (db.layouts (suc t)) before after (λ new. IsWhole kind.Index (record_order k) size new root ((named_laid db names).1.1.entries ++ entries_of kind.Index (take n (index_rows entries))))
      → Edits size schema before after t (place_all (insert_entry k) (take n (entries_given entries)))
  index_filled k names entries strict same w =
      let laid = named_laid db names in
      let raw = laid.1.0 in
      let index = laid.1.1 in
      let news = map (λ (entry : Bor (List ℕ)). entry.now) (take n entries) in
      let given = take n (entries_given entries) in
      let now : IsIndex (record_order k) size w.new root (raw ++ news) = record {
        entries = _;
        stored = w.fact.0;
        tight = w.fact.1;
        shows = map-append as_record index.entries (entries_of kind.Index (take n (index_rows entries))) ∙ ap₂ (λ a b. a ++ b) index.shows (records_of entries n);
      } in
      let records = each_map (λ (entry : Bor (List ℕ)). entry.now) IsRecord (take n entries) (each_of_all (λ (entry : Bor (List ℕ)). IsRecord entry.now) (take n entries) (All-take (λ (entry : Bor (List ℕ)). IsRecord entry.now) n entries strict)) in
      let says : given ≡ map decode news = (take-map (λ (entry : Bor (List ℕ)). decode entry.now) n entries) ∙ sym (map-map decode (λ (entry : Bor (List ℕ)). entry.now) (take n entries)) in
      let placed = placed_behind (insert_entry k) decode (record_order k) (λ x. refl) (past_entry k) raw news (ascends_records now) in
      let show = shown (Index k) (reals_at schema t) in
      edited db names w.new w.moves (_, now, Each-append IsRecord raw news laid.1.2 records) (place_all (insert_entry k) given)
      (index_reads after w.moves.laid now ∙ sym placed ∙ ap₂ (λ a b. place_all (insert_entry k) a b) (sym says) (sym (index_reads before laid.0 index)))
      (place_all-shown (insert_entry k) show (λ new e rs. insert_entry-shown (reals_at schema t) k new e rs) given (each_of_all (λ row. show row ≡ row) given (All-take (λ row. show row ≡ row) n (entries_given entries) same)))
