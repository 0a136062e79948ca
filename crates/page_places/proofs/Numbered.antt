-- The tables whose rows are numbered: a run or names behind the others, and the next run's number.
use Rattle.std.proofs.Common.{◌≡◌, ◌≢◌, ℕ, ℤ, pos, ◌<◌, List, [], ◌∷◌, ◌++◌, map, true, false, not, bytes_eq, refl, sym, ap, subst, inl, inr, ◌∙◌}
use Rattle.std.specs.List.{AllByRecursion, list_any}
use Rattle.std.proofs.lemmas.Bool.{and_from, both_ways}
use Rattle.std.proofs.lemmas.Slice.Eq.{bytes_eq-Decides}
use Rattle.sqlite_tied.specs.Compute.{everything}
use Rattle.sqlite_value.specs.declared.value.Value.TheVariants.{Int}
use Rattle.sqlite_value.specs.Keys.{plain}
use Rattle.sqlite_value.specs.Order.{Row, column}
use Rattle.sqlite_value.proofs.OrderLemmas.{value_cmp-Int}
use Rattle.sqlite_trees.specs.Tree.{Trees}
use Rattle.sqlite_trees.specs.View.{IsShaped}
use Rattle.sqlite_trees.specs.declared.store.Shape.TheVariants as shape
use Rattle.sqlite_sql.specs.Ops.{binary}
use Rattle.sqlite_schema.specs.Rules.{agree, passes_checks}
use Rattle.sqlite_rules.specs.Lists.{Has}
use Rattle.sqlite_rules.specs.Steps.{PassAlone}
use Rattle.sqlite_rules.proofs.ListLemmas.{all_from, some_from}
use Rattle.sql_tables.proofs.Deletes.{row_of}
use Rattle.plain_tables.specs.Changes.{with_next, with_run}
use Rattle.plain_tables.proofs.Lists.{all-append}
use Rattle.plain_tables.specs.Tables.{Tables, RunRow, NameRow}
use Rattle.prof_store.specs.Schema.{schema_two, meta_at, run_at, name_at}
use Rattle.prof_store.specs.Tables.{Holds, contents_of, meta_columns, run_columns, name_columns}
use Rattle.page_places.specs.TableChanges.{OnlyChanges, key_places}
use Rattle.page_places.specs.Keys.{AreNew}
use Rattle.page_places.proofs.Contents.{Lined, contain_changed}
use Rattle.page_places.proofs.Keys.{agrees_at, blob_is, none_clash}
use Rattle.page_places.proofs.Lines.{lines_behind, lines_there, new_lines}
use Rattle.page_places.proofs.Replaced.{sound_replaced}
use Rattle.page_places.proofs.Store.{alone_from, one_of}

runs_alone : (rows : List Row) (xs : List RunRow) → Lined run_at run_columns rows xs → PassAlone run_at rows
runs_alone = alone_from run_at run_columns (λ id r. refl) (λ id r. refl) (λ id r. refl)

names_alone : (rows : List Row) (xs : List NameRow) → Lined name_at name_columns rows xs → PassAlone name_at rows
names_alone = alone_from name_at name_columns (λ id x. refl) (λ id x. refl) (λ id x. refl)

digest_read : (a b : ℤ) (x y : RunRow) → agree plain (3 ∷ []) (row_of run_at run_columns (Int a) x) (3 ∷ []) (row_of run_at run_columns (Int b) y) ≡ true → x.digest ≡ y.digest
digest_read a b x y h = blob_is x.digest y.digest (agrees_at (3 ∷ []) (run_columns x) (run_columns y) h).0

bytes_read : (a b : ℤ) (x y : NameRow) → agree plain (2 ∷ []) (row_of name_at name_columns (Int a) x) (2 ∷ []) (row_of name_at name_columns (Int b) y) ≡ true → x.name ≡ y.name
bytes_read a b x y h = blob_is x.name y.name (agrees_at (2 ∷ []) (name_columns x) (name_columns y) h).0

-- the one row of meta has the rowid 1, as its CHECK asks
meta_checked : (n : ℕ) → passes_checks meta_at (meta_columns n) ≡ true
unfolding everything binary
meta_checked n = rw (value_cmp-Int (pos 1) (pos 1)) refl

meta_alone : (n : ℕ) → PassAlone meta_at (meta_columns n ∷ [])
meta_alone n = record { typed = refl; present = refl; checked = and_from _ _ (meta_checked n) refl }

meta_keys : (old new : Row) → column new 0 ≡ column old 0 → AllByRecursion (λ place. column new place ≡ column old place) (key_places schema_two meta_at)
unfolding everything
meta_keys old new id = (id, tt)

module _ (t : Tables) (db next : Trees) (was : Holds t db) where
  -- a run with a digest that none has
  pub run_behind : OnlyChanges schema_two db next run_at → IsShaped shape.Table (next run_at.tree) → (r : RunRow) → next run_at.tree ≡ db run_at.tree ++ run_columns r ∷ [] → list_any (λ (x : RunRow). bytes_eq x.digest r.digest) t.runs ≡ false → r.number < t.next
      → Holds (with_run r t) next
  run_behind only shaped r behind none low =
      let news : List Row = run_columns r ∷ [] in
      let olds : Lined run_at run_columns (db 1) t.runs = lines_there t db was 1 run_at run_columns t.runs refl refl in
      let fresh : Lined run_at run_columns news (r ∷ []) = new_lines t db was 1 run_at run_columns t.runs refl refl next refl only shaped news (r ∷ []) behind refl in
      let new : AreNew (λ (x : RunRow). x.digest) t.runs (r ∷ []) = record {
        apart = all_from (λ x. AllByRecursion (λ (y : RunRow). x.digest ≢ y.digest) (r ∷ [])) t.runs (λ x there. (λ same. both_ways _ none (some_from (λ (y : RunRow). bytes_eq y.digest r.digest) t.runs x there ((bytes_eq-Decides x.digest r.digest).1 same)), tt));
        among = (tt, tt);
      } in
      record {
        contain = lines_behind t db was 1 run_at run_columns t.runs refl refl next refl only shaped news (r ∷ []) behind refl (record {
          alone = runs_alone news (r ∷ []) fresh;
          unique = and_from _ _ (ap not (none_clash run_at run_columns (λ (x : RunRow). x.digest) (3 ∷ []) digest_read (db 1) news (next 1) t.runs (r ∷ []) behind olds fresh new)) refl;
          parents = refl;
        });
        below = all-append (λ (x : RunRow). x.number < t.next) t.runs (r ∷ []) was.below (low, tt);
      }

  -- names that none has
  pub names_behind : OnlyChanges schema_two db next name_at → IsShaped shape.Table (next name_at.tree) → (lines : List NameRow) → next name_at.tree ≡ db name_at.tree ++ map name_columns lines → AreNew (λ (x : NameRow). x.name) t.names lines
      → Holds (record t { names = t.names ++ lines }) next
  names_behind only shaped lines behind new =
      let news : List Row = map name_columns lines in
      let olds : Lined name_at name_columns (db 11) t.names = lines_there t db was 5 name_at name_columns t.names refl refl in
      let fresh : Lined name_at name_columns news lines = new_lines t db was 5 name_at name_columns t.names refl refl next refl only shaped news lines behind refl in
      record {
        contain = lines_behind t db was 5 name_at name_columns t.names refl refl next refl only shaped news lines behind refl (record {
          alone = names_alone news lines fresh;
          unique = and_from _ _ (ap not (none_clash name_at name_columns (λ (x : NameRow). x.name) (2 ∷ []) bytes_read (db 11) news (next 11) t.names lines behind olds fresh new)) refl;
          parents = refl;
        });
        below = was.below;
      }

  -- ---- the next run's number

  pub next_replaced : OnlyChanges schema_two db next meta_at → IsShaped shape.Table (next meta_at.tree) → (n : ℕ) → next meta_at.tree ≡ meta_columns n ∷ [] → AllByRecursion (λ (r : RunRow). r.number < n) t.runs → Holds (with_next n t) next
  next_replaced only shaped n is below =
      let before : db 0 ≡ meta_columns t.next ∷ [] = was.contain.contents_are.0.rows_are in
      let turned : next 0 ≡ map (λ _. meta_columns n) (db 0) = is ∙ sym (ap (map (λ _. meta_columns n)) before) in
      let same_id = λ (row : Row) (there : Has (db 0) row). first_column (subst (λ l. Has l row) before there) in
      record {
        contain = contain_changed schema_two (contents_of t) db next 0 meta_at (meta_columns n ∷ []) refl refl only
            (sound_replaced schema_two db next meta_at (λ _. meta_columns n) (one_of 0 meta_at refl) only turned
            (record { alone = subst (PassAlone meta_at) (sym is) (meta_alone n); keys = λ row there. meta_keys row (meta_columns n) (same_id row there); parents = refl }) was.contain.sound)
            (record { numbered = shaped; rows_are = is }) was.contain;
        below = below;
      }
    where
      first_column : {row : Row} → Has (meta_columns t.next ∷ []) row → column (meta_columns n) 0 ≡ column row 0
      first_column (inl same) = sym (ap (λ l. column l 0) same)
      first_column (inr none) = absurd none
