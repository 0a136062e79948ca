-- INSERT .. VALUES: rows at the end of a table.
use Rattle.std.proofs.Common.{◌≡◌, ℕ, ◌/◌, ℤ, List, [], ◌∷◌, ◌++◌, map, drop, length, slice_get, is_some, true, if◌then◌else◌, Some, None, Option, Ok, refl, sym, ap, subst, ◌∙◌, append-nil}
use Rattle.std.specs.List.{AllByRecursion}
use Rattle.std.proofs.lemmas.List.{append_assoc}
use Rattle.std.specs.declared.cmp.Ordering.TheVariants.{Less}
use Rattle.sqlite_value.specs.declared.value.Value.TheVariants.{Null, Int}
use Rattle.sqlite_value.specs.Order.{Row, value_cmp}
use Rattle.sqlite_trees.specs.Tree.{Trees, rowid, put_row}
use Rattle.sqlite_trees.specs.View.{IsShaped}
use Rattle.sqlite_trees.specs.declared.store.Shape.TheVariants as shape
use Rattle.sqlite_trees.proofs.TreeLemmas.{IsShaped-put_row}
use Rattle.sqlite_sql.specs.Term.{Term}
use Rattle.sqlite_schema.specs.declared.schema.Table.{Table}
use Rattle.sqlite_schema.specs.declared.schema.Schema.{Schema}
use Rattle.sqlite_schema.specs.declared.command.Source.TheVariants.{Values}
use Rattle.sqlite_schema.specs.declared.command.Command.TheVariants.{Insert}
use Rattle.sqlite_rules.specs.declared.error.Rowids.TheVariants.{Chosen}
use Rattle.sqlite_rules.specs.Cast.{cast_row}
use Rattle.sqlite_rules.specs.Edit.{edit_of, edited, next_rowid, numbered, put_all}
use Rattle.sqlite_catalog.specs.Listing.{IsSound}
use Rattle.sqlite.specs.Effect.{Database, IsDatabase, value_rows}
use Rattle.sqlite.specs.Rows.{stamped}
use Rattle.sqlite.specs.Does.{Tally, Does}
use Rattle.sql_tables.specs.Contents.{IsContent, Contain, content_at, with_content, stands_alone, rows_that_count}
use Rattle.sql_tables.proofs.Contents.{content_changed, content_there}
use Rattle.sql_tables.proofs.Effects.{inserts, plainly}
use Rattle.sql_tables.proofs.Rows.{put_last, below_next, map-append}
use Rattle.sql_tables.proofs.Statements.{plain_mode}

-- rows with no rowid, as a table's columns have them
abbrev pub unnumbered : List Row → List Row
unnumbered columns = map (λ c. Null ∷ c) columns

-- they are given rowids above each that is there, and so go to the end
pub record Appended (rows columns all : List Row) : Type 0 where
  pub numbered : IsShaped shape.Table all
  pub columns_are : map (drop 1) all ≡ map (drop 1) rows ++ columns

pub appended : (columns rows : List Row) → IsShaped shape.Table rows → Appended rows columns (put_all rows (numbered Chosen rows (unnumbered columns)))
appended [] rows h = record { numbered = h; columns_are = sym (append-nil (map (drop 1) rows)) }
appended (c ∷ columns) rows h =
    let new = Int (next_rowid rows) ∷ c in
    let last : put_row new rows ≡ rows ++ new ∷ [] = put_last new rows (below_next rows h.0 h.1) in
    let rest = appended columns (put_row new rows) (IsShaped-put_row new rows refl h) in
    record {
      numbered = rest.numbered;
      columns_are = rest.columns_are ∙ ap (λ l. l ++ columns) (ap (map (drop 1)) last ∙ map-append (drop 1) rows (new ∷ [])) ∙ append_assoc (map (drop 1) rows) (c ∷ []) columns;
    }

module _ (schema : Schema) (contents : List (List Row)) (limit : Option ℕ) (params : Row) (trees : Trees) (text : List ℕ) (tally : Tally) (after : Database) (at : ℕ) (table : Table)
    (there : slice_get schema.tables at ≡ Some (plainly table)) (alone : stands_alone table.tree at schema.tables ≡ true) (terms : List Term) (width : ℕ) (was : Contain schema contents trees) (sound : IsDatabase after)
    (h : Does limit plain_mode params (record { schema = schema; trees = trees }) text None (Insert at (Values terms width)) (Ok (tally, after))) where
  -- the rows that the statement writes, cast to the table's columns
  abbrev pub written : List Row
  written = map (λ s. cast_row (plainly table) s) (value_rows (stamped (plainly table) params) width (length terms / width) terms)

  module _ (new : List Row) (next : IsContent (plainly table) new (edited trees (edit_of trees (plainly table) [] Chosen 0 (value_rows (stamped (plainly table) params) width (length terms / width) terms)))) where
    inserted : (after.schema ≡ schema) × Contain schema (with_content at new contents) after.trees
    inserted =
        let it = inserts limit plain_mode params (record { schema = schema; trees = trees }) text tally after at table there terms width h in
        let is : IsContent (plainly table) new (after.trees table.tree) = subst (IsContent (plainly table) new) (sym (it.3.rows ∙ ap (λ all. edited trees (edit_of trees (plainly table) [] Chosen 0 all)) it.1)) next in (
          it.2,
          record {
            sound = subst (λ s. IsSound s after.trees) it.2 sound;
            contents_are = content_changed schema.tables contents trees after.trees at (plainly table) new there alone it.3.tables is was.contents_are;
          },
        )

  -- a row whose key is given, and above each that is there
  pub inserts_keyed : (n : ℤ) (columns : Row) (key : ℕ) → table.key ≡ Some key → written ≡ (Int n ∷ columns) ∷ [] → AllByRecursion (λ r. value_cmp (rowid r) (Int n) ≡ Less) (content_at at contents)
      → (after.schema ≡ schema) × Contain schema (with_content at (content_at at contents ++ (Int n ∷ columns) ∷ []) contents) after.trees
  inserts_keyed n columns key keyed row_is above =
      let here = content_there schema.tables contents trees at (plainly table) there was.contents_are in
      let counted : (rows : List Row) → rows_that_count (plainly table) rows ≡ rows = λ rows. ap (λ k. if is_some k then rows else map (drop 1) rows) keyed in
      let rows_were : trees table.tree ≡ content_at at contents = sym (counted (trees table.tree)) ∙ here.rows_are in
      let last : put_row (Int n ∷ columns) (trees table.tree) ≡ trees table.tree ++ (Int n ∷ columns) ∷ [] =
      put_last (Int n ∷ columns) (trees table.tree) (subst (AllByRecursion (λ r. value_cmp (rowid r) (Int n) ≡ Less)) (sym rows_were) above) in
      let same : edited trees (edit_of trees (plainly table) [] Chosen 0 (value_rows (stamped (plainly table) params) width (length terms / width) terms)) ≡ put_row (Int n ∷ columns) (trees table.tree) =
      ap (λ rows. put_all (trees table.tree) (numbered Chosen (trees table.tree) rows)) row_is in
      inserted (content_at at contents ++ (Int n ∷ columns) ∷ []) (record {
        numbered = subst (IsShaped shape.Table) (sym same) (IsShaped-put_row (Int n ∷ columns) (trees table.tree) refl here.numbered);
        rows_are = counted _ ∙ same ∙ last ∙ ap (λ l. l ++ (Int n ∷ columns) ∷ []) rows_were;
      })
