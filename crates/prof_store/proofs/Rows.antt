-- What each INSERT makes of the tables.
use Rattle.std.proofs.Common.{◌≡◌, ℕ, suc, ◌<◌, pos, ◌+ℤ◌, List, [], ◌∷◌, map, fold, None, Option, Ok, refl, ap, ◌∙◌, arith}
use Rattle.std.specs.List.{AllByRecursion}
use Rattle.std.specs.declared.cmp.Ordering.TheVariants.{Less}
use Rattle.sqlite_value.specs.declared.value.Value.TheVariants.{Null}
use Rattle.sqlite_value.specs.Order.{Row, value_cmp}
use Rattle.sqlite_trees.specs.Tree.{Trees, rowid}
use Rattle.sqlite_schema.specs.declared.command.Source.TheVariants.{Values}
use Rattle.sqlite_schema.specs.declared.command.Command.TheVariants.{Insert}
use Rattle.std.proofs.lemmas.Int.{ints}
use Rattle.sqlite_rules.specs.Edit.{id_in}
use Rattle.sqlite.specs.Effect.{Database, IsDatabase}
use Rattle.sqlite.specs.Does.{Tally, Does}
use Rattle.sql_tables.specs.Contents.{Contain, no_rows}
use Rattle.sql_tables.proofs.Inserts.{inserts_keyed}
use Rattle.sql_tables.proofs.Statements.{plain_mode}
use Rattle.prof_store.specs.Schema.{schema_two, meta_at}
use Rattle.plain_tables.specs.Tables.{RunRow, NameRow, new_tables}
use Rattle.prof_store.specs.Tables.{Holds, run_columns, name_columns, number}
use Rattle.prof_store.proofs.Means.{begin_terms}
use Rattle.prof_store.proofs.Values.{cast_null, cast_number, number_below}

pub next_is : (names : List NameRow) (n : ℕ) → fold (λ _ r. id_in (rowid r) +ℤ pos 1) (pos n) (map name_columns names) ≡ pos (fold (λ _ (line : NameRow). suc line.number) n names)
next_is [] n = refl
next_is (line ∷ names) n = ap (λ z. fold (λ _ r. id_in (rowid r) +ℤ pos 1) z (map name_columns names)) (more line.number) ∙ next_is names (suc line.number)
  where
    more : (m : ℕ) → pos m +ℤ pos 1 ≡ pos (suc m)
    more m = grind (arith, ints)

pub runs_below : (runs : List RunRow) (n : ℕ) → AllByRecursion (λ (r : RunRow). r.number < n) runs → AllByRecursion (λ (r : Row). value_cmp (rowid r) (number n) ≡ Less) (map run_columns runs)
runs_below [] n h = tt
runs_below (r ∷ runs) n h = (number_below r.number n h.0, runs_below runs n h.1)

-- the row of a new store
pub begins : (limit : Option ℕ) (trees : Trees) (text : List ℕ) (tally : Tally) (after : Database) → Contain schema_two (no_rows schema_two.tables) trees → IsDatabase after
    → Does limit plain_mode [] (record { schema = schema_two; trees = trees }) text None (Insert 0 (Values begin_terms 4)) (Ok (tally, after)) → (after.schema ≡ schema_two) × Holds new_tables after.trees
begins limit trees text tally after was sound h =
    let it = inserts_keyed schema_two (no_rows schema_two.tables) limit [] trees text tally after 0 meta_at refl refl begin_terms 4 was sound h (pos 1) (Null ∷ number 2 ∷ number 1 ∷ []) 0 refl (simp (cast_null, cast_number)) tt in
    (it.0, record { contain = it.1; below = tt })
