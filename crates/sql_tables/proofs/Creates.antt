-- CREATE TABLE within a transaction.
use Rattle.std.proofs.Common.{◌≡◌, ℕ, List, [], ◌∷◌, map, Bool, true, false, is_some, if◌then◌else◌, drop, None, Ok, refl, sym, ap, subst, ◌∙◌}
use Rattle.std.specs.List.{AllByRecursion}
use Rattle.sqlite_value.specs.Order.{Row}
use Rattle.sqlite_trees.specs.Tree.{Trees}
use Rattle.sqlite_schema.specs.declared.schema.Table.{Table}
use Rattle.sqlite_schema.specs.declared.schema.Schema.{Schema}
use Rattle.sqlite_schema.specs.declared.command.Command.TheVariants.{CreateTable}
use Rattle.sqlite_resolve.specs.Compile.{table_defined_by}
use Rattle.sqlite_catalog.specs.Change.{created, next_tree}
use Rattle.sqlite_catalog.specs.Listing.{IsSound}
use Rattle.sqlite_keyed.proofs.ListLemmas.{all_both, all-append}
use Rattle.sqlite.specs.Effect.{Database}
use Rattle.sqlite.specs.Listing.{understood}
use Rattle.sqlite.specs.Does.{Tally, lacks_sequence}
use Rattle.sqlite.specs.State.{State, Writes, ExecutesInside}
use Rattle.sqlite.proofs.Callers.{IsPlain, command_of, statement_of, runs_as}
use Rattle.sql_tables.specs.Contents.{IsContent, AllContents, Contain, no_rows}
use Rattle.sql_tables.specs.States.{Works, Begins}
use Rattle.sql_tables.proofs.Effects.{went, same_ok}

empty_content : (table : Table) → IsContent table [] []
empty_content table = record { numbered = (tt, tt); rows_are = go (is_some table.key) }
  where
    go : (b : Bool) → ◌≡◌ {A = List Row} (if b then [] else map {A = Row} (drop 1) []) []
    go true = refl
    go false = refl

no_rows_there : (tables : List Table) (db : Trees) → AllByRecursion (λ (t : Table). db t.tree ≡ []) tables → AllContents tables (no_rows tables) db
no_rows_there [] db h = tt
no_rows_there (t ∷ tables) db h = (subst (IsContent t []) (sym h.0) (empty_content t), no_rows_there tables db h.1)

-- tables without rows, of which one more is made
pub empties_of : (schema : Schema) (s : State) → Works schema (Contain schema (no_rows schema.tables)) s → Begins schema s
empties_of schema s was = record { schema_is = was.schema_is; empty = go schema.tables was.holds.contents_are; running = was.running }
  where
    none : (table : Table) (rows : List Row) → IsContent table [] rows → rows ≡ []
    none table [] h = refl
    none table (r ∷ rows) h = absurd (go (is_some table.key) h.rows_are)
      where
        go : (b : Bool) → (if b then r ∷ rows else map (drop 1) (r ∷ rows)) ≡ [] → ⊥
        go true e = cc
        go false e = cc

    go : (tables : List Table) → AllContents tables (no_rows tables) s.now.trees → AllByRecursion (λ (t : Table). s.now.trees t.tree ≡ []) tables
    go [] h = tt
    go (t ∷ tables) h = (none t (s.now.trees t.tree) h.0, go tables h.1)

module _ (schema : Schema) (text : List ℕ) (table : Table) (command : command_of (understood schema text) ≡ CreateTable) (whole : statement_of text (understood schema text) ≡ text) (plain : IsPlain (understood schema text))
    (defined : table_defined_by text ≡ Ok table) (uncounted : lacks_sequence (created schema table) ≡ false) where
  pub creates : (old new : State) (count : ℕ) → Begins schema old → ExecutesInside 0 text [] old new (Ok count) → Works (created schema table) (Contain (created schema table) (no_rows (created schema table).tables)) new
  creates old new count was h =
      let w = subst (λ t. Writes old new None CreateTable t [] count) whole (runs_as text [] old new schema was.schema_is CreateTable command plain count h.0) in
      let all = went w.changed in
      let first = went all.1 in
      let made = first.1 in
      let both : Ok made.table ≡ Ok table = sym made.defined ∙ defined in
      let same : made.table ≡ table = cc in
      let is : first.0.schema ≡ created schema table = made.is ∙ ap (λ s. created s made.table) was.schema_is ∙ ap (created schema) same in
      let plainly : lacks_sequence first.0.schema ≡ false = ap lacks_sequence is ∙ uncounted in
      let now : new.now ≡ first.0 = ap (λ (p : Tally × Database). p.1) (same_ok all.2) ∙ same_ok (rw plainly at first.2) in
      let others = subst (λ s. AllByRecursion (λ t. first.0.trees t.tree ≡ old.now.trees t.tree) s.tables) was.schema_is made.others in
      let last : first.0.trees (next_tree schema) ≡ [] = subst (λ s. first.0.trees (next_tree s) ≡ []) was.schema_is made.empty in
      let empty : AllByRecursion (λ t. new.now.trees t.tree ≡ []) (created schema table).tables =
      subst (λ (d : Database). AllByRecursion (λ t. d.trees t.tree ≡ []) (created schema table).tables) (sym now)
      (all-append (λ t. first.0.trees t.tree ≡ []) schema.tables _
      (all_both (λ t. first.0.trees t.tree ≡ old.now.trees t.tree) (λ t. old.now.trees t.tree ≡ []) (λ t. first.0.trees t.tree ≡ []) (λ t e f. e ∙ f) schema.tables others was.empty) (last, tt)) in
      let schema_is : new.now.schema ≡ created schema table = ap (λ (d : Database). d.schema) now ∙ is in
      record {
        schema_is = schema_is;
        holds = record { sound = subst (λ s. IsSound s new.now.trees) schema_is w.sound; contents_are = no_rows_there (created schema table).tables new.now.trees empty };
        running = h.1.mode;
      }
