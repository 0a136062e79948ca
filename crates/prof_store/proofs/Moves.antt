-- The cells of version 1 go under thread 0, and the tables become those of version 2.
use Rattle.std.proofs.Common.{◌≡◌, ℕ, ◌<◌, List, [], ◌∷◌, ◌++◌, map, length, ◌==◌, pos, Bool, true, false, None, Ok, Option, refl, sym, ap, ap₂, subst, arith}
use Rattle.std.specs.List.{AllByRecursion, flat_map, filter_map}
use Rattle.std.proofs.lemmas.Bool.{ne_eqb}
use Rattle.sqlite_value.specs.declared.keys.Collation.{Collation}
use Rattle.sqlite_value.specs.declared.keys.Collation.TheVariants.{Binary}
use Rattle.sqlite_value.specs.declared.value.Value.{Value}
use Rattle.sqlite_value.specs.declared.value.Value.TheVariants.{Null, Int}
use Rattle.sqlite_value.specs.Order.{Row}
use Rattle.sqlite_trees.specs.Tree.{Trees}
use Rattle.sqlite_sql.specs.Term.{Term, lit, col, eval_all}
use Rattle.sqlite_schema.specs.declared.schema.Schema.{Schema}
use Rattle.sqlite_schema.specs.Rules.{parent_key}
use Rattle.sqlite_schema.specs.declared.schema.Keys.TheVariants.{Enforced}
use Rattle.sqlite_schema.specs.declared.command.Source.TheVariants as source
use Rattle.sqlite_schema.specs.declared.command.Command.TheVariants.{Insert, Update}
use Rattle.sqlite_rules.specs.Action.{work_by, pairs, deed_for}
use Rattle.sqlite_rules.specs.Cast.{cast_row}
use Rattle.sqlite_tied.specs.Compute.{everything}
use Rattle.sqlite.specs.Effect.{Database, IsDatabase}
use Rattle.sqlite.specs.Does.{Tally, Does}
use Rattle.sqlite.specs.Listing.{understood}
use Rattle.sqlite.specs.State.{State, ExecutesInside}
use Rattle.sqlite.proofs.Callers.{IsPlain, command_of}
use Rattle.sql_tables.specs.Contents.{Contain, without_content}
use Rattle.sql_tables.specs.Queries.{only, scan}
use Rattle.sql_tables.specs.States.{Works}
use Rattle.sql_tables.proofs.Copies.{copied, copies}
use Rattle.sql_tables.proofs.Effects.{plainly}
use Rattle.sql_tables.proofs.Statements.{plain_mode, inside_done}
use Rattle.sql_tables.proofs.Updates.{updates_rows}
use Rattle.prof_store.specs.First.{HoldsFirst, IsOfThreadZero, first_cell_columns, first_contents_of}
use Rattle.prof_store.specs.Schema.{schema_one, schema_both, schema_two, meta_at, cell_at, thread_cell_at}
use Rattle.plain_tables.specs.Tables.{Tables, StoredCell, RunRow}
use Rattle.prof_store.specs.Tables.{Holds, number, meta_columns, run_columns, event_columns, derived_columns, coef_columns, name_columns, cell_columns, arc_columns, stack_columns, group_columns, member_columns}
use Rattle.prof_store.specs.Texts.{copy_cells_sql, second_sql}
use Rattle.prof_store.proofs.Values.{cast_null, cast_whole, cast_number}

-- ---- the rows of the new table

abbrev pub copy_terms : List Term
copy_terms = lit Null ∷ col 1 1 ∷ lit (Int (pos 0)) ∷ col 1 2 ∷ col 1 3 ∷ col 1 4 ∷ col 1 5 ∷ col 1 6 ∷ col 1 7 ∷ []

abbrev pub nine : List Collation
nine = Binary ∷ Binary ∷ Binary ∷ Binary ∷ Binary ∷ Binary ∷ Binary ∷ Binary ∷ Binary ∷ []

copy_means : command_of (understood schema_both copy_cells_sql) ≡ Insert 11 (source.Query (only (copied 13 copy_terms nine)))
unfolding understood everything
copy_means = refl

copy_plain : IsPlain (understood schema_both copy_cells_sql)
unfolding understood everything
copy_plain = (refl, refl)

-- a cell of version 1, under thread 0
abbrev pub under_zero : StoredCell → Row
under_zero c = number c.run ∷ number 0 ∷ number c.object ∷ number c.file ∷ number c.function ∷ number c.line ∷ number c.event ∷ number c.cost ∷ []

cast_each : (id : Value) (c : StoredCell) → cast_row (plainly thread_cell_at) (eval_all copy_terms ([] ∷ (id ∷ first_cell_columns c) ∷ [])) ≡ Null ∷ under_zero c
cast_each id c = simp (cast_null, cast_number) refl

-- the contents with the new table, without rows and with them
abbrev pub with_none : Tables → List (List Row)
with_none t = first_contents_of t ++ [] ∷ []

abbrev pub with_rows : Tables → List (List Row)
with_rows t = first_contents_of t ++ map under_zero t.cells ∷ []

copies_cells : (t : Tables) (limit : Option ℕ) (trees : Trees) (text : List ℕ) (tally : Tally) (after : Database) → Contain schema_both (with_none t) trees → IsDatabase after
    → Does limit plain_mode [] (record { schema = schema_both; trees = trees }) text None (Insert 11 (source.Query (only (copied 13 copy_terms nine)))) (Ok (tally, after))
    → (after.schema ≡ schema_both) × Contain schema_both (with_rows t) after.trees
copies_cells t limit trees text tally after was sound h =
    copies schema_both (with_none t) limit trees text tally after 11 6 thread_cell_at cell_at refl refl refl refl refl refl copy_terms nine first_cell_columns under_zero cast_each was sound h t.cells refl

copied_cells : (t : Tables) (old new : State) (count : ℕ) → Works schema_both (Contain schema_both (with_none t)) old → ExecutesInside 0 copy_cells_sql [] old new (Ok count)
    → Works schema_both (Contain schema_both (with_rows t)) new
copied_cells t = inside_done schema_both copy_cells_sql [] _ copy_means copy_plain tt (Contain schema_both (with_none t)) (Contain schema_both (with_rows t)) (copies_cells t)

-- ---- the number of the schema

abbrev second_shown : List Term
second_shown = col 1 0 ∷ lit Null ∷ lit (Int (pos 2)) ∷ col 1 3 ∷ []

second_means : command_of (understood schema_two second_sql) ≡ Update 0 (only (scan 0 [] (col 1 0 ∷ second_shown)))
unfolding understood everything
second_means = refl

second_plain : IsPlain (understood schema_two second_sql)
unfolding understood everything
second_plain = (refl, refl)

no_meta_works_if : (olds news : List Row) (deletes : Bool) → deletes ≡ false
    → flat_map (λ child. filter_map (λ ref. work_by 0 0 (pairs olds news) child ref (deed_for Enforced deletes ref) (parent_key schema_two.tables ref)) child.references) schema_two.tables ≡ []
unfolding everything
no_meta_works_if olds news false e = refl
no_meta_works_if olds news true e = absurd cc

some_news : (n : Row) (news : List Row) → (length (n ∷ news) == 0) ≡ false
some_news n news = ne_eqb (length (n ∷ news)) 0 (λ e. omega (arith, e))

-- the row of meta, by the number of the schema and that of the next run
abbrev meta_of : ℕ × ℕ → Row
meta_of m = number 1 ∷ Null ∷ number m.0 ∷ number m.1 ∷ []

-- the contents of schema 2, with these rows of cells
abbrev with_cells : Tables → List Row → List (List Row)
with_cells t rows =
    (meta_columns t.next ∷ []) ∷ map run_columns t.runs ∷ map event_columns t.events ∷ map derived_columns t.derived ∷ map coef_columns t.coefs ∷ map name_columns t.names
    ∷ map arc_columns t.calls ∷ map stack_columns t.stacks ∷ map group_columns t.groups ∷ map member_columns t.members ∷ rows ∷ []

marks_schema : (t : Tables) (limit : Option ℕ) (trees : Trees) (text : List ℕ) (tally : Tally) (after : Database) → Contain schema_two (without_content 6 (with_rows t)) trees → IsDatabase after
    → Does limit plain_mode [] (record { schema = schema_two; trees = trees }) text None (Update 0 (only (scan 0 [] (col 1 0 ∷ second_shown)))) (Ok (tally, after))
    → (after.schema ≡ schema_two) × Contain schema_two (with_cells t (map under_zero t.cells)) after.trees
marks_schema t limit trees text tally after was sound h =
    updates_rows schema_two (without_content 6 (with_rows t)) limit [] trees text tally after 0 meta_at refl refl refl [] second_shown was sound h meta_of ((1, t.next) ∷ []) (λ _. true) (λ m. (2, m.1))
    (λ taken row news. no_meta_works_if taken (row ∷ news) (length (row ∷ news) == 0) (some_news row news)) refl (λ id x. refl) (λ z x. simp (cast_whole, cast_number, cast_null)) (λ z x. refl)

marked_schema : (t : Tables) (old new : State) (count : ℕ) → Works schema_two (Contain schema_two (without_content 6 (with_rows t))) old → ExecutesInside 0 second_sql [] old new (Ok count)
    → Works schema_two (Contain schema_two (with_cells t (map under_zero t.cells))) new
marked_schema t = inside_done schema_two second_sql [] _ second_means second_plain tt (Contain schema_two (without_content 6 (with_rows t))) (Contain schema_two (with_cells t (map under_zero t.cells))) (marks_schema t)

-- ---- as a store holds them: what no statement changes goes along

-- each run's number is below the next, and the cells are of thread 0
abbrev pub Stay : Tables → Type 0
Stay t = AllByRecursion (λ (r : RunRow). r.number < t.next) t.runs × AllByRecursion IsOfThreadZero t.cells

-- within the transaction, the tables of a schema have these contents
abbrev pub Sees : Tables → Schema → List (List Row) → State → Type 0
Sees t schema contents s = Stay t × Works schema (Contain schema contents) s

pub begun : (t : Tables) (s : State) → Works schema_one (HoldsFirst t) s → Sees t schema_one (first_contents_of t) s
begun t s was = ((was.holds.below, was.holds.of_zero), record { schema_is = was.schema_is; holds = was.holds.contain; running = was.running })

pub filled : (t : Tables) (old new : State) (count : ℕ) → Sees t schema_both (with_none t) old → ExecutesInside 0 copy_cells_sql [] old new (Ok count) → Sees t schema_both (with_rows t) new
filled t old new count was h = (was.0, copied_cells t old new count was.1 h)

-- under thread 0 they are the lines that they were
all_zero : (cells : List StoredCell) → AllByRecursion IsOfThreadZero cells → map under_zero cells ≡ map cell_columns cells
all_zero [] all = refl
all_zero (c ∷ cells) all = ap₂ ◌∷◌ (ap (λ n. number c.run ∷ number n ∷ number c.object ∷ number c.file ∷ number c.function ∷ number c.line ∷ number c.event ∷ number c.cost ∷ []) (sym all.0)) (all_zero cells all.1)

pub ended : (t : Tables) (old new : State) (count : ℕ) → Sees t schema_two (without_content 6 (with_rows t)) old → ExecutesInside 0 second_sql [] old new (Ok count) → Works schema_two (Holds t) new
ended t old new count was h =
    let all = marked_schema t old new count was.1 h in record {
      schema_is = all.schema_is;
      holds = record { contain = subst (λ rows. Contain schema_two (with_cells t rows) new.now.trees) (all_zero t.cells was.0.1) all.holds; below = was.0.0 };
      running = all.running;
    }
