-- Texts without RETURNING, which commit nothing where they are asked as queries, whatever the schema.
use Rattle.std.proofs.Common.{◌≡◌, ◌+◌, ℕ, List, length, Bool, true, false, if◌then◌else◌, Option, None, Some, IsSome, Ok, Err, refl, subst, ◌==◌}
use Rattle.std.specs.Bool.{⊤}
use Rattle.std.specs.Result.{IfOk}
use Rattle.sqlite_value.specs.Order.{Row}
use Rattle.sqlite_trees.specs.Tree.{Trees}
use Rattle.sqlite_ast.specs.declared.Statement.{Statement}
use Rattle.sqlite_ast.specs.declared.Statement.TheVariants as written
use Rattle.sqlite_syntax.specs.declared.statement.Parsed.{Parsed}
use Rattle.sqlite_schema.specs.declared.schema.Schema.{Schema}
use Rattle.sqlite_schema.specs.declared.command.Command.{Command}
use Rattle.sqlite_schema.specs.declared.command.Returning.{Returning}
use Rattle.sqlite_resolve.specs.declared.compiled.Compiled.{Compiled}
use Rattle.sqlite_resolve.specs.declared.error.CompileError.TheVariants.{NoSuchTable}
use Rattle.sqlite_resolve.specs.Lowering.{Checked, and_then}
use Rattle.sqlite_resolve.specs.Scope.{Name}
use Rattle.sqlite_resolve.specs.Compile.{first, compiled, planned, meaning, with_command, command, returning, shows, timed, small}
use Rattle.sqlite.specs.Listing.{understood, reads_listing, if_select, is_select, listing_schema}
use Rattle.sqlite.specs.State.{State, CommitsShowing}

-- no INSERT, UPDATE or DELETE that shows what it writes
abbrev pub ShowsNoWrite : Statement → Type 0
ShowsNoWrite (written.Insert how name columns rows clauses shown) = (length shown == 0) ≡ true
ShowsNoWrite (written.Update name sets test shown) = (length shown == 0) ≡ true
ShowsNoWrite (written.Delete name test shown) = (length shown == 0) ≡ true
ShowsNoWrite _ = ⊤

abbrev pub of_text : Checked Parsed → Type 0
of_text (Ok p) = ShowsNoWrite p.statement
of_text (Err e) = ⊤

-- whatever the schema
abbrev pub HasNoReturning : List ℕ → Type 0
HasNoReturning sql = of_text (first sql)

abbrev Plan : Type 0
Plan = List Name × (Command × Option Returning)

-- ---- it is compiled without RETURNING

abbrev ShowsNone : Compiled → Type 0
ShowsNone c = c.returning ≡ None

through : {A B : Type 0} (Q : A → Type 0) (P : B → Type 0) (r : Checked A) (f : A → Checked B) → IfOk r Q → ((a : A) → Q a → IfOk (f a) P) → IfOk (and_then r f) P
through Q P (Ok a) f q all = all a q
through Q P (Err e) f q all = tt

any : {A : Type 0} (r : Checked A) → IfOk r (λ a. ⊤)
any (Ok a) = tt
any (Err e) = tt

none_if : (b : Bool) (r : Checked (Option Returning)) → b ≡ true → IfOk (if b then Ok None else r) (λ shown. shown ≡ None)
none_if true r is = refl
none_if false r is = absurd cc

returning_none : (schema : Schema) (base : ℕ) (s : Statement) → ShowsNoWrite s → IfOk (returning schema base s) (λ shown. shown ≡ None)
unfolding returning shows
returning_none schema base (written.Insert how name columns rows clauses shown) is = none_if (length shown == 0) _ is
returning_none schema base (written.Update name sets test shown) is = none_if (length shown == 0) _ is
returning_none schema base (written.Delete name test shown) is = none_if (length shown == 0) _ is
returning_none schema base _ is = refl

meaning_none : (schema : Schema) (p : Parsed) (base : ℕ) → ShowsNoWrite p.statement → IfOk (meaning schema p base) (λ (found : Command × Option Returning). found.1 ≡ None)
unfolding meaning
meaning_none schema p base is =
    through (λ shown. shown ≡ None) (λ (found : Command × Option Returning). found.1 ≡ None) (returning schema base p.statement) (λ shown. and_then (command schema p.formats base p.statement) (λ c. Ok (c, shown))) (returning_none schema base p.statement is)
    (λ shown none. through (λ c. ⊤) (λ (found : Command × Option Returning). found.1 ≡ None) (command schema p.formats base p.statement) (λ c. Ok (c, shown)) (any (command schema p.formats base p.statement)) (λ c made. none))

planned_none : (schema : Schema) (p : Parsed) → ShowsNoWrite p.statement → IfOk (planned schema p) (λ (plan : Plan). plan.1.1 ≡ None)
unfolding planned
planned_none schema p is =
    let formats = timed schema p.formats p.statement in
    through (λ (found : Command × Option Returning). found.1 ≡ None) (λ (plan : Plan). plan.1.1 ≡ None) (meaning schema p (small p.names + small formats)) (λ found. Ok (formats, found)) (meaning_none schema p _ is) (λ found made. made)

compiled_none : (sql : List ℕ) → HasNoReturning sql → (schema : Schema) → IfOk (compiled schema sql) ShowsNone
unfolding compiled
compiled_none sql bare schema = go (first sql) bare
  where
    go : (r : Checked Parsed) → of_text r → IfOk (and_then r (λ p. and_then (planned schema p) (λ plan. Ok (with_command p plan)))) ShowsNone
    go (Ok p) is = through (λ (plan : Plan). plan.1.1 ≡ None) ShowsNone (planned schema p) (λ plan. Ok (with_command p plan)) (planned_none schema p is) (λ plan made. made)
    go (Err e) is = tt

understood_none : (sql : List ℕ) → HasNoReturning sql → (schema : Schema) → IfOk (understood schema sql) ShowsNone
unfolding understood
understood_none sql bare schema = go (reads_listing schema sql)
  where
    queried : (r : Checked Compiled) → IfOk r ShowsNone → IfOk (if_select r) ShowsNone
    queried (Err e) is = tt
    queried (Ok c) is = elim (is_select c.command) as (λ b. IfOk (if b then (let r : Checked Compiled = Ok c in r) else Err NoSuchTable) ShowsNone) [ true ↦ is | false ↦ tt ]

    go : (b : Bool) → IfOk (if b then if_select (compiled listing_schema sql) else compiled schema sql) ShowsNone
    go true = queried (compiled listing_schema sql) (compiled_none sql bare listing_schema)
    go false = compiled_none sql bare schema

pub none_of : (sql : List ℕ) → HasNoReturning sql → (schema : Schema) (c : Compiled) → understood schema sql ≡ Ok c → c.returning ≡ None
none_of sql bare schema c is = subst (λ r. IfOk r ShowsNone) is (understood_none sql bare schema)

pub commits_none : (sql : List ℕ) → HasNoReturning sql → (params : Row) (s : State) (db : Trees) → CommitsShowing sql params s db → ⊥
unfolding CommitsShowing
commits_none sql bare params s db h = let some = subst IsSome (none_of sql bare s.now.schema h.0 h.1.is) h.2 in cc some
