-- Parts of the transaction that makes the tables, one after another.
use Rattle.std.proofs.Common.{◌≡◌, ◌∙◌, ℕ, List, [], Bool, true, false, Result, Ok, Err, IsErr, IsTrue, refl, sym, arith}
use Rattle.std.specs.Result.{is_ok}
use Rattle.sqlite_trees.specs.declared.store.Store.{Ghosts}
use Rattle.sqlite_schema.specs.declared.schema.Schema.{Schema}
use Rattle.sqlite.specs.State.{State, Survives, ExecutesInside}
use Rattle.sqlite.specs.declared.transaction.Transaction.{Transaction}
use Rattle.sql_tables.specs.States.{Begins, Works}
use Rattle.sql_tables.proofs.Creates.{empties_of}
use Rattle.sql_tables.proofs.Statements.{inside_kept}
use Rattle.prof_store.specs.Within.{inside, IsFaithful, Ran}
use Rattle.prof_store.proofs.Within.{text_open}
use Rattle.sqlite.proofs.StateLemmas.{survives_then}
use Rattle.prof_store.specs.Making.{AreEmpty, CommitsNothing, Makes, MakesTables}

module _ {S : Type 0} (g : Ghosts S) where
  faithful_before : (old new : Transaction S) → Survives (inside g old) (inside g new) (λ _. ⊥) → IsFaithful g new → IsFaithful g old
  faithful_before old new h clean = omega (arith, h.clean, clean)

  -- one part, and another that goes on from what it left
  pub makes_then : (ok : Bool) (A B C D : State → Type 0) (old mid new : Transaction S) → Makes g true A B old mid → Makes g ok C D mid new → ((s : State) → B s → C s) → Makes g ok A D old new
  makes_then ok A B C D old mid new one two goes = record {
    same_reference = two.same_reference ∙ one.same_reference;
    survives = survives_then (inside g old) (inside g mid) (inside g new) _ _ (λ _. ⊥) (λ _ db none. none) (λ _ db none. none) one.survives two.survives;
    kept = λ clean was is_open.
        let early = faithful_before mid new two.survives clean in
        let last = two.kept clean (one.running refl early was) is_open in
        let before = one.kept early was last.0 in
        (before.0, last.1 ∙ before.1);
    running = λ is clean was. two.running is clean (one.running refl (faithful_before mid new two.survives clean) was);
    found_open = λ is clean was. one.found_open refl (faithful_before mid new two.survives clean) was;
    done = λ is clean was. two.done is clean (goes (inside g mid) (one.done refl (faithful_before mid new two.survives clean) was));
  }

  -- what no statement changes goes along
  pub makes_beside : (ok : Bool) (X : Type 0) (A B : State → Type 0) (old new : Transaction S) → Makes g ok A B old new → Makes g ok (λ s. X × A s) (λ s. X × B s) old new
  makes_beside ok X A B old new h = record {
    same_reference = h.same_reference;
    survives = h.survives;
    kept = h.kept;
    running = h.running;
    found_open = h.found_open;
    done = λ is clean was. (was.0, h.done is clean was.1);
  }

  -- of what is made nothing more is said
  pub makes_any : (ok : Bool) (A B : State → Type 0) (old new : Transaction S) → Makes g ok A B old new → CommitsNothing g ok old new
  makes_any ok A B old new h = record { same_reference = h.same_reference; survives = h.survives; kept = h.kept; running = h.running; found_open = h.found_open; done = λ is clean none. none }

  -- a further schema's tables
  pub tables_then : (ok : Bool) (from by to : Schema) (old mid new : Transaction S) → MakesTables g true from by old mid → MakesTables g ok by to mid new → MakesTables g ok from to old new
  tables_then ok from by to old mid new one two = makes_then ok (Begins from) (Works by (AreEmpty by)) (Begins by) (Works to (AreEmpty to)) old mid new one two (empties_of by)

  -- a part that was refused
  pub makes_refused : (ok : Bool) (A B C D : State → Type 0) (old new : Transaction S) → Makes g ok A B old new → Makes g false C D old new
  makes_refused ok A B C D old new h = record {
    same_reference = h.same_reference;
    survives = h.survives;
    kept = h.kept;
    running = λ (none : false ≡ true). absurd cc;
    found_open = λ (none : false ≡ true). absurd cc;
    done = λ (none : false ≡ true). absurd cc;
  }

  pub makes_err : {T E : Type 0} (result : Result T E) (ok : Bool) (A B C D : State → Type 0) (old new : Transaction S) → IsErr result → Makes g ok A B old new → Makes g (is_ok result) C D old new
  makes_err (Ok x) ok A B C D old new is h = absurd (cc is)
  makes_err (Err e) ok A B C D old new is h = makes_refused ok A B C D old new h

  -- one part, and another that was refused
  pub then_err : {T E : Type 0} (result : Result T E) (A B C D F G : State → Type 0) (old mid new : Transaction S) → IsErr result → Makes g true A B old mid → Makes g false C D mid new → Makes g (is_ok result) F G old new
  then_err result A B C D F G old mid new is one two = makes_err result false A D F G old new is (makes_then false A B B D old mid new one (makes_refused false C D B D mid new two) (λ s it. it))

-- what a statement that was run makes of what it saw
effect : (text : List ℕ) (A B : State → Type 0) → ((old new : State) (count : ℕ) → A old → ExecutesInside 0 text [] old new (Ok count) → B new) → (old new : State) (result : Result ℕ _) → IsTrue (is_ok result) → ExecutesInside 0 text [] old new result
    → A old → B new
effect text A B makes old new (Ok count) is h was = makes old new count was h
effect text A B makes old new (Err e) is h was = absurd (cc is)

running : (text : List ℕ) (old new : State) (result : Result ℕ _) → IsTrue (is_ok result) → ExecutesInside 0 text [] old new result → IsTrue new.in_transaction
running text old new (Ok count) is h = h.1.mode
running text old new (Err e) is h = absurd (cc is)

-- a statement, which needs a transaction that goes on
pub statement_makes : {S : Type 0} (g : Ghosts S) (text : List ℕ) (A B : State → Type 0) → ((s : State) → A s → IsTrue s.in_transaction) → ((old new : State) (count : ℕ) → A old → ExecutesInside 0 text [] old new (Ok count) → B new)
    → (ok : Bool) (old new : Transaction S) → Ran g text [] ok old new → Makes g ok A B old new
statement_makes g text A B on makes ok old new h = record {
  same_reference = h.same_reference;
  survives = h.survives;
  kept = λ clean was. let it = h.ran clean was in inside_kept text [] (inside g old) (inside g new) it.0 it.2;
  running = λ is clean was. let it = h.ran clean was in running text (inside g old) (inside g new) it.0 (sym it.1 ∙ is) it.2;
  found_open = text_open g text [] ok old new h;
  done = λ is clean was. let it = h.ran clean (on (inside g old) was) in effect text A B makes (inside g old) (inside g new) it.0 (sym it.1 ∙ is) it.2 was;
}

-- a statement that makes a table
pub table_made : {S : Type 0} (g : Ghosts S) (text : List ℕ) (from to : Schema) → ((old new : State) (count : ℕ) → Begins from old → ExecutesInside 0 text [] old new (Ok count) → Works to (AreEmpty to) new)
    → (ok : Bool) (old new : Transaction S) → Ran g text [] ok old new → MakesTables g ok from to old new
table_made g text from to makes ok old new h = statement_makes g text (Begins from) (Works to (AreEmpty to)) (λ s was. was.running) makes ok old new h
