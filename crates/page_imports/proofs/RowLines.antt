-- The lines that a file's rows become, row by row.
use Rattle.std.proofs.Common.{◌≡◌, ℕ, ◌+◌, List, [], ◌∷◌, ◌++◌, map, flat_map, length, nat_lt, if◌then◌else◌, Bool, true, false, Option, refl, ap}
use Rattle.std.specs.Borrow.{Bor}
use Rattle.std.specs.Iterator.{Drains}
use Rattle.std.proofs.lemmas.Iterator.{YieldsList, items_from_drains}
use Rattle.cost_rows.specs.declared.places.Call.{Call}
use Rattle.cost_rows.specs.declared.rows.StackRow.{StackRow}
use Rattle.cost_rows.specs.Plain.{plain_stack}
use Rattle.cost_rows.specs.Walks.{counted_stacks}
use Rattle.cost_rows.proofs.AboveLemmas.{above-more}
use Rattle.plain_tables.specs.Tables.{StoredStack}
use Rattle.run_stores.specs.Files.{call_row_of, call_rows_from, stack_rows}
use Rattle.page_imports.specs.FromRows.{line_of_stack}

-- a part more
pub parts_more : (run : ℕ) (numbers : List ℕ) (c : Call) (part : ℕ) (costs : List ℕ) (cost : ℕ)
    → call_rows_from run numbers c part (costs ++ cost ∷ []) ≡ call_rows_from run numbers c part costs ++ (if nat_lt 0 cost then call_row_of run numbers c (part + length costs) cost ∷ [] else [])
parts_more run numbers c = above-more (call_row_of run numbers c)

abbrev pub plain_line_of_stack : ℕ → StackRow (List ℕ) → StoredStack
plain_line_of_stack run r = record { run = run; frames = r.stack; count = r.count }

pub stacks_are : (run : ℕ) (stacks : List (List ℕ × ℕ)) → map (plain_line_of_stack run) (counted_stacks stacks) ≡ stack_rows run stacks
stacks_are run [] = refl
stacks_are run (e ∷ stacks) = go (nat_lt 0 e.1) (stacks_are run stacks)
  where
    go : (b : Bool) → map (plain_line_of_stack run) (counted_stacks stacks) ≡ stack_rows run stacks
        → map (plain_line_of_stack run) (if b then record { stack = e.0; count = e.1 } ∷ counted_stacks stacks else counted_stacks stacks)
        ≡ (if b then record { run = run; frames = e.0; count = e.1 } ∷ stack_rows run stacks else stack_rows run stacks)
    go true more = ap (λ l. record { run = run; frames = e.0; count = e.1 } ∷ l) more
    go false more = more

pub rows_of_stacks : (run : ℕ) (rows : List (StackRow (Bor (List ℕ)))) → flat_map (λ r. line_of_stack run r ∷ []) rows ≡ map (plain_line_of_stack run) (map plain_stack rows)
rows_of_stacks run [] = refl
rows_of_stacks run (r ∷ rows) = ap (λ l. line_of_stack run r ∷ l) (rows_of_stacks run rows)

-- rows that were taken one after another to the end are all of them
pub rows_drained : {I R B : Type 0} (steps : I → Option R → I → Type 0) (view : R → B) (it : I) (all : List B) (rows : List R) → Drains steps it rows → YieldsList steps view it all → map view rows ≡ all
rows_drained steps view it all rows taken gives = items_from_drains rows (taken.1.0, taken.1.1, λ _. (taken.0, taken.1.2)) gives
