-- Each change of the tables keeps the order of their rows.
use Rattle.std.proofs.Common.{◌≡◌, ◌≤◌, ◌<◌, ℕ, Bool, true, false, List, [], ◌∷◌, ◌++◌, filter, if◌then◌else◌, refl, sym, subst, arith}
use Rattle.std.specs.List.{AllByRecursion}
use Rattle.cg_formulas.specs.declared.heads.FileHead.{FileHead}
use Rattle.cost_rows.specs.Content.{Content}
use Rattle.plain_tables.proofs.Lists.{all-append}
use Rattle.plain_tables.proofs.Runs.{lines_below}
use Rattle.plain_tables.specs.Tables.{Tables, StoredCell, StoredCall, StoredStack, new_tables}
use Rattle.plain_tables.specs.Sound.{AreOfRuns, AreSound}
use Rattle.plain_tables.specs.Changes.{has_name, has_member, named, with_new_name, with_member, without_run, with_group, without_group, joined, without_member, with_baseline}
use Rattle.plain_tables.specs.Files.{all_named, numbers_in}
use Rattle.run_stores.proofs.BookNames.{all_grown}
use Rattle.run_stores.proofs.Rows.{cells_of_run, calls_of_run, stacks_of_run}
use Rattle.run_stores.specs.Files.{with_head, cell_rows, call_rows, stack_rows}
use Rattle.run_stores.specs.BookRuns.{Filed, filed, with_filed, with_file}
use Rattle.profile_records.specs.declared.kinds.Kind.{Kind}
use Rattle.run_stores.specs.Order.{ByRun, AreInOrder}

-- ---- lists of rows

module _ {X : Type 0} where
  all_on : (P Q : X → Type 0) → ((x : X) → P x → Q x) → (xs : List X) → AllByRecursion P xs → AllByRecursion Q xs
  all_on P Q weaker [] all = tt
  all_on P Q weaker (x ∷ xs) all = (weaker x all.0, all_on P Q weaker xs all.1)

  all_kept : (P : X → Type 0) (keep : X → Bool) (xs : List X) → AllByRecursion P xs → AllByRecursion P (filter keep xs)
  all_kept P keep [] all = tt
  all_kept P keep (x ∷ xs) all = go (keep x) (all_kept P keep xs all.1)
    where
      go : (b : Bool) → AllByRecursion P (filter keep xs) → AllByRecursion P (if b then x ∷ filter keep xs else filter keep xs)
      go true rest = (all.0, rest)
      go false rest = rest

  module _ (run : X → ℕ) where
    -- some of the rows are in order
    pub some_by_run : (keep : X → Bool) (rows : List X) → ByRun run rows → ByRun run (filter keep rows)
    some_by_run keep [] order = tt
    some_by_run keep (row ∷ rows) order = go (keep row) (some_by_run keep rows order.1)
      where
        go : (b : Bool) → ByRun run (filter keep rows) → ByRun run (if b then row ∷ filter keep rows else filter keep rows)
        go true rest = (all_kept (λ other. run row ≤ run other) keep rows order.0, rest)
        go false rest = rest

    -- so are those of one run
    one_by_run : (n : ℕ) (rows : List X) → AllByRecursion (λ row. run row ≡ n) rows → ByRun run rows
    one_by_run n [] all = tt
    one_by_run n (row ∷ rows) all = (all_on (λ other. run other ≡ n) (λ other. run row ≤ run other) (λ other is. omega (arith, is, all.0)) rows all.1, one_by_run n rows all.1)

    -- and those of a run behind those of earlier runs
    pub more_by_run : (n : ℕ) (rows more : List X) → ByRun run rows → AllByRecursion (λ row. run row < n) rows → AllByRecursion (λ row. run row ≡ n) more → ByRun run (rows ++ more)
    more_by_run n [] more order below all = one_by_run n more all
    more_by_run n (row ∷ rows) more order below all = (
      all-append (λ other. run row ≤ run other) rows more order.0 (all_on (λ other. run other ≡ n) (λ other. run row ≤ run other) (λ other is. omega (arith, is, below.0)) more all),
      more_by_run n rows more order.1 below.1 all,
    )

-- ---- runs

pub new_in_order : AreInOrder new_tables
new_in_order = record { cells = tt; calls = tt; stacks = tt }

-- a file under the next number
pub filed_in_order : (f : Filed) (t : Tables) → f.line.number ≡ t.next → AreSound t → AreInOrder t → AreInOrder (with_filed f t)
filed_in_order f t number sound order =
    let run = f.line.number in
    let known = all_named f.rows.names (with_head f.line f.events f.derived f.coefs t) in
    let numbers = numbers_in known f.rows.names in
    -- names change no other table
    let same = sym (all_grown f.rows.names (with_head f.line f.events f.derived f.coefs t)).1 in
    record {
      cells =
          subst (λ (u : Tables). ByRun (λ (c : StoredCell). c.run) (u.cells ++ cell_rows run numbers f.rows.cells)) same
          (behind (λ c. c.run) t.cells (cell_rows run numbers f.rows.cells) order.cells sound.cells (cells_of_run run numbers f.rows.cells));
      calls =
          subst (λ (u : Tables). ByRun (λ (a : StoredCall). a.run) (u.calls ++ call_rows run numbers f.rows.calls)) same
          (behind (λ a. a.run) t.calls (call_rows run numbers f.rows.calls) order.calls sound.calls (calls_of_run run numbers f.rows.calls));
      stacks =
          subst (λ (u : Tables). ByRun (λ (s : StoredStack). s.run) (u.stacks ++ stack_rows run f.rows.stacks)) same
          (behind (λ s. s.run) t.stacks (stack_rows run f.rows.stacks) order.stacks sound.stacks (stacks_of_run run f.rows.stacks));
    }
  where
    behind : {X : Type 0} (run : X → ℕ) (rows more : List X) → ByRun run rows → AreOfRuns t run rows → AllByRecursion (λ row. run row ≡ f.line.number) more → ByRun run (rows ++ more)
    behind run rows more order held all = more_by_run run f.line.number rows more order (subst (λ n. AllByRecursion (λ row. run row < n) rows) (sym number) (lines_below t sound run rows held)) all

pub file_in_order : (kind : Kind) (digest label : List ℕ) (head : FileHead) (content : Content) (t : Tables) → AreSound t → AreInOrder t
    → AreInOrder (with_file t.next kind digest label head content t)
file_in_order kind digest label head content t sound order = filed_in_order (filed t.next kind digest label head content) t refl sound order

pub without_run_in_order : (n : ℕ) (t : Tables) → AreInOrder t → AreInOrder (without_run n t)
without_run_in_order n t order = record {
  cells = some_by_run (λ (c : StoredCell). c.run) _ t.cells order.cells;
  calls = some_by_run (λ (a : StoredCall). a.run) _ t.calls order.calls;
  stacks = some_by_run (λ (s : StoredStack). s.run) _ t.stacks order.stacks;
}

-- ---- names

pub named_in_order : (name : List ℕ) (t : Tables) → AreInOrder t → AreInOrder (named name t)
named_in_order name t order = go (has_name t name)
  where
    go : (b : Bool) → AreInOrder (if b then t else with_new_name name t)
    go true = order
    go false = record { cells = order.cells; calls = order.calls; stacks = order.stacks }

-- ---- groups

module _ (name : List ℕ) where
  pub with_group_in_order : (t : Tables) → AreInOrder t → AreInOrder (with_group name t)
  with_group_in_order t order = record { cells = order.cells; calls = order.calls; stacks = order.stacks }

  pub without_group_in_order : (t : Tables) → AreInOrder t → AreInOrder (without_group name t)
  without_group_in_order t order = record { cells = order.cells; calls = order.calls; stacks = order.stacks }

  module _ (n : ℕ) where
    pub with_member_in_order : (t : Tables) → AreInOrder t → AreInOrder (with_member name n t)
    with_member_in_order t order = record { cells = order.cells; calls = order.calls; stacks = order.stacks }

    pub joined_in_order : (t : Tables) → AreInOrder t → AreInOrder (joined name n t)
    joined_in_order t order = go (has_member t name n)
      where
        go : (b : Bool) → AreInOrder (if b then t else with_member name n t)
        go true = order
        go false = with_member_in_order t order

    pub without_member_in_order : (t : Tables) → AreInOrder t → AreInOrder (without_member name n t)
    without_member_in_order t order = record { cells = order.cells; calls = order.calls; stacks = order.stacks }

    pub with_baseline_in_order : (t : Tables) → AreInOrder t → AreInOrder (with_baseline name n t)
    with_baseline_in_order t order = record { cells = order.cells; calls = order.calls; stacks = order.stacks }
