-- Rows of calls and their lines.
use Rattle.std.proofs.Common.{◌≡◌, ◌≤◌, ℕ, suc, ◌+◌, ◌<◌, nat_lt, if◌then◌else◌, Bool, true, false, List, [], ◌∷◌, ◌++◌, map, length, Some, None, refl, sym, ap, ap₂, subst, ◌∙◌, append-nil, append_assoc, add-zero, arith}
use Rattle.std.proofs.lemmas.Bool.Decides.{nat_tests}
use Rattle.std.proofs.lemmas.Grind.{flat_map-append, fold-append}
use Rattle.std.proofs.lemmas.List.{map-append}
use Rattle.cost_rows.proofs.AboveLemmas.{map-above}
use Rattle.cost_rows.specs.declared.rows.ArcRow.{ArcRow}
use Rattle.plain_tables.specs.Tables.{StoredCall as Call}
use Rattle.run_stores.specs.Walks.{CallsFoldTo, part_numbers, part_of, parts_of}
use Rattle.run_lists.specs.HeldCalls.{HasTakenCalls, lines_from, part_line, row_of}
use Rattle.prof_store.specs.declared.table_rows.StoredCall.{StoredCall}
use Rattle.prof_store.specs.Lines.{call_row}
use Rattle.plain_tables.proofs.Lists.{all-append}

-- ---- costs and the lines of their parts

pub lines_more : (first : Call) (part : ℕ) (costs : List ℕ) (cost : ℕ) → lines_from first part (costs ++ cost ∷ []) ≡ lines_from first part costs ++ (if nat_lt 0 cost then part_line first (part + length costs) cost ∷ [] else [])
lines_more first part [] cost = ap (λ n. if nat_lt 0 cost then part_line first n cost ∷ [] else []) (sym (add-zero part))
lines_more first part (c ∷ costs) cost = go (nat_lt 0 c) (lines_more first (suc part) costs cost ∙ ap (λ n. lines_from first (suc part) costs ++ (if nat_lt 0 cost then part_line first n cost ∷ [] else [])) here)
  where
    here : suc part + length costs ≡ part + suc (length costs)
    here = omega arith

    go : (b : Bool) → lines_from first (suc part) (costs ++ cost ∷ []) ≡ lines_from first (suc part) costs ++ (if nat_lt 0 cost then part_line first (part + suc (length costs)) cost ∷ [] else [])
        → (if b then part_line first part c ∷ lines_from first (suc part) (costs ++ cost ∷ []) else lines_from first (suc part) (costs ++ cost ∷ []))
        ≡ (if b then part_line first part c ∷ lines_from first (suc part) costs else lines_from first (suc part) costs) ++ (if nat_lt 0 cost then part_line first (part + suc (length costs)) cost ∷ [] else [])
    go true more = ap (λ l. part_line first part c ∷ l) more
    go false more = more

pub zero_more : (first : Call) (part : ℕ) (costs : List ℕ) → lines_from first part (costs ++ 0 ∷ []) ≡ lines_from first part costs
zero_more first part costs = lines_more first part costs 0 ∙ append-nil (lines_from first part costs)

positive : (n : ℕ) → 0 < n → nat_lt 0 n ≡ true
positive n h = grind (arith, nat_tests)

-- a part is added behind costs that reach up to its column
pub part_more : (first : Call) (costs full : List ℕ) (part sum cost : ℕ) → lines_from first 1 full ≡ lines_from first 1 costs → part ≡ length full + 1 → cost ≡ sum → 0 < sum
    → lines_from first 1 (full ++ cost ∷ []) ≡ lines_from first 1 costs ++ part_line first part sum ∷ []
part_more first costs full part sum cost same at is above =
    let here : 1 + length full ≡ part = omega (arith, at) in
    lines_more first 1 full cost ∙ ap₂ ◌++◌ same (ap₂ (λ n c. if nat_lt 0 c then part_line first n c ∷ [] else []) here is ∙ ap (λ b. if b then part_line first part sum ∷ [] else []) (positive sum above))

-- the lines of a row show its parts
pub row_parts : (first : Call) (costs : List ℕ) → first.part ≡ 0 → map part_numbers (first ∷ lines_from first 1 costs) ≡ parts_of (row_of first costs)
row_parts first costs zero = ap₂ (λ n l. part_of (row_of first costs) n first.sum ∷ l) zero (map-above part_numbers (part_line first) (part_of (row_of first costs)) (λ k n. refl) 1 costs)

-- ---- lines that are taken

module _ {M : Type 0} (events : ℕ) (step : M → ArcRow ℕ (List ℕ) → M) (start : M) where
  pub no_line : HasTakenCalls events step start start None [] []
  no_line = record { handed = []; came_to = record { rows = []; parts_are = refl; long = tt; comes = refl }; waiting = []; are_waiting = (refl, refl); lines_are = refl }

  -- a part of the row that waits
  pub part_taken : (came : M) (first line : StoredCall) (costs more : List ℕ) (lines : List Call) → HasTakenCalls events step start came (Some first) costs lines → call_row line ≡ part_line (call_row first) line.part line.sum
      → lines_from (call_row first) 1 more ≡ lines_from (call_row first) 1 costs ++ part_line (call_row first) line.part line.sum ∷ [] → length more ≤ events → HasTakenCalls events step start came (Some first) more (lines ++ call_row line ∷ [])
  part_taken came first line costs more lines was same grown within = record {
    handed = was.handed;
    came_to = was.came_to;
    waiting = was.waiting ++ call_row line ∷ [];
    are_waiting = (
      was.are_waiting.0,
      within,
      ap (λ l. l ++ call_row line ∷ []) was.are_waiting.2 ∙ ap (λ l. call_row first ∷ l) (ap (λ p. lines_from (call_row first) 1 costs ++ p ∷ []) same ∙ sym grown),
    );
    lines_are = ap (λ l. l ++ call_row line ∷ []) was.lines_are ∙ append_assoc was.handed was.waiting (call_row line ∷ []);
  }

  -- the count of the next row, where none waits
  pub row_begun : (came : M) (first : StoredCall) (costs : List ℕ) (lines : List Call) → HasTakenCalls events step start came None costs lines → first.part ≡ 0 → HasTakenCalls events step start came (Some first) costs (lines ++ call_row first ∷ [])
  row_begun came first costs lines was counts =
      let none : length costs ≤ events = subst (λ (l : List ℕ). length l ≤ events) (sym was.are_waiting.0) (omega arith) in
      record {
        handed = was.handed;
        came_to = was.came_to;
        waiting = call_row first ∷ [];
        are_waiting = (counts, none, ap (λ l. call_row first ∷ lines_from (call_row first) 1 l) (sym was.are_waiting.0));
        lines_are = ap (λ l. l ++ call_row first ∷ []) (was.lines_are ∙ ap (λ l. was.handed ++ l) was.are_waiting.1 ∙ append-nil was.handed);
      }

  -- the row that waits is handed on
  pub row_handed : (came new : M) (first : StoredCall) (costs full : List ℕ) (row : ArcRow ℕ (List ℕ)) (lines : List Call) → HasTakenCalls events step start came (Some first) costs lines
      → ((part : ℕ) → lines_from (call_row first) part full ≡ lines_from (call_row first) part costs) → (length costs ≤ events → length full ≡ events) → row ≡ row_of (call_row first) full → new ≡ step came row
      → HasTakenCalls events step start new None [] lines
  row_handed came new first costs full row lines was same long says steps =
      let more = call_row first ∷ lines_from (call_row first) 1 full in
      let is_more : was.waiting ≡ more = was.are_waiting.2 ∙ ap (λ l. call_row first ∷ l) (sym (same 1)) in
      record {
        handed = was.handed ++ more;
        came_to = record {
          rows = was.came_to.rows ++ row ∷ [];
          parts_are = map-append part_numbers was.handed more ∙ ap₂ ◌++◌ was.came_to.parts_are (row_parts (call_row first) full was.are_waiting.0 ∙ ap parts_of (sym says) ∙ sym (append-nil (parts_of row)))
              ∙ sym (flat_map-append parts_of was.came_to.rows (row ∷ []));
          long = all-append _ was.came_to.rows (row ∷ []) was.came_to.long (ap (λ (x : ArcRow ℕ (List ℕ)). length x.costs) says ∙ long was.are_waiting.1, tt);
          comes = steps ∙ ap (λ m. step m row) was.came_to.comes ∙ sym (fold-append step start was.came_to.rows (row ∷ []));
        };
        waiting = [];
        are_waiting = (refl, refl);
        lines_are = was.lines_are ∙ ap (λ l. was.handed ++ l) is_more ∙ sym (append-nil (was.handed ++ more));
      }

  -- none waits: all rows were handed on
  pub all_handed : (came : M) (costs : List ℕ) (lines : List Call) → HasTakenCalls events step start came None costs lines → CallsFoldTo events step start came lines
  all_handed came costs lines was = subst (CallsFoldTo events step start came) (sym (was.lines_are ∙ ap (λ l. was.handed ++ l) was.are_waiting.1 ∙ append-nil was.handed)) was.came_to
