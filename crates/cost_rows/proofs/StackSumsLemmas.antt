-- The rows of stacks sum to what the stacks count.
use Rattle.std.proofs.Common.{◌≡◌, ℕ, ◌+◌, suc, Bool, true, false, List, [], ◌∷◌, fold, slice_index, if◌then◌else◌, refl, sym, ap, ◌∙◌, add_assoc}
use Rattle.std.proofs.Math.Nat.{add-zero, zero-add}
use Rattle.profile_records.specs.Stacks.{Seen}
use Rattle.cost_rows.specs.Content.{Content, empty, leaf_cost, with_stack}
use Rattle.cost_rows.specs.Stacks.{counts_added}
use Rattle.cost_rows.specs.Sums.{Spot, spot_of, cells_where, stacks_where}
use Rattle.cost_rows.specs.StackSums.{leaf_sum, frames_sum, content_of_stacks, SumsToStacks}
use Rattle.std.proofs.lemmas.Map.Lookups.{exact_bytes}
use Rattle.cost_rows.proofs.MergeLemmas.{sum-merge}
use Rattle.cost_rows.specs.Held.{AreHeld}
use Rattle.cost_rows.proofs.SumsLemmas.{held-cost, cells-cost, none_held}

held-stack : (c : Content) (s : Seen) → AreHeld c → AreHeld (with_stack c s)
held-stack c s held = let is = held-cost c (leaf_cost s) held in record { cells = is.cells; calls = is.calls }

held-all : (seen : List Seen) (c : Content) → AreHeld c → AreHeld (fold with_stack c seen)
held-all [] c held = held
held-all (s ∷ seen) c held = held-all seen (with_stack c s) (held-stack c s held)

-- each number of the rows of a folded file represents a name
pub held-stacks : (seen : List Seen) → AreHeld (content_of_stacks seen)
held-stacks seen = held-all seen empty none_held

-- what column k of these stacks sums to
abbrev column_sum : (Spot → Bool) → ℕ → List Seen → ℕ
column_sum passes k [] = 0
column_sum passes k (s ∷ seen) = (if passes (spot_of (leaf_cost s)) then slice_index (leaf_cost s).costs k else 0) + column_sum passes k seen

law-leaves : (passes : Spot → Bool) (k : ℕ) (seen : List Seen) (c : Content) → AreHeld c → cells_where passes k (fold with_stack c seen) ≡ cells_where passes k c + column_sum passes k seen
law-leaves passes k [] c held = sym (add-zero _)
law-leaves passes k (s ∷ seen) c held =
    law-leaves passes k seen (with_stack c s) (held-stack c s held)
    ∙ ap (λ n. n + column_sum passes k seen) (cells-cost passes k c (leaf_cost s) held)
    ∙ add_assoc (cells_where passes k c) (if passes (spot_of (leaf_cost s)) then slice_index (leaf_cost s).costs k else 0) (column_sum passes k seen)

column-first : (passes : Spot → Bool) (seen : List Seen) → column_sum passes 0 seen ≡ leaf_sum passes seen
column-first passes [] = refl
column-first passes (s ∷ seen) = ap (λ n. (if passes (spot_of (leaf_cost s)) then s.stack.count else 0) + n) (column-first passes seen)

abbrev neither : Bool → ℕ
neither b = if b then 0 else 0

nothing_either_way : (b : Bool) → neither b ≡ 0
nothing_either_way true = refl
nothing_either_way false = refl

column-further : (passes : Spot → Bool) (k : ℕ) (seen : List Seen) → column_sum passes (suc k) seen ≡ 0
column-further passes k [] = refl
column-further passes k (s ∷ seen) =
    ap (λ n. n + column_sum passes (suc k) seen) (nothing_either_way (passes (spot_of (leaf_cost s)))) ∙ zero-add (column_sum passes (suc k) seen) ∙ column-further passes k seen

law-frames : (passes : List ℕ → Bool) (seen : List Seen) (c : Content) → stacks_where passes (fold with_stack c seen) ≡ stacks_where passes c + frames_sum passes seen
law-frames passes [] c = sym (add-zero _)
law-frames passes (s ∷ seen) c =
    law-frames passes seen (with_stack c s)
    ∙ ap (λ n. n + frames_sum passes seen) (sum-merge exact_bytes counts_added passes (λ count. count) (λ x y. refl) c.stacks s.stack.frames s.stack.count)
    ∙ add_assoc (stacks_where passes c) (if passes s.stack.frames then s.stack.count else 0) (frames_sum passes seen)

no_calls : (seen : List Seen) (c : Content) → (fold with_stack c seen).calls ≡ c.calls
no_calls [] c = refl
no_calls (s ∷ seen) c = no_calls seen (with_stack c s)

pub sums-stacks : (seen : List Seen) → SumsToStacks (content_of_stacks seen) seen
sums-stacks seen = record {
  cells = λ passes. law-leaves passes 0 seen empty none_held ∙ zero-add (column_sum passes 0 seen) ∙ column-first passes seen;
  further = λ passes k. law-leaves passes (suc k) seen empty none_held ∙ zero-add (column_sum passes (suc k) seen) ∙ column-further passes k seen;
  stacks = λ passes. law-frames passes seen empty ∙ zero-add (frames_sum passes seen);
  calls = no_calls seen empty;
}
