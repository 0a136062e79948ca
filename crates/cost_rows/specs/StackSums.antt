-- What the stacks of a folded file sum to, straight from the stacks.
use Rattle.std.specs.Prelude.{◌≡◌, ℕ, suc, ◌+◌, Bool, List, [], ◌∷◌, fold, if◌then◌else◌}
use Rattle.profile_records.specs.Stacks.{Seen}
use Rattle.cost_rows.specs.Content.{Content, empty, leaf_cost, with_stack}
use Rattle.cost_rows.specs.Sums.{Spot, spot_of, cells_where, stacks_where}

-- the sum of the counts of the stacks whose running functions stand at places that pass
abbrev pub leaf_sum : (Spot → Bool) → List Seen → ℕ
leaf_sum passes [] = 0
leaf_sum passes (s ∷ seen) = (if passes (spot_of (leaf_cost s)) then s.stack.count else 0) + leaf_sum passes seen

-- the sum of the counts of the stacks whose frames pass as bytes
abbrev pub frames_sum : (List ℕ → Bool) → List Seen → ℕ
frames_sum passes [] = 0
frames_sum passes (s ∷ seen) = (if passes s.stack.frames then s.stack.count else 0) + frames_sum passes seen

-- the rows that stacks make
abbrev pub content_of_stacks : List Seen → Content
content_of_stacks seen = fold with_stack empty seen

-- rows that sum to what the stacks that were seen count
pub record SumsToStacks (c : Content) (seen : List Seen) : Type 0 where
  -- the cells' first column is what the functions that were running count, for every test of places
  pub cells : (passes : Spot → Bool) → cells_where passes 0 c ≡ leaf_sum passes seen
  -- they have no other column
  pub further : (passes : Spot → Bool) (k : ℕ) → cells_where passes (suc k) c ≡ 0
  -- the stacks are what they count themselves, for every test of their frames
  pub stacks : (passes : List ℕ → Bool) → stacks_where passes c ≡ frames_sum passes seen
  -- and there are no calls
  pub calls : c.calls ≡ []
