-- A text that may go on: its whole lines, and what has come of the next.
use Rattle.std.specs.Prelude.{ℕ, List, [], ◌∷◌, if◌then◌else◌}
use Rattle.cg_text.specs.Lines.{is_line_feed}

-- whole lines, and the bytes after the last of them
pub record Cut : Type 0 where
  pub lines : List (List ℕ)
  pub rest : List ℕ

abbrev pub in_front : ℕ → List (List ℕ) → List ℕ → Cut
in_front b [] rest = record { lines = []; rest = b ∷ rest }
in_front b (l ∷ ls) rest = record { lines = (b ∷ l) ∷ ls; rest = rest }

-- the lines that end in a line feed, and the bytes after the last one
abbrev pub cut : List ℕ → Cut
cut [] = record { lines = []; rest = [] }
cut (b ∷ bs) = if is_line_feed b then record { lines = [] ∷ (cut bs).lines; rest = (cut bs).rest } else in_front b (cut bs).lines (cut bs).rest
