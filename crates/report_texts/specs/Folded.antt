-- Stacks with their counts, as folded text.
use Rattle.std.specs.Prelude.{ℕ, List, [], ◌∷◌, ◌++◌, fold, flat_map, codes}
use Rattle.std.specs.Fmt.{decimal}
use Rattle.cost_rows.specs.Stacks.{bytes_cmp}
use Rattle.cost_rows.specs.declared.rows.StackRow.{StackRow}
use Rattle.profile_records.specs.Stacks.{Seen}
use Rattle.report_texts.specs.Amounts.{amounts_by, with_amount}

-- the stacks that were seen, each with its count
abbrev pub counts_of : List Seen → List (List ℕ × ℕ)
counts_of [] = []
counts_of (s ∷ seen) = (s.stack.frames, s.stack.count) ∷ counts_of seen

-- straight from stacks: the sums above 0, by their bytes
abbrev pub folded_of_stacks : List Seen → List (List ℕ × ℕ)
folded_of_stacks seen = amounts_by bytes_cmp (counts_of seen)

-- ---- the text

-- the bytes of a stack as they are, and its count
abbrev pub stack_text : List ℕ × ℕ → List ℕ
stack_text e = e.0 ++ (codes " " ++ decimal e.1)

abbrev pub stack_line : List ℕ × ℕ → List ℕ
stack_line e = stack_text e ++ codes "\n"

abbrev pub folded_text : List (List ℕ × ℕ) → List ℕ
folded_text sums = flat_map stack_line sums

-- ---- rows that are added one after another

abbrev pub with_stack : List (List ℕ × ℕ) → StackRow (List ℕ) → List (List ℕ × ℕ)
with_stack sums row = with_amount bytes_cmp sums row.stack row.count

abbrev pub folded_of_rows : List (StackRow (List ℕ)) → List (List ℕ × ℕ)
folded_of_rows rows = fold with_stack [] rows
