-- Rows of stacks and stacks that were seen, told by their counts for every test.
use Rattle.std.proofs.Common.{◌≡◌, ℕ, ◌+◌, Bool, if◌then◌else◌, List, [], ◌∷◌, map, fold, refl, sym, ap, ◌∙◌}
use Rattle.std.proofs.lemmas.Map.Lookups.{exact_bytes}
use Rattle.profile_records.specs.Stacks.{Seen}
use Rattle.cost_rows.specs.Merging.{sum_where, TellsApart}
use Rattle.cost_rows.specs.Stacks.{bytes_cmp}
use Rattle.cost_rows.specs.StackSums.{frames_sum}
use Rattle.cost_rows.specs.WalkSums.{stacks_count}
use Rattle.cost_rows.specs.declared.rows.StackRow.{StackRow}
use Rattle.cost_rows.proofs.StacksLemmas.{bytes_cmp-total}
use Rattle.report_texts.specs.Inclusive.{SameStacks}
use Rattle.report_texts.specs.Amounts.{with_amount}
use Rattle.report_texts.specs.Folded.{counts_of, folded_of_rows, folded_of_stacks, with_stack}
use Rattle.cost_exports.proofs.AmountLemmas.{same_amounts}

pub bytes_apart : TellsApart bytes_cmp
bytes_apart = exact_bytes

abbrev counts_in : List (StackRow (List ℕ)) → List (List ℕ × ℕ)
counts_in rows = map (λ (r : StackRow (List ℕ)). (r.stack, r.count)) rows

rows_added : (sums : List (List ℕ × ℕ)) (rows : List (StackRow (List ℕ))) → fold with_stack sums rows ≡ fold (λ s (a : List ℕ × ℕ). with_amount bytes_cmp s a.0 a.1) sums (counts_in rows)
rows_added sums [] = refl
rows_added sums (r ∷ rows) = rows_added (with_stack sums r) rows

module _ (test : List ℕ → Bool) where
  rows_where : (rows : List (StackRow (List ℕ))) → sum_where test (λ n. n) (counts_in rows) ≡ stacks_count test rows
  rows_where [] = refl
  rows_where (r ∷ rows) = ap (λ n. (if test r.stack then r.count else 0) + n) (rows_where rows)

  seen_where : (seen : List Seen) → sum_where test (λ n. n) (counts_of seen) ≡ frames_sum test seen
  seen_where [] = refl
  seen_where (s ∷ seen) = ap (λ n. (if test s.stack.frames then s.stack.count else 0) + n) (seen_where seen)

pub same_folded : (rows : List (StackRow (List ℕ))) (seen : List Seen) → SameStacks rows seen → folded_of_rows rows ≡ folded_of_stacks seen
same_folded rows seen same =
    rows_added [] rows
    ∙ same_amounts bytes_cmp-total bytes_apart (counts_in rows) (counts_of seen) (λ test. rows_where test rows ∙ same test ∙ sym (seen_where test seen))
