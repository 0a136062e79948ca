-- Stacks whose folded text is read as these stacks.
use Rattle.std.specs.Prelude.{◌≡◌, ◌≢◌, ℕ, ◌<◌, ◌≤◌, ◌^◌, true, List, [], length, None}
use Rattle.std.specs.List.{AllByRecursion}
use Rattle.cg_text.specs.Lines.{is_one_line}
use Rattle.cg_text.specs.Readings.{line_limit}
use Rattle.folded_reader.specs.Files.{fault_of_file, stacks_of_file}
use Rattle.report_texts.specs.Folded.{counts_of, stack_text}

-- some bytes but no line feed, a count as a line can have it, and a line that is not too long
pub record IsReadable (e : List ℕ × ℕ) : Type 0 where
  pub some : e.0 ≢ []
  pub one_line : is_one_line e.0 ≡ true
  pub above : 0 < e.1
  pub below : e.1 < 2 ^ 63
  pub fits : length (stack_text e) ≤ line_limit

abbrev pub AreReadable : List (List ℕ × ℕ) → Type 0
AreReadable stacks = AllByRecursion IsReadable stacks

-- a text is an accepted folded file of these stacks, one on each line
pub record ReadsBackAs (text : List ℕ) (sums : List (List ℕ × ℕ)) : Type 0 where
  pub accepted : fault_of_file text ≡ None
  pub stacks : counts_of (stacks_of_file text) ≡ sums
