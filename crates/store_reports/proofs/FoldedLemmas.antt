-- Stacks with their counts over runs, and what is answered of them.
use Rattle.std.proofs.Common.{◌≡◌, ℕ, ◌+◌, List, [], ◌∷◌, ◌++◌, fold, Result, Ok, Err, Bool, refl, sym, ap, ap₂, ◌∙◌, arith}
use Rattle.std.specs.Prelude.{flat_map}
use Rattle.std.specs.List.{AllByRecursion}
use Rattle.std.proofs.lemmas.Grind.{fold-append}
use Rattle.plain_tables.specs.Lists.{Has}
use Rattle.report_texts.specs.Folded.{folded_of_rows, folded_text, with_stack}
use Rattle.cost_exports.proofs.StackLemmas.{same_folded}
use Rattle.report_texts.specs.Inclusive.{SameStacks}
use Rattle.cost_rows.specs.StackSums.{frames_sum}
use Rattle.cost_rows.specs.WalkSums.{stacks_count}
use Rattle.cost_rows.specs.declared.rows.StackRow.{StackRow}
use Rattle.run_stores.specs.Book.{stacks_held}
use Rattle.plain_tables.specs.Tables.{Tables}
use Rattle.profile_records.specs.Stacks.{Seen}
use Rattle.histories.specs.Exports.{file_stacks, folded_of_files}
use Rattle.histories.specs.History.{History, File, held}
use Rattle.histories.specs.Legal.{expected_of_query, first_or}
use Rattle.histories.specs.Selections.{numbers_of, selected}
use Rattle.histories.specs.Representation.{TablesRepresent}
use Rattle.histories.specs.declared.answers.Answer.{Answer}
use Rattle.histories.specs.declared.answers.Answer.TheVariants.{Text, Refused}
use Rattle.requests.specs.declared.queries.Query.TheVariants as queries
use Rattle.histories.specs.declared.answers.Refusal.{Refusal}
use Rattle.requests.specs.Plain.{Selection}
use Rattle.histories.proofs.Runs.{tells_rows}
use Rattle.histories.specs.FromTables.{AnswersFor}
use Rattle.selected_runs.specs.Added.{AreAdded}
use Rattle.selected_runs.specs.Selected.{AreSelected, AreSelectedIn}
use Rattle.selected_runs.proofs.RunLemmas.{selected_held}
use Rattle.selected_runs.proofs.SelectLemmas.{selected_told}
use Rattle.store_reports.specs.FoldedRuns.{IsFolded, folded_over, stacks_from, stacks_over}

-- ---- the stacks of runs, one run after another

pub stacks_added : {M : Type 0} (sums : M → List (List ℕ × ℕ)) (t : Tables) (numbers : List ℕ) (before after : M) → AreAdded (λ number old new. sums new ≡ stacks_from t (sums old) number) numbers before after
    → sums after ≡ fold with_stack (sums before) (stacks_over t numbers)
stacks_added sums t [] before after all = ap sums all
stacks_added sums t (number ∷ numbers) before after all =
    stacks_added sums t numbers all.0 after all.2 ∙ ap (λ s. fold with_stack s (stacks_over t numbers)) all.1
    ∙ sym (fold-append with_stack (sums before) (stacks_held number t) (stacks_over t numbers))

-- ---- from runs to files

count_append : (test : List ℕ → Bool) (xs ys : List (StackRow (List ℕ))) → stacks_count test (xs ++ ys) ≡ stacks_count test xs + stacks_count test ys
count_append test [] ys = let n : ℕ = stacks_count test ys in let e : n ≡ 0 + n = omega arith in e
count_append test (x ∷ xs) ys = let rest = count_append test xs ys in omega (arith, rest)

frames_append : (test : List ℕ → Bool) (xs ys : List Seen) → frames_sum test (xs ++ ys) ≡ frames_sum test xs + frames_sum test ys
frames_append test [] ys = let n : ℕ = frames_sum test ys in let e : n ≡ 0 + n = omega arith in e
frames_append test (x ∷ xs) ys = let rest = frames_append test xs ys in omega (arith, rest)

same_stacks : (h : History) (t : Tables) → TablesRepresent h t → (files : List File) → AllByRecursion (Has (held h)) files → SameStacks (stacks_over t (numbers_of files)) (flat_map file_stacks files)
same_stacks h t represent [] all = λ test. refl
same_stacks h t represent (f ∷ files) all = λ test.
    count_append test (stacks_held f.number t) (stacks_over t (numbers_of files))
    ∙ ap₂ ◌+◌ ((tells_rows h t represent f all.0).stacks test) (same_stacks h t represent files all.1 test)
    ∙ sym (frames_append test (file_stacks f) (flat_map file_stacks files))

-- ---- the answers

expected_of : (h : History) (t : Tables) (s : Selection) (numbers text : List ℕ) → TablesRepresent h t → AreSelected h s (Ok numbers) → text ≡ folded_over t numbers → Text text ≡ expected_of_query h (queries.Folded s)
expected_of h t s numbers text represent found is =
    let files = selected h s in
    let stacks : folded_of_rows (stacks_over t numbers) ≡ _ =
    ap (λ ns. folded_of_rows (stacks_over t ns)) found.1 ∙ same_folded (stacks_over t (numbers_of files)) (flat_map file_stacks files) (same_stacks h t represent files (selected_held h s)) in
    ap Text (is ∙ ap folded_text stacks)
    ∙ ap (λ missing. first_or (missing ∷ []) (Text (folded_of_files files))) (sym found.0)

refused_of : (h : History) (s : Selection) (refusal : Refusal) → AreSelected h s (Err refusal) → Refused refusal ≡ expected_of_query h (queries.Folded s)
refused_of h s refusal found = ap (λ missing. first_or (missing ∷ []) (Text (folded_of_files (selected h s)))) (sym found)

expected_by : (h : History) (t : Tables) (s : Selection) (found : Result (List ℕ) Refusal) (answer : Answer) → TablesRepresent h t → AreSelectedIn t s found
    → AnswersFor (λ numbers given. given ≡ Text (folded_over t numbers)) found answer → answer ≡ expected_of_query h (queries.Folded s)
expected_by h t s (Ok numbers) answer represent found is = is ∙ expected_of h t s numbers (folded_over t numbers) represent (selected_told h t s (Ok numbers) represent found) refl
expected_by h t s (Err refusal) answer represent found is = is ∙ refused_of h s refusal (selected_told h t s (Err refusal) represent found)

pub folded_is_expected : (s : Selection) (h : History) (t : Tables) (answer : Answer) → TablesRepresent h t → IsFolded t s answer → answer ≡ expected_of_query h (queries.Folded s)
folded_is_expected s h t answer represent is = expected_by h t s is.found answer represent is.is_found is.answer_is
