-- The printed total is that of the file.
use Rattle.std.proofs.Common.{◌≡◌, ℕ, ◌+◌, List, [], ◌∷◌, ◌++◌, fold, slice_index, Some, None, sym, ◌∙◌, ap, refl, zero-add}
use Rattle.cg_text.specs.Errors.{error_text}
use Rattle.cg_text.specs.declared.faults.Fault as faults
use Rattle.cg_text.specs.declared.faults.ReadEnd.TheVariants.{Fault}
use Rattle.callgrind_reader.specs.Files.{records_of_file, fault_of_file, events_of_file}
use Rattle.file_reading.specs.Sums.{self_sum, add_record}
use Rattle.file_reading.specs.TotalLines.{total_line, total_lines, refused_line}
use Rattle.file_reading.specs.Totals.{total_or_fault, total_of_file}
use Rattle.file_reading.proofs.SumsLemmas.{slice_index-fold}

-- equal sums have equal lines
total_lines-same : (f g : ℕ → ℕ) (k : ℕ) (events : List (List ℕ)) → ((k : ℕ) → f k ≡ g k) → total_lines f k events ≡ total_lines g k events
total_lines-same f g k [] same = refl
total_lines-same f g k (event ∷ events) same =
    ap (λ n. total_line event n ++ total_lines f (k + 1) events) (same k)
    ∙ ap (λ ls. total_line event (g k) ++ ls) (total_lines-same f g (k + 1) events same)

pub total-accepted : (text : List ℕ) (events : List (List ℕ)) (sums : List ℕ) → fault_of_file text ≡ None → events ≡ events_of_file text → sums ≡ fold add_record [] (records_of_file text) → total_lines (λ k. slice_index sums k) 0 events ≡ total_of_file text
total-accepted text events sums none named summed =
    ap (λ es. total_lines (λ k. slice_index sums k) 0 es) named
    ∙ total_lines-same (λ k. slice_index sums k) (λ k. self_sum k (records_of_file text)) 0 (events_of_file text)
    (λ k. ap (λ xs. slice_index xs k) summed ∙ slice_index-fold (records_of_file text) [] k ∙ zero-add (self_sum k (records_of_file text)))
    ∙ sym (ap (λ f. total_or_fault f (events_of_file text) (records_of_file text)) none)

pub total-refused : (text : List ℕ) (fault : faults.Fault) (line : ℕ) → fault_of_file text ≡ Some (fault, line) → refused_line (error_text (Fault fault line)) ≡ total_of_file text
total-refused text fault line first = sym (ap (λ f. total_or_fault f (events_of_file text) (records_of_file text)) first)
