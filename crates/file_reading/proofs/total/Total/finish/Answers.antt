use Rattle.std.proofs.Common.{◌≡◌, ℕ, ◌↔◌, IsTrue, true, refl, List, [], fold, Some, None, Err, sym, ◌∙◌, ap, arith, false}
use Rattle.std.proofs.lemmas.Grind.{fold-append}
use Rattle.std.proofs.lemmas.Result.{IfOk-weaker}
use Rattle.cg_text.specs.Errors.{error_text}
use Rattle.cg_text.specs.declared.faults.Fault as faults
use Rattle.cg_text.specs.declared.faults.ReadEnd.{ReadEnd}
use Rattle.cg_text.specs.declared.faults.ReadEnd.TheVariants.{Fault}
use Rattle.callgrind_reader.specs.Files.{records_of_file, fault_of_file}
use Rattle.callgrind_reader.specs.Reads.{Ended}
use Rattle.file_reading.specs.declared.total.TotalText.{TotalText}
use Rattle.file_reading.specs.Readers.{IsTotalOf, IsRefusal}
use Rattle.file_reading.specs.Sums.{add_record}
use Rattle.file_reading.proofs.TotalsLemmas.{total-accepted, total-refused}
use Rattle.file_reading.proofs.total.Total.finish.Goals as goal

-- the total of a text without a fault
whole_exactly : (text : List ℕ) → fault_of_file text ≡ None → IsTrue true ↔ (fault_of_file text ≡ None)
whole_exactly text none = (λ _. none, λ _. refl)

pub returns : goal.returns
returns c = λ text (told, reads, summed).
    let ended = c.in-Ok.ensures.ended text told reads in
    let handed = c.in-Ok.ensures.told text told reads in
    let sums : c.finish.new.sink.sums.items ≡ fold add_record [] (records_of_file text) =
    handed.2 ∙ ap (λ m. fold add_record m handed.0) summed ∙ sym (fold-append add_record [] told handed.0) ∙ ap (fold add_record []) (sym handed.1) in
    record {
      printed = c.in_ok-text.ensures ∙ total-accepted text c.as_slice.result.now c.as_slice-2.result.now ended.0 (c.as_slice.ensures ∙ ended.1.events) (c.as_slice-2.ensures ∙ sums);
      accepted = whole_exactly text ended.0;
    }

-- the file's first fault
first_fault : (end : ReadEnd) (fault : faults.Fault) (line : ℕ) (text : List ℕ) → end ≡ Fault fault line → Ended (Err end) text → fault_of_file text ≡ Some (fault, line)
first_fault end fault line text is ended = rw is at ended

-- a refusal is no acceptance
refused_exactly : (t : TotalText) (text : List ℕ) (fault : faults.Fault × ℕ) → fault_of_file text ≡ Some fault → t.accepted ≡ false → IsTrue t.accepted ↔ (fault_of_file text ≡ None)
refused_exactly t text fault first unaccepted = grind arith

pub returns-in-Err-Fault : goal.returns-in-Err-Fault
returns-in-Err-Fault c = λ text (told, reads, summed).
    let fault = c.in-Err-Fault.fault in
    let line = c.in-Err-Fault.line in
    let first = first_fault c.in-Err-Fault.field-0 fault line text c.in-Err-Fault.field-0-is (c.in-Err-Fault.ensures.ended text told reads) in
    IfOk-weaker c.refused_fault.result (IsRefusal (error_text (Fault fault line))) (IsTotalOf text)
    (λ t is. record { printed = is.printed ∙ total-refused text fault line first; accepted = refused_exactly t text (fault, line) first is.accepted }) c.refused_fault.ensures
