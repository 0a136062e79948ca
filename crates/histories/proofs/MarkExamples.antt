-- The mark, computed on a history: a file that the first grammar took in, and the second does not.
use Rattle.std.proofs.Common.{◌≡◌, ◌==◌, ℕ, List, [], ◌∷◌, codes, Some, refl}
use Rattle.sha2.specs.Sha256.{sha256, first_words, schedule, rounds, compress, hash_after, digest_bytes}
use Rattle.cg_text.specs.Fields.{line_text}
use Rattle.cg_text.specs.Kinds.{kind_of}
use Rattle.cg_text.specs.Names.{name_of}
use Rattle.cg_text.specs.Numbers.{number_of, amount_of}
use Rattle.cg_text.specs.Readings.{reading_of}
use Rattle.cg_text.specs.Subpositions.{subpos_of}
use Rattle.cg_text.specs.declared.faults.Fault.TheVariants.{BadNumber}
use Rattle.callgrind_reader.specs.Grammars.{Grammar, First, Second}
use Rattle.cost_rows.specs.Sums.{self_sum}
use Rattle.byte_io.specs.Outcomes.{Gave}
use Rattle.histories.specs.Files.{records_of}
use Rattle.histories.specs.Formats.{Callgrind}
use Rattle.histories.specs.History.{Command, Import, Remove, Step, History, held}
use Rattle.histories.specs.Legal.{expected_answer}
use Rattle.histories.specs.Marks.{IsMarked}
use Rattle.histories.specs.declared.answers.Answer.{Answer}
use Rattle.histories.specs.declared.answers.Answer.TheVariants.{Run, Held, Done, Refused}
use Rattle.histories.specs.declared.answers.Refusal.TheVariants as reasons
use Rattle.histories.proofs.Examples.{standard}

-- its thread is no number
abbrev unnumbered : List ℕ
unnumbered = codes "events: Ir\nthread: x\n1 1\n"

-- of thread 2, behind a cost of thread 0
abbrev threaded : List ℕ
threaded = codes "events: Ir\n1 1\nthread: 2\n1 10\n"

abbrev import : Grammar → List ℕ → Command
import g bytes = Import (Callgrind g) (codes "a") (Gave bytes ∷ Gave [] ∷ [])

abbrev step : Command → Answer → Step
step command answer = record { command = command; answer = answer }

abbrev old : History
old = step (import First unnumbered) (Run 1) ∷ []

first_takes_it : expected_answer standard [] (import First unnumbered) ≡ Some (Run 1)
unfolding reading_of line_text kind_of name_of number_of amount_of subpos_of
first_takes_it = refl

second_refuses_it : expected_answer standard [] (import Second unnumbered) ≡ Some (Refused (reasons.File BadNumber 2))
unfolding reading_of line_text kind_of name_of number_of amount_of subpos_of
second_refuses_it = refl

-- held is held, by whichever grammar it was read
still_held : expected_answer standard old (import Second unnumbered) ≡ Some (Held 1)
unfolding first_words schedule rounds compress hash_after digest_bytes sha256
still_held = refl

refused_when_removed : expected_answer standard (step (import First unnumbered) (Run 1) ∷ step (Remove 1) Done ∷ []) (import Second unnumbered) ≡ Some (Refused (reasons.File BadNumber 2))
unfolding reading_of line_text kind_of name_of number_of amount_of subpos_of
refused_when_removed = refl

-- a held file keeps the grammar that it was read by
keeps_its_grammar : held (step (import First threaded) (Run 1) ∷ step (import Second unnumbered) (Refused reasons.Full) ∷ [])
    ≡ record { number = 1; format = Callgrind First; label = codes "a"; bytes = threaded } ∷ []
keeps_its_grammar = refl

-- what costs of thread 2 sum to, by each
first_sees_none : self_sum (λ s. s.thread == 2) 0 (records_of (Callgrind First) threaded) ≡ 0
unfolding reading_of line_text kind_of name_of number_of amount_of subpos_of
first_sees_none = refl

first_sees_all : self_sum (λ s. s.thread == 0) 0 (records_of (Callgrind First) threaded) ≡ 11
unfolding reading_of line_text kind_of name_of number_of amount_of subpos_of
first_sees_all = refl

second_sees_them : self_sum (λ s. s.thread == 2) 0 (records_of (Callgrind Second) threaded) ≡ 10
unfolding reading_of line_text kind_of name_of number_of amount_of subpos_of
second_sees_them = refl

marked : IsMarked (step (import First threaded) (Run 1) ∷ step (import Second threaded) (Held 1) ∷ [])
marked = record {
  before = step (import First threaded) (Run 1) ∷ [];
  after = step (import Second threaded) (Held 1) ∷ [];
  is = refl;
  by_first = (refl, tt);
  by_second = (refl, tt);
}
