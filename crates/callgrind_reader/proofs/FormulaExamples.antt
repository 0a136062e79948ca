-- `event:` lines, computed on whole files.
use Rattle.std.proofs.Common.{◌≡◌, [], ◌∷◌, codes, refl, Some, None}
use Rattle.cg_formulas.specs.EventLines.{event_of, formula_of, term_of}
use Rattle.cg_text.specs.Fields.{line_text}
use Rattle.cg_text.specs.Kinds.{kind_of}
use Rattle.cg_text.specs.Names.{name_of}
use Rattle.cg_text.specs.Numbers.{number_of, amount_of}
use Rattle.cg_text.specs.Readings.{reading_of}
use Rattle.cg_text.specs.Subpositions.{subpos_of}
use Rattle.cg_text.specs.declared.faults.Fault.TheVariants.{CallWithoutCost, EventTwice, FormulaForm, FormulaTooLarge, FormulaUnknown, NoEvents, UnknownLine}
use Rattle.profile_records.specs.Records.{Own}
use Rattle.callgrind_reader.specs.Files.{records_of_file, fault_of_file, events_of_file, derived_of_file}

-- ---- the worked file: its line stands before `events:`

fault-derived_event : fault_of_file (codes "event: Est = Ir + 10 L1m + 100 * LLm : Estimate\nevents: Ir L1m LLm\nfn=f\n1 1000 20 3\n") ≡ None
unfolding reading_of line_text kind_of name_of number_of amount_of subpos_of event_of formula_of term_of
fault-derived_event = refl

derived-derived_event : derived_of_file (codes "event: Est = Ir + 10 L1m + 100 * LLm : Estimate\nevents: Ir L1m LLm\nfn=f\n1 1000 20 3\n") ≡ (codes "Est", 1 ∷ 10 ∷ 100 ∷ []) ∷ []
unfolding reading_of line_text kind_of name_of number_of amount_of subpos_of event_of formula_of term_of
derived-derived_event = refl

events-derived_event : events_of_file (codes "event: Est = Ir + 10 L1m + 100 * LLm : Estimate\nevents: Ir L1m LLm\nfn=f\n1 1000 20 3\n") ≡ codes "Ir" ∷ codes "L1m" ∷ codes "LLm" ∷ []
unfolding reading_of line_text kind_of name_of number_of amount_of subpos_of event_of formula_of term_of
events-derived_event = refl

fault-derived_event-unknown : fault_of_file (codes "event: Est = Ir + 10 L1m + 100 * LLm : Estimate\nevents: Ir L1m LLm\nfn=f\n1 1000 20 3\nevent: Bad = Ir + Xx\n") ≡ Some (FormulaUnknown, 5)
unfolding reading_of line_text kind_of name_of number_of amount_of subpos_of event_of formula_of term_of
fault-derived_event-unknown = refl

-- a fault of a formula takes no record away
records-derived_event-unknown : records_of_file (codes "event: Est = Ir + 10 L1m + 100 * LLm : Estimate\nevents: Ir L1m LLm\nfn=f\n1 1000 20 3\nevent: Bad = Ir + Xx\n")
    ≡ Own (record { at = 4; object = codes "???"; file = codes "???"; function = codes "f"; line = 1; thread = 0; costs = 1000 ∷ 20 ∷ 3 ∷ [] })
    ∷ []
unfolding reading_of line_text kind_of name_of number_of amount_of subpos_of event_of formula_of term_of
records-derived_event-unknown = refl

-- ---- other names

-- a name without a formula, of an event or of none, defines nothing
fault-name_alone : fault_of_file (codes "events: Ir\nevent: Ir\nevent: Dr : Data reads\nevent: Ir : other = 1\n") ≡ None
unfolding reading_of line_text kind_of name_of number_of amount_of subpos_of event_of formula_of term_of
fault-name_alone = refl

derived-name_alone : derived_of_file (codes "events: Ir\nevent: Ir : Instructions\nevent: Dr\n") ≡ []
unfolding reading_of line_text kind_of name_of number_of amount_of subpos_of event_of formula_of term_of
derived-name_alone = refl

fault-no_events : fault_of_file (codes "event: Ir : Instructions\n") ≡ None
unfolding reading_of line_text kind_of name_of number_of amount_of subpos_of event_of formula_of term_of
fault-no_events = refl

-- ---- over other derived events

fault-thousand_thousands : fault_of_file (codes "events: Ir\nevent: A = 1000 Ir\nevent: B = 1000 A\n") ≡ None
unfolding reading_of line_text kind_of name_of number_of amount_of subpos_of event_of formula_of term_of
fault-thousand_thousands = refl

derived-thousand_thousands : derived_of_file (codes "events: Ir\nevent: A = 1000 Ir\nevent: B = 1000 A\n") ≡ (codes "A", 1000 ∷ []) ∷ (codes "B", 1000000 ∷ []) ∷ []
unfolding reading_of line_text kind_of name_of number_of amount_of subpos_of event_of formula_of term_of
derived-thousand_thousands = refl

fault-one_too_many : fault_of_file (codes "events: Ir\nevent: A = 1000 Ir\nevent: B = 1000 A\nevent: C = B + Ir\n") ≡ Some (FormulaTooLarge, 4)
unfolding reading_of line_text kind_of name_of number_of amount_of subpos_of event_of formula_of term_of
fault-one_too_many = refl

-- a formula counts only on lines before it
fault-defined_later : fault_of_file (codes "events: Ir\nevent: A = B\nevent: B = Ir\n") ≡ Some (FormulaUnknown, 2)
unfolding reading_of line_text kind_of name_of number_of amount_of subpos_of event_of formula_of term_of
fault-defined_later = refl

-- ---- names that stand twice

fault-event_again : fault_of_file (codes "events: Ir\nevent: Ir = 2 Ir\n") ≡ Some (EventTwice, 2)
unfolding reading_of line_text kind_of name_of number_of amount_of subpos_of event_of formula_of term_of
fault-event_again = refl

fault-event_named_later : fault_of_file (codes "event: Ir = 2 Ir\nevents: Ir\n") ≡ Some (EventTwice, 1)
unfolding reading_of line_text kind_of name_of number_of amount_of subpos_of event_of formula_of term_of
fault-event_named_later = refl

fault-same_terms : fault_of_file (codes "event: E = Ir\nevent: E = 1 Ir\nevents: Ir\n") ≡ None
unfolding reading_of line_text kind_of name_of number_of amount_of subpos_of event_of formula_of term_of
fault-same_terms = refl

fault-other_terms : fault_of_file (codes "event: E = Ir + Ir\nevent: E = 2 Ir\nevents: Ir\n") ≡ Some (EventTwice, 2)
unfolding reading_of line_text kind_of name_of number_of amount_of subpos_of event_of formula_of term_of
fault-other_terms = refl

-- ---- a line out of form, found at once

fault-form : fault_of_file (codes "events: Ir\nevent: E = Ir +\n") ≡ Some (FormulaForm, 2)
unfolding reading_of line_text kind_of name_of number_of amount_of subpos_of event_of formula_of term_of
fault-form = refl

fault-form-no_events : fault_of_file (codes "event:\nevents: Ir\n") ≡ Some (FormulaForm, 1)
unfolding reading_of line_text kind_of name_of number_of amount_of subpos_of event_of formula_of term_of
fault-form-no_events = refl

-- before the fault of a formula on an earlier line
fault-form_before_formula : fault_of_file (codes "events: Ir\nevent: E = Q\nevent: = Ir\n") ≡ Some (FormulaForm, 3)
unfolding reading_of line_text kind_of name_of number_of amount_of subpos_of event_of formula_of term_of
fault-form_before_formula = refl

-- ---- faults of formulas come last

fault-line_before_formula : fault_of_file (codes "event: E = Q\n1 1\n") ≡ Some (NoEvents, 2)
unfolding reading_of line_text kind_of name_of number_of amount_of subpos_of event_of formula_of term_of
fault-line_before_formula = refl

fault-later_line : fault_of_file (codes "events: Ir\nevent: E = Q\nx\n") ≡ Some (UnknownLine, 3)
unfolding reading_of line_text kind_of name_of number_of amount_of subpos_of event_of formula_of term_of
fault-later_line = refl

fault-call_left_waiting : fault_of_file (codes "events: Ir\nevent: E = Q\ncalls=1 1\n") ≡ Some (CallWithoutCost, 3)
unfolding reading_of line_text kind_of name_of number_of amount_of subpos_of event_of formula_of term_of
fault-call_left_waiting = refl

-- the first of the formulas by line
fault-first_of_two : fault_of_file (codes "events: Ir\nevent: D = Ir\nevent: E = Q\nevent: D = 2 Ir\n") ≡ Some (FormulaUnknown, 3)
unfolding reading_of line_text kind_of name_of number_of amount_of subpos_of event_of formula_of term_of
fault-first_of_two = refl

fault-no_events_at_all : fault_of_file (codes "event: E = Ir\n") ≡ Some (FormulaUnknown, 1)
unfolding reading_of line_text kind_of name_of number_of amount_of subpos_of event_of formula_of term_of
fault-no_events_at_all = refl

-- ---- how a line ends a wait

fault-event_after_calls : fault_of_file (codes "events: Ir\ncalls=1 1\nevent: Ir\n1 1\n") ≡ Some (CallWithoutCost, 2)
unfolding reading_of line_text kind_of name_of number_of amount_of subpos_of event_of formula_of term_of
fault-event_after_calls = refl
