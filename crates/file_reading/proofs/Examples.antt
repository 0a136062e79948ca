-- The definitions, computed on examples.
use Rattle.std.proofs.Common.{◌≡◌, [], ◌∷◌, codes, refl}
use Rattle.std.specs.Fmt.{digits}
use Rattle.cg_formulas.specs.EventLines.{event_of, formula_of, term_of}
use Rattle.cg_text.specs.Fields.{line_text}
use Rattle.cg_text.specs.Kinds.{kind_of}
use Rattle.cg_text.specs.Names.{name_of}
use Rattle.cg_text.specs.Numbers.{number_of, amount_of}
use Rattle.cg_text.specs.Readings.{reading_of}
use Rattle.cg_text.specs.Subpositions.{subpos_of}
use Rattle.profile_records.specs.Columns.{added}
use Rattle.file_reading.specs.Totals.{total_of_file}

-- ---- sums

costs-widened : added (1 ∷ []) (2 ∷ 3 ∷ []) ≡ 3 ∷ 3 ∷ []
costs-widened = refl

costs-missing : added (1 ∷ 4 ∷ []) (2 ∷ []) ≡ 3 ∷ 4 ∷ []
costs-missing = refl

-- ---- files

total-three_events : total_of_file (codes "# callgrind format\nevents: Cycles Instructions Flops\nfl=file.f\nfn=main\n15 90 14 2\n16 20 12\n")
    ≡ codes "Cycles 110\nInstructions 26\nFlops 2\n"
unfolding reading_of line_text kind_of name_of number_of amount_of subpos_of digits
total-three_events = refl

-- the cost of a call is no self cost
total-relative_after_call : total_of_file (codes "events: Ir\nfl=a.c\nfn=main\n10 5\ncfn=(4) g\ncalls=2 30\n+2 7\n+1 1\nfn=(4)\n* 4\n") ≡ codes "Ir 10\n"
unfolding reading_of line_text kind_of name_of number_of amount_of subpos_of digits
total-relative_after_call = refl

-- a sum of 2^63
total-large : total_of_file (codes "events: Ir\n1 9223372036854775807\n1 1\n") ≡ codes "Ir 9223372036854775808\n"
unfolding reading_of line_text kind_of name_of number_of amount_of subpos_of digits
total-large = refl

total-no_records : total_of_file (codes "events: Ir\n") ≡ codes "Ir 0\n"
unfolding reading_of line_text kind_of name_of number_of amount_of subpos_of digits
total-no_records = refl

total-nothing : total_of_file [] ≡ []
unfolding reading_of line_text kind_of name_of number_of amount_of subpos_of digits
total-nothing = refl

total-event_twice : total_of_file (codes "events: Ir Ir\n") ≡ codes "refused: line 1: F7 event twice\n"
unfolding reading_of line_text kind_of name_of number_of amount_of subpos_of digits
total-event_twice = refl

-- the first fault stands at the `calls=` line, which is known by what follows it
total-call_without_cost : total_of_file (codes "events: Ir\nfn=f\ncalls=1 50\n\nfn=(9)\n") ≡ codes "refused: line 3: F15 call without cost\n"
unfolding reading_of line_text kind_of name_of number_of amount_of subpos_of digits
total-call_without_cost = refl

-- the first fault of the formulas, though every line is sound by itself
total-formula_unknown : total_of_file (codes "event: Est = Ir + 10 L1m + 100 * LLm : Estimate\nevents: Ir L1m LLm\nfn=f\n1 1000 20 3\nevent: Bad = Ir + Xx\n") ≡ codes "refused: line 5: F17 formula unknown\n"
unfolding reading_of line_text kind_of name_of number_of amount_of subpos_of digits event_of formula_of term_of
total-formula_unknown = refl
