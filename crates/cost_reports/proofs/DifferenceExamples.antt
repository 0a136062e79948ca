-- The definition of differences on examples.
use Rattle.std.proofs.Common.{◌≡◌, ℕ, List, [], ◌∷◌, codes, refl}
use Rattle.std.specs.Fmt.{digits}
use Rattle.cg_text.specs.Names.{unknown}
use Rattle.cost_rows.specs.declared.keys.Key.{Key}
use Rattle.cost_rows.specs.declared.keys.Key.TheVariants.{File, Function, Line}
use Rattle.report_texts.specs.Costs.{EventRecords, costs_by}
use Rattle.report_texts.specs.Differences.{difference_of, difference_text}
use Rattle.cost_reports.proofs.Examples.{own, manual_calls, four_lines, instr_line}

-- the records of files less those of other files, by one of their events
abbrev text_less : Key → List ℕ → List EventRecords → List EventRecords → List ℕ
text_less key event firsts seconds = difference_text event (difference_of key (costs_by key firsts) (costs_by key seconds))

less_itself : text_less Function (codes "Instructions") (manual_calls ∷ []) (manual_calls ∷ []) ≡ codes "subtract function Instructions\n0 total\n"
unfolding digits
less_itself = refl

abbrev one_cost : EventRecords
one_cost = record { coefs = 1 ∷ []; records = own unknown unknown 1 (1 ∷ []) ∷ [] }

-- keys that stand on one side alone
less_more : text_less Function (codes "Ir") (one_cost ∷ []) (four_lines ∷ []) ≡ codes "subtract function Ir\n-99 total\n-100 ???:f\n1 ???:???\n"
unfolding digits
less_more = refl

and_backwards : text_less Function (codes "Ir") (four_lines ∷ []) (one_cost ∷ []) ≡ codes "subtract function Ir\n99 total\n100 ???:f\n-1 ???:???\n"
unfolding digits
and_backwards = refl

-- a run twice less it once
less_half : text_less File (codes "Instructions") (manual_calls ∷ manual_calls ∷ []) (manual_calls ∷ []) ≡ codes "subtract file Instructions\n820 total\n700 file2.c\n120 file1.c\n"
unfolding digits
less_half = refl

-- differences that are equally great stand in the order of the key, whatever their signs
less_as_much : text_less Line (codes "ticks") (instr_line ∷ []) (record { coefs = 1 ∷ []; records = own unknown (codes "func") 91 (12 ∷ []) ∷ [] } ∷ [])
    ≡ codes "subtract line ticks\n0 total\n6 ???:90\n-6 ???:91\n"
unfolding digits
less_as_much = refl
