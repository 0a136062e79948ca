-- The definitions of derived events, computed on examples.
use Rattle.std.proofs.Common.{◌≡◌, ℕ, List, [], ◌∷◌, ◌-◌, ◌^◌, codes, refl, Some, None, Ok, Err}
use Rattle.cg_formulas.specs.EventLines.{event_of, formula_of, term_of}
use Rattle.cg_formulas.specs.EventViews.{terms_in}
use Rattle.cg_formulas.specs.Formulas.{Definition, derived_value, formula_fault, derived_of, define}
use Rattle.cg_text.specs.declared.faults.Fault.TheVariants.{EventTwice, FormulaForm, FormulaUnknown, FormulaTooLarge}

-- ---- lines

-- the lines of the format's manual
line-manual : event_of (codes " Sum = Ir + Dr") ≡ Ok (record { name = codes "Sum"; terms = Some ((1, codes "Ir") ∷ (1, codes "Dr") ∷ []) })
unfolding event_of formula_of term_of
line-manual = refl

line-manual_long_name : event_of (codes " Ir : Instruction Fetches") ≡ Ok (record { name = codes "Ir"; terms = None })
unfolding event_of
line-manual_long_name = refl

-- all there is
line-whole : event_of (codes " Est = Ir + 10 L1m + 100 * LLm : Estimate") ≡ Ok (record { name = codes "Est"; terms = Some ((1, codes "Ir") ∷ (10, codes "L1m") ∷ (100, codes "LLm") ∷ []) })
unfolding event_of formula_of term_of
line-whole = refl

line-no_blanks : event_of (codes "Est=Ir+10L1m+100*LLm:Estimate") ≡ Ok (record { name = codes "Est"; terms = Some ((1, codes "Ir") ∷ (10, codes "L1m") ∷ (100, codes "LLm") ∷ []) })
unfolding event_of formula_of term_of
line-no_blanks = refl

-- a name alone, and a name with a long one, have no formula
line-name : event_of (codes " Ir") ≡ Ok (record { name = codes "Ir"; terms = None })
unfolding event_of
line-name = refl

line-long_name : event_of (codes " Ir : Instruction Fetch = all") ≡ Ok (record { name = codes "Ir"; terms = None })
unfolding event_of
line-long_name = refl

-- the name of a line may hold what a name in a formula may not
line-odd_name : event_of (codes "3+a* = b") ≡ Ok (record { name = codes "3+a*"; terms = Some ((1, codes "b") ∷ []) })
unfolding event_of formula_of term_of
line-odd_name = refl

line-empty : event_of [] ≡ Err FormulaForm
unfolding event_of
line-empty = refl

line-no_name : event_of (codes " = Ir") ≡ Err FormulaForm
unfolding event_of
line-no_name = refl

line-two_names : event_of (codes "A B = Ir") ≡ Err FormulaForm
unfolding event_of
line-two_names = refl

line-no_formula : event_of (codes "A = ") ≡ Err FormulaForm
unfolding event_of formula_of term_of
line-no_formula = refl

line-two_equals : event_of (codes "A = B = C") ≡ Err FormulaForm
unfolding event_of formula_of term_of
line-two_equals = refl

-- ---- terms

term-times_one : term_of (codes " 1 Ir\t") ≡ Some (1, codes "Ir")
unfolding term_of
term-times_one = refl

-- in a formula a number has decimal digits only
term-no_hexadecimal : term_of (codes "0x10") ≡ Some (0, codes "x10")
unfolding term_of
term-no_hexadecimal = refl

term-hexadecimal_times : term_of (codes "0x10 Ir") ≡ None
unfolding term_of
term-hexadecimal_times = refl

term-most : term_of (codes "18446744073709551615 A") ≡ Some (2 ^ 64 - 1, codes "A")
unfolding term_of
term-most = refl

term-more_than_most : term_of (codes "99999999999999999999999*A") ≡ Some (2 ^ 64 - 1, codes "A")
unfolding term_of
term-more_than_most = refl

term-number_alone : term_of (codes "10") ≡ None
unfolding term_of
term-number_alone = refl

term-two_stars : term_of (codes "2 ** Ir") ≡ None
unfolding term_of
term-two_stars = refl

term-star_alone : term_of (codes "* Ir") ≡ None
unfolding term_of
term-star_alone = refl

term-two_numbers : term_of (codes "2 3x") ≡ None
unfolding term_of
term-two_numbers = refl

term-minus : term_of (codes "-Ir") ≡ Some (1, codes "-Ir")
unfolding term_of
term-minus = refl

-- ---- formulas

formula-end : formula_of (codes "Ir +") ≡ None
unfolding formula_of term_of
formula-end = refl

formula-twice : formula_of (codes "a+a") ≡ Some ((1, codes "a") ∷ (1, codes "a") ∷ [])
unfolding formula_of term_of
formula-twice = refl

-- ---- terms, read from a text

text-formula : terms_in (codes "Ir + 10L1m+100 * LLm ") ≡ (1, codes "Ir") ∷ (10, codes "L1m") ∷ (100, codes "LLm") ∷ []
unfolding terms_in term_of
text-formula = refl

text-one : terms_in (codes "Ir") ≡ (1, codes "Ir") ∷ []
unfolding terms_in term_of
text-one = refl

-- up to a part that is none
text-out_of_form : terms_in (codes "a + 2 3x + b") ≡ (1, codes "a") ∷ []
unfolding terms_in term_of
text-out_of_form = refl

text-empty : terms_in [] ≡ []
unfolding terms_in term_of
text-empty = refl

-- ---- derived events

abbrev est : Definition
est = record { line = 1; name = codes "Est"; terms = (1, codes "Ir") ∷ (10, codes "L1m") ∷ (100, codes "LLm") ∷ [] }

abbrev caches : List (List ℕ)
caches = codes "Ir" ∷ codes "L1m" ∷ codes "LLm" ∷ []

-- the costs of derived_event
value-est : derived_value caches (est ∷ []) (codes "Est") (1000 ∷ 20 ∷ 3 ∷ []) ≡ Some 1500
value-est = refl

value-event : derived_value caches (est ∷ []) (codes "L1m") (1000 ∷ 20 ∷ 3 ∷ []) ≡ Some 20
value-event = refl

value-unknown : derived_value caches (est ∷ []) (codes "Dr") (1000 ∷ 20 ∷ 3 ∷ []) ≡ None
value-unknown = refl

fault-est : formula_fault caches (est ∷ []) ≡ None
fault-est = refl

derived-est : derived_of caches (est ∷ []) ≡ (codes "Est", 1 ∷ 10 ∷ 100 ∷ []) ∷ []
derived-est = refl

abbrev one : ℕ → List ℕ → ℕ → List ℕ → Definition
one line name number of = record { line = line; name = name; terms = (number, of) ∷ [] }

abbrev ir : List (List ℕ)
ir = codes "Ir" ∷ []

-- a thousand thousands
abbrev thousands : List Definition
thousands = one 3 (codes "B") 1000 (codes "A") ∷ one 2 (codes "A") 1000 (codes "Ir") ∷ []

fault-thousands : formula_fault ir thousands ≡ None
fault-thousands = refl

value-thousands : derived_value ir thousands (codes "B") (3 ∷ []) ≡ Some 3000000
value-thousands = refl

-- one more is too much
fault-one_more : formula_fault ir (record { line = 4; name = codes "C"; terms = (1, codes "B") ∷ (1, codes "Ir") ∷ [] } ∷ thousands) ≡ Some (FormulaTooLarge, 4)
fault-one_more = refl

fault-event : formula_fault ir (one 2 (codes "Ir") 2 (codes "Ir") ∷ []) ≡ Some (EventTwice, 2)
fault-event = refl

-- a definition may be repeated with the same terms, and with no others
fault-repeated : formula_fault ir (one 2 (codes "E") 1 (codes "Ir") ∷ one 1 (codes "E") 1 (codes "Ir") ∷ []) ≡ None
fault-repeated = refl

fault-changed : formula_fault ir (one 2 (codes "E") 2 (codes "Ir") ∷ record { line = 1; name = codes "E"; terms = (1, codes "Ir") ∷ (1, codes "Ir") ∷ [] } ∷ []) ≡ Some (EventTwice, 2)
fault-changed = refl

derived-twice : derived_of ir (record { line = 1; name = codes "E"; terms = (1, codes "Ir") ∷ (1, codes "Ir") ∷ [] } ∷ []) ≡ (codes "E", 2 ∷ []) ∷ []
derived-twice = refl

-- no formula sees a later line, or its own
fault-later : formula_fault ir (one 2 (codes "A") 1 (codes "Ir") ∷ one 1 (codes "B") 1 (codes "A") ∷ []) ≡ Some (FormulaUnknown, 1)
fault-later = refl

fault-own : formula_fault ir (one 1 (codes "A") 1 (codes "A") ∷ []) ≡ Some (FormulaUnknown, 1)
fault-own = refl

-- a large number of what counts nothing is nothing
fault-nothing : formula_fault ir (one 2 (codes "B") (2 ^ 64 - 1) (codes "A") ∷ one 1 (codes "A") 0 (codes "Ir") ∷ []) ≡ None
fault-nothing = refl

-- a line without a formula defines nothing
define-nothing : define 7 (record { name = codes "A"; terms = None }) thousands ≡ thousands
define-nothing = refl
