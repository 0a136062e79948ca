-- `event:` lines as the code has them, without where their bytes lie in memory.
use Rattle.std.specs.Prelude.{◌≡◌, ℕ, ◌+◌, List, [], ◌∷◌, length, map, Option, Some, None, Result, Ok, Err, ⊤}
use Rattle.std.specs.List.{slice_split}
use denote.Ref.{Bor}
use Rattle.cg_formulas.specs.EventLines.{Event, Term, term_of, is_plus, formula_of}
use Rattle.cg_text.specs.declared.faults.Fault as faults
use Rattle.cg_text.specs.declared.faults.Fault.TheVariants.{FormulaForm}
use Rattle.cg_formulas.specs.declared.event_lines.Formula.{Formula}
use Rattle.cg_formulas.specs.declared.event_lines.EventLine.{EventLine}
use Rattle.cg_formulas.specs.declared.event_lines.TextEnd.{TextEnd}
use Rattle.cg_formulas.specs.declared.event_lines.TextEnd.TheVariants.{Fault, Memory}

-- ---- terms, read from a text

-- those in front of the first that is none
abbrev pub leading : List (Option Term) → List Term
leading [] = []
leading (None ∷ parts) = []
leading (Some t ∷ parts) = t ∷ leading parts

-- the terms of a text, up to a part that is none: where it is a formula, the formula's
unfoldable pub terms_in : List ℕ → List Term
terms_in text = leading (map term_of (slice_split is_plus text))

abbrev pub plain_term : ℕ × Bor (List ℕ) → Term
plain_term t = (t.0, t.1.now)

-- the terms of what is behind a `+`, if there is one
abbrev pub terms_behind : Option (Bor (List ℕ)) → List Term
terms_behind None = []
terms_behind (Some rest) = terms_in rest.now

-- as a formula
abbrev pub formula_behind : Option (Bor (List ℕ)) → Option (List Term)
formula_behind None = Some []
formula_behind (Some rest) = formula_of rest.now

-- ---- lines

abbrev pub terms_of : Option Formula → Option (List Term)
terms_of None = None
terms_of (Some formula) = Some (terms_in formula.text)

abbrev pub plain_event : EventLine → Event
plain_event e = record { name = e.name; terms = terms_of e.formula }

-- how many bytes are kept of a formula, if there is one, and of a line
abbrev pub formula_bytes : Option Formula → ℕ
formula_bytes None = 0
formula_bytes (Some formula) = length formula.text

abbrev pub kept_bytes : EventLine → ℕ
kept_bytes e = length e.name + formula_bytes e.formula

-- what a line says, or its fault, unless memory was refused
abbrev pub EventIs : Result EventLine TextEnd → Result Event faults.Fault → Type 0
EventIs (Ok e) said = Ok (plain_event e) ≡ said
EventIs (Err (Fault fault)) said = Err fault ≡ said
EventIs (Err Memory) said = ⊤

-- a formula that is read, or that it is out of form, unless memory was refused
abbrev pub FormulaIs : Result Formula TextEnd → Option (List Term) → Type 0
FormulaIs (Ok formula) said = Some (terms_in formula.text) ≡ said
FormulaIs (Err (Fault fault)) said = (fault ≡ FormulaForm) × (None ≡ said)
FormulaIs (Err Memory) said = ⊤
