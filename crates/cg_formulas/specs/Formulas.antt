-- Derived events: what the formulas of `event:` lines yield over the events of a file.
use Rattle.std.specs.Prelude.{◌≡◌, ℕ, ◌+◌, ◌*◌, Bool, true, false, not, ◌||◌, ◌&&◌, List, [], ◌∷◌, ◌++◌, map, length, sum, sum_by, zip, nat_lt, ◌==◌, if◌then◌else◌, Option, Some, None}
use Rattle.std.specs.List.{list_any, list_all}
use Rattle.std.specs.Str.{bytes_eq}
use Rattle.cg_formulas.specs.EventLines.{Term, Event}
use Rattle.cg_text.specs.declared.faults.Fault.{Fault}
use Rattle.cg_text.specs.declared.faults.Fault.TheVariants.{EventTwice, TooManyEvents, FormulaUnknown, FormulaTooLarge}

-- a name, the terms that it represents, and the line that says so
pub record Definition : Type 0 where
  pub line : ℕ
  pub name : List ℕ
  pub terms : List Term

-- in what follows, `back` are the definitions of earlier lines, the nearest first

abbrev pub defines : List ℕ → Definition → Bool
defines name d = bytes_eq name d.name

abbrev pub is_defined : List ℕ → List Definition → Bool
is_defined name back = list_any (defines name) back

-- ---- values

-- how often an event counts in a name: once in its own; in a derived event the sum over its terms
abbrev pub coefficient : List ℕ → List ℕ → List Definition → ℕ
coefficient event name [] = if bytes_eq event name then 1 else 0
coefficient event name (d ∷ back) =
    if defines name d then sum_by (λ t. t.0 * coefficient event t.1 back) d.terms
    else coefficient event name back

-- how often each event counts
abbrev pub coefficients : List (List ℕ) → List ℕ → List Definition → List ℕ
coefficients events name back = map (λ event. coefficient event name back) events

abbrev pub is_known : List (List ℕ) → List Definition → List ℕ → Bool
is_known events back name = list_any (bytes_eq name) events || is_defined name back

abbrev pub product : ℕ × ℕ → ℕ
product p = p.0 * p.1

-- each cost as often as it counts
abbrev pub weighed : List ℕ → List ℕ → ℕ
weighed counts costs = sum_by product (zip counts costs)

-- the value of a name, where each event has a cost
abbrev pub derived_value : List (List ℕ) → List Definition → List ℕ → List ℕ → Option ℕ
derived_value events back name costs = if is_known events back name then Some (weighed (coefficients events name back) costs) else None

-- two assignments of costs, added event by event
abbrev pub both : List ℕ → List ℕ → List ℕ
both costs more = map (λ p. p.0 + p.1) (zip costs more)

-- two values added, where there are two
abbrev pub plus : Option ℕ → Option ℕ → Option ℕ
plus (Some n) (Some m) = Some (n + m)
plus n m = None

-- ---- faults

abbrev pub same_terms : List Term → List Term → Bool
same_terms [] [] = true
same_terms (s ∷ ss) (t ∷ ts) = (s.0 == t.0 && bytes_eq s.1 t.1) && same_terms ss ts
same_terms ss ts = false

-- whether the nearest definition of the name has other terms
abbrev pub is_changed : Definition → List Definition → Bool
is_changed d [] = false
is_changed d (e ∷ back) = if defines d.name e then not (same_terms e.terms d.terms) else is_changed d back

-- the derived names, in the order of their first definitions
abbrev pub derived_names : List Definition → List (List ℕ)
derived_names [] = []
derived_names (d ∷ back) = if is_defined d.name back then derived_names back else derived_names back ++ d.name ∷ []

-- the fault of a definition, if it has one
abbrev pub definition_fault : List (List ℕ) → Definition → List Definition → Option Fault
definition_fault events d back =
    if list_any (bytes_eq d.name) events || is_changed d back then Some EventTwice
    else (if nat_lt 64 (length (derived_names (d ∷ back))) then Some TooManyEvents
    else (if not (list_all (λ t. is_known events back t.1) d.terms) then Some FormulaUnknown
    else (if nat_lt 1000000 (sum (coefficients events d.name (d ∷ back))) then Some FormulaTooLarge
    else None)))

abbrev pub first_or : Option (Fault × ℕ) → Option Fault → ℕ → Option (Fault × ℕ)
first_or (Some earlier) own line = Some earlier
first_or None None line = None
first_or None (Some fault) line = Some (fault, line)

-- the first fault of some definitions, and its line
abbrev pub formula_fault : List (List ℕ) → List Definition → Option (Fault × ℕ)
formula_fault events [] = None
formula_fault events (d ∷ back) = first_or (formula_fault events back) (definition_fault events d back) d.line

-- each derived name with its coefficients
abbrev pub derived_of : List (List ℕ) → List Definition → List (List ℕ × List ℕ)
derived_of events back = map (λ name. (name, coefficients events name back)) (derived_names back)

-- a line without a formula defines nothing
abbrev pub defined_by : ℕ → List ℕ → Option (List Term) → List Definition → List Definition
defined_by line name None back = back
defined_by line name (Some terms) back = record { line = line; name = name; terms = terms } ∷ back

-- the definitions after one more line
abbrev pub define : ℕ → Event → List Definition → List Definition
define line e back = defined_by line e.name e.terms back

-- ---- what the laws say

-- a value of sums of costs is the sum of the values
abbrev pub AddsUp : (List ℕ → Option ℕ) → Type 0
AddsUp value = (costs more : List ℕ) → length costs ≡ length more → value (both costs more) ≡ plus (value costs) (value more)

-- a name is defined again, with the same terms
abbrev pub Repeats : Definition → List Definition → Type 0
Repeats d back = (is_defined d.name back ≡ true) × (is_changed d back ≡ false)

-- one more definition changes no first fault, and, where there is none, no value and no coefficient
pub record ChangesNothing (events : List (List ℕ)) (d : Definition) (back : List Definition) : Type 0 where
  pub fault : formula_fault events (d ∷ back) ≡ formula_fault events back
  pub values : formula_fault events back ≡ None → (name costs : List ℕ) → derived_value events (d ∷ back) name costs ≡ derived_value events back name costs
  pub derived : formula_fault events back ≡ None → derived_of events (d ∷ back) ≡ derived_of events back
