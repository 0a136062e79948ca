-- Coefficients as the code keeps them, and the values that they give.
use Rattle.std.specs.Prelude.{◌≡◌, ◌+◌, ◌*◌, ◌≤◌, ℕ, Bool, true, false, All, length, sum, List, [], ◌∷◌, Option, Some, None, Result, Ok, Err, ⊤, if◌then◌else◌}
use Rattle.std.specs.List.{list_any, list_all}
use Rattle.std.specs.Map.{lookup}
use Rattle.std.specs.Str.{bytes_eq}
use Rattle.cg_formulas.specs.EventLines.{Term}
use Rattle.cg_formulas.specs.Formulas.{Definition, coefficient, coefficients, is_known, is_defined, weighed, formula_fault, derived_of, derived_value}
use Rattle.cg_formulas.specs.Rows.{IsRow, counted}
use Rattle.cg_text.specs.Distinct.{are_distinct}
use Rattle.cg_formulas.specs.Definitions.{plain_definition}
use Rattle.cg_formulas.specs.declared.definitions.Definition as kept
use Rattle.cg_formulas.specs.declared.flats.Flat.{Flat}
use Rattle.cg_formulas.specs.declared.flats.FlatEnd.{FlatEnd}
use Rattle.cg_formulas.specs.declared.flats.FlatEnd.TheVariants.{Fault, Memory}

-- the coefficients of a name, one for each event, where derived events have these
abbrev pub row_in : List (List ℕ) → List (List ℕ × List ℕ) → List ℕ → Option (List ℕ)
row_in events derived name = if list_any (bytes_eq name) events then Some (coefficients events name []) else lookup (bytes_eq name) derived

abbrev pub row_of : Flat → List ℕ → Option (List ℕ)
row_of flat name = row_in flat.events flat.derived name

-- no event stands twice, and each derived event has a coefficient for each event, which yield 1,000,000 at most
abbrev pub IsFlat : List (List ℕ) → List (List ℕ × List ℕ) → Type 0
IsFlat events derived = (are_distinct events ≡ true) × All (λ d. (length d.1 ≡ length events) × (sum d.1 ≤ 1000000)) derived

abbrev pub value_by : Option (List ℕ) → List ℕ → Option ℕ
value_by None costs = None
value_by (Some row) costs = Some (weighed row costs)

-- the value of a name: each cost as often as it counts
abbrev pub flat_value : Flat → List ℕ → List ℕ → Option ℕ
flat_value flat name costs = value_by (row_of flat name) costs

-- it gives each name the value that some definitions give it
abbrev pub GivesValues : Flat → List (List ℕ) → List Definition → Type 0
GivesValues flat events back = (name costs : List ℕ) → flat_value flat name costs ≡ derived_value events back name costs

-- the coefficients of the derived names that some definitions give
pub record FlatOf (flat : Flat) (names : List (List ℕ)) (back : List Definition) : Type 0 where
  pub events : flat.events ≡ names
  pub derived : flat.derived ≡ derived_of names back

-- ---- while definitions are taken one by one

-- the coefficients of definitions without a fault
pub record Flattens (flat : Flat) (back : List Definition) : Type 0 where
  pub free : formula_fault flat.events back ≡ None
  pub derived : flat.derived ≡ derived_of flat.events back

-- whether the names of some terms are known
abbrev pub TellsKnown : Flat → List Term → Bool → Type 0
TellsKnown flat terms known = (back : List Definition) → Flattens flat back → known ≡ list_all (λ t. is_known flat.events back t.1) terms

-- a row to which a name was added so often
abbrev pub AddsName : Flat → ℕ → List ℕ → List ℕ → List ℕ → Type 0
AddsName flat number name old new =
    (back : List Definition) (count : List ℕ → ℕ) → Flattens flat back → IsRow old flat.events count → IsRow new flat.events (λ event. count event + number * coefficient event name back)

-- a row of zeros to which some terms were added
abbrev pub AddsTerms : Flat → List Term → List ℕ → List ℕ → Type 0
AddsTerms flat terms old new = (back : List Definition) → Flattens flat back → IsRow old flat.events (λ _. 0) → IsRow new flat.events (λ event. counted event terms back)

-- what some terms count
abbrev pub CountsTerms : Flat → List Term → List ℕ → Type 0
CountsTerms flat terms row = (back : List Definition) → Flattens flat back → IsRow row flat.events (λ event. counted event terms back)

-- one more definition: its coefficients as well, or the first fault
abbrev pub Defines : Result (Unit {0}) FlatEnd → Flat → kept.Definition → List Definition → Type 0
Defines (Ok done) flat d back = Flattens flat (plain_definition d ∷ back)
Defines (Err (Fault fault line)) flat d back = formula_fault flat.events (plain_definition d ∷ back) ≡ Some (fault, line)
Defines (Err Memory) flat d back = ⊤

-- of a name that is not defined yet
abbrev pub DefinesNew : Result (Unit {0}) FlatEnd → Flat → kept.Definition → Flat → Type 0
DefinesNew result old d new = (back : List Definition) → Flattens old back → is_defined (plain_definition d).name back ≡ false → Defines result new d back

-- ---- at the end

-- what definitions yield: coefficients exactly where they have no fault, else the first one, unless memory was refused
abbrev pub FlatIs : Result Flat FlatEnd → List (List ℕ) → List Definition → Type 0
FlatIs (Ok flat) events back = (formula_fault events back ≡ None) × FlatOf flat events back
FlatIs (Err (Fault fault line)) events back = formula_fault events back ≡ Some (fault, line)
FlatIs (Err Memory) events back = ⊤
