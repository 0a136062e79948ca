-- When what is kept of formulas represents the definitions of all lines so far.
use Rattle.std.specs.Prelude.{◌≡◌, ◌<◌, ℕ, true, false, not, List, [], ◌∷◌, map, length, get_or, if◌then◌else◌, Option, Some, None, ⊤}
use Rattle.cg_formulas.specs.EventLines.{Term}
use Rattle.cg_formulas.specs.EventViews.{terms_in}
use Rattle.cg_formulas.specs.Formulas.{Definition, coefficient, same_terms, derived_names, is_defined, is_changed, formula_fault, first_or}
use Rattle.cg_formulas.specs.declared.formulas.Formulas.{Formulas}
use Rattle.cg_formulas.specs.Definitions.{plain_back}
use Rattle.cg_text.specs.declared.faults.Fault.TheVariants.{EventTwice}

-- what is kept
abbrev pub kept_of : Formulas → List Definition
kept_of f = plain_back f.definitions

-- the terms that are kept at a place
abbrev pub terms_at : Formulas → ℕ → List Term
terms_at f at = get_or (map (λ d. terms_in d.formula.text) f.definitions) at []

-- the nearest definition of a name, which tells whether a definition of the name changes what is kept
pub record IsNearest (f : Formulas) (name : List ℕ) (at : ℕ) : Type 0 where
  pub inside : at < length f.definitions
  pub defined : is_defined name (kept_of f) ≡ true
  pub changes : (d : Definition) → d.name ≡ name → is_changed d (kept_of f) ≡ not (same_terms (terms_at f at) d.terms)

-- at this line these terms were given for the definition at a place: the same as before, or a change
pub record Redefines (old : Formulas) (at line : ℕ) (terms : List Term) (new : Formulas) : Type 0 where
  pub kept : kept_of new ≡ kept_of old
  pub changed : new.changed ≡ (if same_terms (terms_at old at) terms then old.changed else Some line)

-- two lists of definitions, neither with a fault, say the same
pub record Agree (events : List (List ℕ)) (es ds : List Definition) : Type 0 where
  pub names : derived_names ds ≡ derived_names es
  pub changes : (d : Definition) → is_changed d ds ≡ is_changed d es
  pub values : (event name : List ℕ) → coefficient event name ds ≡ coefficient event name es

-- two lists of definitions have the same first fault, or say the same
pub record Alike (es ds : List Definition) : Type 0 where
  pub fault : (events : List (List ℕ)) → formula_fault events ds ≡ formula_fault events es
  pub agree : (events : List (List ℕ)) → formula_fault events es ≡ None → Agree events es ds

-- a definition that changed another is the first fault, if none comes before
abbrev pub Stands : Option ℕ → List Definition → List Definition → Type 0
Stands None es ds = Alike es ds
Stands (Some line) es ds = (events : List (List ℕ)) → formula_fault events ds ≡ first_or (formula_fault events es) (Some EventTwice) line

-- no name is defined twice
abbrev pub AreFresh : List Definition → Type 0
AreFresh [] = ⊤
AreFresh (d ∷ back) = (is_defined d.name back ≡ false) × AreFresh back

-- what is kept represents these definitions
pub record Holds (f : Formulas) (ds : List Definition) : Type 0 where
  pub fresh : AreFresh (kept_of f)
  pub represents : Stands f.changed (kept_of f) ds
