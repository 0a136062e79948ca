-- Identifiers, and the names in force. `back` are the lines before, the nearest first.
use Rattle.std.specs.Prelude.{ℕ, Bool, true, false, ◌&&◌, List, [], ◌∷◌, ◌==◌, if◌then◌else◌, Result, Ok, Err, Option, Some, None, unwrap_or}
use Rattle.std.specs.Str.{bytes_eq}
use Rattle.cg_text.specs.Readings.{Reading}
use Rattle.cg_text.specs.Kinds.{Name}
use Rattle.cg_text.specs.Names.{Spec, name_of, unknown}
use Rattle.cg_text.specs.Words.{namespace_of, role_of}
use Rattle.cg_text.specs.declared.faults.Fault.{Fault}
use Rattle.cg_text.specs.declared.faults.Fault.TheVariants.{UnknownId, IdRedefined}
use Rattle.cg_text.specs.declared.words.NameWord.{NameWord}
use Rattle.cg_text.specs.declared.words.Namespace.{Namespace}
use Rattle.cg_text.specs.declared.words.Namespace.TheVariants.{Object, File, Function}
use Rattle.cg_text.specs.declared.words.Role.{Role}
use Rattle.cg_text.specs.declared.words.Role.TheVariants.{Own, Called, Jumped}

-- ---- identifiers

abbrev pub same_space : Namespace → Namespace → Bool
same_space Object Object = true
same_space File File = true
same_space Function Function = true
same_space a b = false

abbrev pub same_role : Role → Role → Bool
same_role Own Own = true
same_role Called Called = true
same_role Jumped Jumped = true
same_role a b = false

abbrev pub given : Option ℕ → Option (List ℕ) → ℕ → Option (List ℕ) → Option (List ℕ)
given (Some id) (Some text) q before = if id == q then Some text else before
given id text q before = before

-- what an identifier means after a name line of its space that says this
abbrev pub meaning_after : Result Spec Fault → ℕ → Option (List ℕ) → Option (List ℕ)
meaning_after (Ok s) q before = given s.id s.text q before
meaning_after (Err fault) q before = before

-- what an identifier means: the text of the nearest line of its space that defines it
abbrev pub meaning : Namespace → ℕ → List Reading → Option (List ℕ)
meaning space q [] = None
meaning space q (Ok (Name word value) ∷ back) = if same_space space (namespace_of word) then meaning_after (name_of value) q (meaning space q back) else meaning space q back
meaning space q (r ∷ back) = meaning space q back

-- ---- resolved names

abbrev pub text_or : Option (List ℕ) → Option ℕ → (ℕ → Option (List ℕ)) → List ℕ
text_or (Some text) id means = text
text_or None (Some id) means = unwrap_or (means id) unknown
text_or None None means = unknown

-- the name that a name line gives or refers to
abbrev pub named : Result Spec Fault → (ℕ → Option (List ℕ)) → List ℕ
named (Ok s) means = text_or s.text s.id means
named (Err fault) means = unknown

abbrev pub resolved_name : NameWord → List ℕ → List Reading → List ℕ
resolved_name word value back = named (name_of value) (λ q. meaning (namespace_of word) q back)

-- ---- faults of name lines

abbrev pub redefined : List ℕ → Option (List ℕ) → Option Fault
redefined text None = None
redefined text (Some before) = if bytes_eq before text then None else Some IdRedefined

abbrev pub undefined : Option (List ℕ) → Option Fault
undefined None = Some UnknownId
undefined (Some text) = None

abbrev pub spec_fault : Option ℕ → Option (List ℕ) → (ℕ → Option (List ℕ)) → Option Fault
spec_fault None text means = None
spec_fault (Some id) (Some text) means = redefined text (means id)
spec_fault (Some id) None means = undefined (means id)

abbrev pub name_fault : Result Spec Fault → (ℕ → Option (List ℕ)) → Option Fault
name_fault (Ok s) means = spec_fault s.id s.text means
name_fault (Err fault) means = Some fault

-- ---- names in force

-- whether a word gives a name of this space in this role
abbrev pub gives : Namespace → Role → NameWord → Bool
gives space role word = same_space space (namespace_of word) && same_role role (role_of word)

-- the object, file or function in force: the name of the nearest line that sets it, else `???`
abbrev pub in_force : Namespace → List Reading → List ℕ
in_force space [] = unknown
in_force space (Ok (Name word value) ∷ back) = if gives space Own word then resolved_name word value back else in_force space back
in_force space (r ∷ back) = in_force space back
