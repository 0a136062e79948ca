-- When what is kept of a name space represents the lines before.
use Rattle.std.specs.Prelude.{◌≡◌, ℕ, List, Result, Option, Some, None, if◌then◌else◌}
use Rattle.cg_text.specs.Readings.{Reading}
use Rattle.cg_text.specs.Names.{Spec}
use Rattle.cg_text.specs.declared.faults.Fault.{Fault}
use Rattle.cg_text.specs.declared.words.Namespace.{Namespace}
use Rattle.cg_text.specs.declared.words.Role.{Role}
use Rattle.cg_text.specs.declared.words.Role.TheVariants.{Own, Called}
use Rattle.callgrind_reader.specs.declared.spaces.Space.{Space}
use Rattle.callgrind_reader.specs.Current.{text_of}
use Rattle.callgrind_reader.specs.Table.{text_at}
use Rattle.callgrind_reader.specs.Names.{meaning, meaning_after, named, name_fault, same_role, in_force}
use Rattle.callgrind_reader.specs.Calls.{called}

-- the called name, if one was given
abbrev pub called_name : Space → Option (List ℕ)
called_name s = if s.is_called then text_of s.table s.called else None

pub record SpaceIs (s : Space) (space : Namespace) (back : List Reading) : Type 0 where
  pub texts : (q : ℕ) → text_at s.table q ≡ meaning space q back
  pub own : text_of s.table s.own ≡ Some (in_force space back)
  pub called : called_name s ≡ called space back

-- a name line of the space was taken, in a role: its fault, or what is kept after it
pub record TakesName (role : Role) (spec : Result Spec Fault) (old new : Space) (fault : Option Fault) : Type 0 where
  pub fault_is : fault ≡ name_fault spec (text_at old.table)
  pub means : fault ≡ None → (q : ℕ) → text_at new.table q ≡ meaning_after spec q (text_at old.table q)
  pub own_is : fault ≡ None → text_of new.table new.own ≡ (if same_role Own role then Some (named spec (text_at old.table)) else text_of old.table old.own)
  pub called_is : fault ≡ None → called_name new ≡ (if same_role Called role then Some (named spec (text_at old.table)) else called_name old)
