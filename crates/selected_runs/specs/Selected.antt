-- The runs that a selection names, by their numbers.
use Rattle.std.specs.Prelude.{◌≡◌, ◌⊎◌, if◌then◌else◌, ℕ, List, [], ◌∷◌, Some, None, Result, Ok, Err}
use Rattle.plain_tables.specs.Changes.{has_group, has_run}
use Rattle.plain_tables.specs.Labels.{IsGroupName}
use Rattle.plain_tables.specs.Tables.{Tables}
use Rattle.run_stores.specs.Lookups.{members_in_tables, numbers_in_tables}
use Rattle.histories.specs.History.{History}
use Rattle.histories.specs.Legal.{no_selection}
use Rattle.histories.specs.Selections.{numbers_of, selected}
use Rattle.histories.specs.declared.answers.Answer.TheVariants.{Refused}
use Rattle.histories.specs.declared.answers.Refusal.{Refusal}
use Rattle.histories.specs.declared.answers.Refusal.TheVariants.{NoSuchGroup, NoSuchRun}
use Rattle.requests.specs.Plain.{Selection}
use Rattle.requests.specs.declared.selections.Selection.TheVariants as selections

-- ---- in tables, whatever they represent

-- the text by which a group is looked for: its name, or the empty text, where no group can have that name
pub record IsSought (name text : List ℕ) : Type 0 where
  pub named : IsGroupName name → text ≡ name
  pub other : (text ≡ name) ⊎ (text ≡ [])

-- a run, if it is held, and the members of a group, if it is there
abbrev pub run_in : Tables → ℕ → Result (List ℕ) Refusal
run_in t n = if has_run t n then Ok (n ∷ []) else Err NoSuchRun

abbrev pub group_in : Tables → List ℕ → Result (List ℕ) Refusal
group_in t name = if has_group t name then Ok (members_in_tables name t) else Err NoSuchGroup

-- the numbers of the runs, or why there are none
abbrev pub AreSelectedIn : Tables → Selection → Result (List ℕ) Refusal → Type 0
AreSelectedIn t selections.All found = found ≡ Ok (numbers_in_tables t)
AreSelectedIn t (selections.Run n) found = found ≡ run_in t n
AreSelectedIn t (selections.Group name) found = (text : List ℕ) × IsSought name text × (found ≡ group_in t text)

-- ---- after a history

-- the numbers of the files that are selected, or why none are
abbrev pub AreSelected : History → Selection → Result (List ℕ) Refusal → Type 0
AreSelected h s (Ok numbers) = (no_selection h s ≡ None) × (numbers ≡ numbers_of (selected h s))
AreSelected h s (Err refusal) = no_selection h s ≡ Some (Refused refusal)
