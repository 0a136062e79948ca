-- A history that files hold, and the store that is opened over them.
use Rattle.run_stores.specs.declared.states.StoreState.{Ghosts}
use Rattle.run_stores.specs.Calls.{IsFaithful}
use Rattle.plain_tables.specs.Tables.{Tables}
use Rattle.histories.specs.History.{History}
use Rattle.histories.specs.Left.{MayBecome}
use Rattle.histories.specs.Legal.{IsHistory}
use Rattle.histories.specs.Representation.{TablesRepresent}
use Rattle.histories.specs.Answered.{RepresentsHistory}
use Rattle.histories.specs.declared.limits.Limits.{Limits}

-- files hold rows that represent a history
pub record HoldHistory (held : Tables → Type 0) (h : History) : Type 0 where
  pub legal : IsHistory h
  pub t : Tables
  pub agrees : TablesRepresent h t
  pub holds : held t

-- rows that represent what a crash may leave of a history
abbrev pub HoldLeft : (Tables → Type 0) → Limits → History → Type 0
HoldLeft held limits h = (told : History) × MayBecome limits h told × HoldHistory held told

-- a store over files that hold such rows: whichever history these represent, it represents it, if so far what was written is what was read
abbrev pub RepresentsHeld : {S : Type 0} → Ghosts S → (Tables → Type 0) → S → Type 0
RepresentsHeld g held store = IsFaithful g store → (h : History) → HoldHistory held h → RepresentsHistory g h store
