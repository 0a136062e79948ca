-- Names that name lines give, and names in force.
use Rattle.std.specs.Prelude.{◌≡◌, ℕ, ◌<◌, List, Result, IfOk, OnOk, Option, Some, None}
use Rattle.cg_text.specs.Names.{Spec}
use Rattle.profile_records.specs.declared.marks.Mark.{Mark}
use Rattle.profile_records.specs.declared.marks.Mark.TheVariants as marks
use Rattle.cg_text.specs.declared.faults.Fault.{Fault}
use Rattle.callgrind_reader.specs.Faulty.{err_of}
use Rattle.callgrind_reader.specs.Inside.{IsInside}
use Rattle.callgrind_reader.specs.Names.{meaning_after, named, name_fault}
use Rattle.callgrind_reader.specs.Table.{Keeps, name_at, names_in, text_at}
use Rattle.callgrind_reader.specs.declared.spaces.Current.{Current}
use Rattle.callgrind_reader.specs.declared.spaces.Given.{Given}
use Rattle.callgrind_reader.specs.declared.spaces.Given.TheVariants.{Held, Plain}
use Rattle.callgrind_reader.specs.declared.tables.NameTable.{NameTable}

abbrev pub place_given : Given → Option ℕ
place_given (Held place) = Some place
place_given (Plain text) = None

abbrev pub given_text : NameTable → Given → Option (List ℕ)
given_text t (Held place) = name_at t (Some place)
given_text t (Plain text) = Some text.now

abbrev pub text_among : NameTable → Option ℕ → List ℕ → Option (List ℕ)
text_among t None plain = Some plain
text_among t (Some place) plain = name_at t (Some place)

-- the text of a name in force
abbrev pub text_of : NameTable → Current → Option (List ℕ)
text_of t c = text_among t c.place c.plain.items

-- how a name in force is marked: by the place of one that is held, or as one without an identifier
abbrev pub mark_of : Option ℕ → Mark → Mark
mark_of None plain_mark = plain_mark
mark_of (Some place) plain_mark = marks.Held place

-- a name was given: one without an identifier is counted, and else the last such is as before
abbrev pub CountsPlain : Given → Current → Current → Type 0
CountsPlain (Held place) old new = (new.count ≡ old.count) × (new.plain.items ≡ old.plain.items)
CountsPlain (Plain text) old new = old.count < new.count

-- a name line was taken: its fault, or the name that it gives and what identifiers mean after it
pub record Gives (spec : Result Spec Fault) (old new : NameTable) (given : Result Given Fault) : Type 0 where
  pub fault_is : err_of given ≡ name_fault spec (text_at old)
  pub means : OnOk given ((q : ℕ) → text_at new q ≡ meaning_after spec q (text_at old q))
  pub name : IfOk given (λ g. given_text new g ≡ Some (named spec (text_at old)))
  pub inside : IfOk given (λ g. IsInside (names_in new) (place_given g))
  pub keeps : Keeps old new
