-- The mark of a history: where its store was migrated. Imports before it are read by the first grammar of Callgrind files, those after it by the second.
use Rattle.std.specs.Prelude.{◌≡◌, ◌≢◌, ℕ, List, ◌++◌, Ok}
use Rattle.std.specs.List.{AllByRecursion}
use Rattle.cg_text.specs.Kinds.{Header}
use Rattle.cg_text.specs.Lines.{lines_of}
use Rattle.cg_text.specs.Readings.{reading_of}
use Rattle.cg_text.specs.declared.words.HeaderKey.TheVariants.{Thread}
use Rattle.callgrind_reader.specs.Grammars.{Grammar, First, Second}
use Rattle.profile_records.specs.Records.{Record, Own, Called}
use Rattle.histories.specs.Files.{fault_of, events_of, derived_of, stated_of, records_of}
use Rattle.histories.specs.Formats.{Callgrind}
use Rattle.histories.specs.History.{Command, Import, Step, History}

-- an import of a Callgrind file is by this grammar; folded files have but one
abbrev pub IsBy : Grammar → Command → Type 0
IsBy g (Import (Callgrind other) label outcomes) = other ≡ g
IsBy g command = Unit {0}

abbrev pub AreBy : Grammar → History → Type 0
AreBy g h = AllByRecursion (λ (step : Step). IsBy g step.command) h

-- where a store was never migrated, there is nothing before the mark
pub record IsMarked (h : History) : Type 0 where
  pub before : History
  pub after : History
  pub is : h ≡ before ++ after
  pub by_first : AreBy First before
  pub by_second : AreBy Second after

-- ---- the two grammars

-- its costs are of thread 0
abbrev pub HasNoThread : Record → Type 0
HasNoThread (Own cost) = cost.thread ≡ 0
HasNoThread (Called callee cost) = cost.thread ≡ 0

-- no line of a text is a `thread:` line
abbrev pub HasNoThreadLine : List ℕ → Type 0
HasNoThreadLine text = AllByRecursion (λ line. (value : List ℕ) → reading_of line ≢ Ok (Header Thread value)) (lines_of text)

-- both grammars read the same in a text
pub record AreReadAlike (text : List ℕ) : Type 0 where
  pub fault : fault_of (Callgrind First) text ≡ fault_of (Callgrind Second) text
  pub events : events_of (Callgrind First) text ≡ events_of (Callgrind Second) text
  pub derived : derived_of (Callgrind First) text ≡ derived_of (Callgrind Second) text
  pub stated : stated_of (Callgrind First) text ≡ stated_of (Callgrind Second) text
  pub records : records_of (Callgrind First) text ≡ records_of (Callgrind Second) text
