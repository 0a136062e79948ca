-- Commands that read nothing.
use Rattle.std.proofs.Common.{[], refl}
use Rattle.run_stores.specs.declared.states.StoreState.{Ghosts}
use Rattle.byte_io.specs.Outcomes.{Outcome}
use Rattle.histories.specs.Requests.{command_read}
use Rattle.histories.specs.declared.answers.Answer.{Answer}
use Rattle.histories.specs.declared.limits.Limits.{Limits}
use Rattle.requests.specs.Plain.{plain_command}
use Rattle.requests.specs.declared.commands.Command.TheVariants as input
use Rattle.warehouse.specs.Answered.{Lent, ReadsNone, Says}
use Rattle.warehouse.specs.FromTables.{IsFoundWithSource, IsFoundOf, IsFoundOver}

module _ {R : Type 0} (reads : R → Outcome → R → Type 0) where
  -- they say the command, with no reads
  pub says_none : (one : Lent R) → ReadsNone one → Says reads one (command_read (plain_command one) [])
  says_none (input.Import kind label source) none = absurd none
  says_none (input.Annotate selection event file source) none = absurd none
  says_none (input.Remove n) none = refl
  says_none (input.MakeGroup name) none = refl
  says_none (input.DropGroup name) none = refl
  says_none (input.Join name n) none = refl
  says_none (input.Leave name n) none = refl
  says_none (input.SetBaseline name n) none = refl
  says_none (input.Ask query) none = refl

module _ {S R : Type 0} (g : Ghosts S) (reads : R → Outcome → R → Type 0) (limits : Limits) where
  pub found_in : (one : Lent R) (answer : Answer) (old new : S) → ReadsNone one → IsFoundOf g limits (plain_command one) answer old new → IsFoundWithSource g reads limits one answer old new
  found_in (input.Import kind label source) answer old new none found = absurd none
  found_in (input.Annotate selection event file source) answer old new none found = absurd none
  found_in (input.Remove n) answer old new none found = found
  found_in (input.MakeGroup name) answer old new none found = found
  found_in (input.DropGroup name) answer old new none found = found
  found_in (input.Join name n) answer old new none found = found
  found_in (input.Leave name n) answer old new none found = found
  found_in (input.SetBaseline name n) answer old new none found = found
  found_in (input.Ask query) answer old new none found = found

  pub found_over : {P : Type 0} (one : Lent P) (from to : R) (answer : Answer) (old new : S) → ReadsNone one → IsFoundOf g limits (plain_command one) answer old new
      → IsFoundOver g reads limits (plain_command one) from to answer old new
  found_over (input.Import kind label source) from to answer old new none found = absurd none
  found_over (input.Annotate selection event file source) from to answer old new none found = absurd none
  found_over (input.Remove n) from to answer old new none found = found
  found_over (input.MakeGroup name) from to answer old new none found = found
  found_over (input.DropGroup name) from to answer old new none found = found
  found_over (input.Join name n) from to answer old new none found = found
  found_over (input.Leave name n) from to answer old new none found = found
  found_over (input.SetBaseline name n) from to answer old new none found = found
  found_over (input.Ask query) from to answer old new none found = found
