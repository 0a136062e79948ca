-- Lists of what represents a history are those that are expected after it.
use Rattle.std.proofs.Common.{◌≡◌, sym, ap, ◌∙◌, string_bytes}
use Rattle.plain_tables.specs.Tables.{Tables}
use Rattle.run_stores.specs.declared.entries.GroupEntry.{GroupEntry}
use Rattle.run_stores.specs.declared.entries.RunEntry.{RunEntry}
use Rattle.histories.specs.History.{History}
use Rattle.histories.specs.Legal.{expected_of_query}
use Rattle.histories.specs.Representation.{TablesRepresent}
use Rattle.histories.specs.declared.answers.Answer.{Answer}
use Rattle.histories.specs.declared.answers.Answer.TheVariants.{Text}
use Rattle.requests.specs.declared.queries.Query.TheVariants.{Runs, Groups}
use Rattle.histories.proofs.Texts.{tells_runs_text, tells_groups_text}
use Rattle.histories.specs.FromTables.{ShowsText}
use Rattle.store_commands.specs.Lists.{IsListOfRuns, IsListOfGroups}

pub runs_are_expected : (h : History) (t : Tables) (answer : Answer) → TablesRepresent h t → ShowsText (IsListOfRuns t) answer → answer ≡ expected_of_query h Runs
runs_are_expected h t answer represent is =
    is.2 ∙ ap Text (is.1.text_is ∙ sym (tells_runs_text (λ (e : RunEntry). e.number) (λ e. e.kind) (λ e. e.digest) (λ e. string_bytes e.label) h t is.1.entries represent is.1.are_held))

pub groups_are_expected : (h : History) (t : Tables) (answer : Answer) → TablesRepresent h t → ShowsText (IsListOfGroups t) answer → answer ≡ expected_of_query h Groups
groups_are_expected h t answer represent is =
    let groups = is.1.are_groups in
    is.2
    ∙ ap Text (is.1.text_is ∙ sym (tells_groups_text (λ (e : GroupEntry). string_bytes e.name) (λ e. e.baseline) (λ e. e.members) h t is.1.entries represent groups.groups is.1.rising groups.each (λ e. e.rising)))
