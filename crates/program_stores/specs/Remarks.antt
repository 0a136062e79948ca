-- What a person is told of the files that commands read.
use Rattle.std.specs.Prelude.{ℕ, List, Option, Some, None}
use Rattle.std_io.specs.declared.io.kind.ErrorKind.{ErrorKind}
use Rattle.profile_records.specs.declared.kinds.Kind.{Kind}
use Rattle.histories.specs.declared.answers.Answer.{Answer}
use Rattle.histories.specs.declared.answers.Answer.TheVariants as answers
use Rattle.histories.specs.declared.answers.Refusal.TheVariants as reasons
use Rattle.requests.specs.declared.commands.Command as requests
use Rattle.requests.specs.declared.commands.Command.TheVariants as asks
use Rattle.file_reading.specs.Findings.{fault_finding, unread_finding}
use Rattle.file_reading.specs.declared.beginnings.Beginning.{Beginning}
use Rattle.file_reading.specs.declared.beginnings.Beginning.TheVariants as beginnings
use Rattle.file_reading.specs.declared.findings.Finding.{Finding}
use Rattle.file_reading.specs.declared.findings.Finding.TheVariants as findings

-- why it is not read; or, where it has a fault, what it looks like; or that it is empty
abbrev pub imported_finding : Kind → Answer → Option Beginning → Option ErrorKind → Option Finding
imported_finding kind (answers.Refused reasons.ReadFault) beginning (Some failed) = Some (unread_finding failed)
imported_finding kind (answers.Refused (reasons.File fault line)) (Some beginning) failed = fault_finding kind beginning
imported_finding kind (answers.Run n) (Some beginnings.Empty) failed = Some findings.Empty
imported_finding kind (answers.Held n) (Some beginnings.Empty) failed = Some findings.Empty
imported_finding kind answer beginning failed = None

abbrev pub source_finding : Answer → Option ErrorKind → Option Finding
source_finding (answers.Refused reasons.ReadFault) (Some failed) = Some (unread_finding failed)
source_finding answer failed = None

-- of the file that a command reads
abbrev pub finding_of : requests.Command (List ℕ) (List ℕ) → Answer → Option Beginning → Option ErrorKind → Option Finding
finding_of (asks.Import kind label path) answer beginning failed = imported_finding kind answer beginning failed
finding_of (asks.Annotate selection event file path) answer beginning failed = source_finding answer failed
finding_of command answer beginning failed = None
