-- What a person is told of a file.
use Rattle.std.specs.Prelude.{ℕ, List, codes, Option, Some, None}
use Rattle.std_io.specs.declared.io.kind.ErrorKind.{ErrorKind}
use Rattle.std_io.specs.declared.io.kind.ErrorKind.TheVariants as errors
use Rattle.profile_records.specs.declared.kinds.Kind.{Kind}
use Rattle.profile_records.specs.declared.kinds.Kind.TheVariants as kinds
use Rattle.file_reading.specs.declared.beginnings.Beginning.{Beginning}
use Rattle.file_reading.specs.declared.beginnings.Beginning.TheVariants as beginnings
use Rattle.file_reading.specs.declared.findings.Finding.{Finding}
use Rattle.file_reading.specs.declared.findings.Finding.TheVariants as findings

-- where a read fails
abbrev pub unread_finding : ErrorKind → Finding
unread_finding errors.NotFound = findings.Missing
unread_finding errors.NotADirectory = findings.Missing
unread_finding errors.PermissionDenied = findings.NoRight
unread_finding errors.IsADirectory = findings.Folder
unread_finding kind = findings.Unread

-- where a file that is read as one of a kind has a fault
abbrev pub fault_finding : Kind → Beginning → Option Finding
fault_finding kind beginnings.Packed = Some findings.Packed
fault_finding kind beginnings.Program = Some findings.Program
fault_finding kind beginnings.PerfData = Some findings.PerfData
fault_finding kinds.Callgrind beginnings.Folded = Some findings.Folded
fault_finding kinds.Folded beginnings.Callgrind = Some findings.Callgrind
fault_finding kind beginning = None

abbrev pub finding_text : Finding → List ℕ
finding_text findings.Missing = codes "there is no such file"
finding_text findings.NoRight = codes "no right to read it"
finding_text findings.Folder = codes "it is a folder"
finding_text findings.Unread = codes "it cannot be read"
finding_text findings.Empty = codes "it is empty, as where a profiler was killed"
finding_text findings.Packed = codes "it is packed: unpack it first"
finding_text findings.Program = codes "it is a program or a library, and no profile"
finding_text findings.PerfData = codes "it is data of perf record: fold its stacks first"
finding_text findings.Folded = codes "it looks like folded stacks, which are imported with --folded"
finding_text findings.Callgrind = codes "it looks like a Callgrind file, which is imported without --folded"
