-- Why the host, or SQL, does not open a store, and what comes of a turn at making one.
use Rattle.std.specs.Prelude.{Option, Some, None}
use Rattle.std_io.specs.declared.io.kind.ErrorKind.{ErrorKind}
use Rattle.std_io.specs.declared.io.kind.ErrorKind.TheVariants as kinds
use Rattle.std_io.specs.IoError.{error_kind}
use Rattle.sqlite.specs.declared.error.Error as sql
use Rattle.sqlite.specs.declared.error.Error.TheVariants as sqls
use Rattle.sqlite.specs.declared.error.ErrorCode.TheVariants as failures
use Rattle.sqlite_std_file.specs.declared.pair.OpenError as path
use Rattle.sqlite_std_file.specs.declared.pair.OpenError.TheVariants as paths
use Rattle.prof_store.specs.declared.errors.OpenError.{OpenError}
use Rattle.prof_store.specs.declared.errors.OpenError.TheVariants as ends
use Rattle.store_paths.specs.declared.errors.Cause.{Cause}
use Rattle.store_paths.specs.declared.errors.Cause.TheVariants as causes
use Rattle.store_paths.specs.declared.errors.NotOpened.{NotOpened}
use Rattle.host_stores.specs.declared.naming.Unmade.{Unmade}
use Rattle.host_stores.specs.declared.naming.Unmade.TheVariants as unmade

-- refused memory is told from all else that the host refuses
abbrev pub host_refusal : ErrorKind → OpenError
host_refusal kinds.OutOfMemory = ends.Memory
host_refusal kind = ends.Store

abbrev pub path_refusal : path.OpenError → OpenError
path_refusal (paths.Io error) = host_refusal (error_kind error)
path_refusal paths.OutOfMemory = ends.Memory
path_refusal error = ends.Store

-- what was found, where that is known
abbrev pub host_cause : ErrorKind → Option Cause
host_cause kinds.NotFound = Some causes.NoFolder
host_cause kinds.NotADirectory = Some causes.NoFolder
host_cause kinds.PermissionDenied = Some causes.NoRight
host_cause kinds.ReadOnlyFilesystem = Some causes.NoRight
host_cause kinds.StorageFull = Some causes.DiskFull
host_cause kinds.QuotaExceeded = Some causes.DiskFull
host_cause kinds.IsADirectory = Some causes.Folder
host_cause kind = None

abbrev pub path_cause : path.OpenError → Option Cause
path_cause (paths.Io error) = host_cause (error_kind error)
path_cause paths.OutOfMemory = None
path_cause paths.Busy = Some causes.InUse
path_cause paths.HotJournal = Some causes.Journal

abbrev pub sql_cause : sql.Error → Option Cause
sql_cause (sqls.SqliteFailure failures.NotADatabase) = Some causes.NoDatabase
sql_cause (sqls.SqliteFailure failures.DatabaseCorrupt) = Some causes.NoDatabase
sql_cause (sqls.SqliteFailure failures.DatabaseBusy) = Some causes.InUse
sql_cause (sqls.SqliteFailure failures.DiskFull) = Some causes.DiskFull
sql_cause error = None

abbrev pub host_not_opened : ErrorKind → NotOpened
host_not_opened kind = record { end = host_refusal kind; cause = host_cause kind }

-- why a file does not get its name: something has it; the file was removed meanwhile; the file system gives no file a second name
abbrev pub unnamed : ErrorKind → Unmade
unnamed kinds.AlreadyExists = unmade.Stands
unnamed kinds.NotFound = unmade.Again
unnamed kinds.PermissionDenied = unmade.NoWay
unnamed kinds.Unsupported = unmade.NoWay
unnamed kinds.TooManyLinks = unmade.NoWay
unnamed kind = unmade.Failed (host_not_opened kind)
