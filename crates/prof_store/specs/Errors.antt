-- Why calls are refused.
use Rattle.sqlite.specs.declared.error.Error.{Error}
use Rattle.sqlite.specs.declared.error.Error.TheVariants.{SqliteFailure}
use Rattle.sqlite.specs.declared.error.ErrorCode.TheVariants.{OutOfMemory}
use Rattle.plain_tables.specs.declared.errors.StoreError.{StoreError}
use Rattle.plain_tables.specs.declared.errors.StoreError.TheVariants as ends
use Rattle.prof_store.specs.declared.errors.OpenError.{OpenError}
use Rattle.prof_store.specs.declared.errors.OpenError.TheVariants as opens

-- out of memory is told from all else that can fail
abbrev pub error_for : Error → StoreError
error_for (SqliteFailure OutOfMemory) = ends.Memory
error_for error = ends.Store

-- what ends a call of a store ends its opening
abbrev pub opening : StoreError → OpenError
opening ends.Memory = opens.Memory
opening ends.Store = opens.Store
