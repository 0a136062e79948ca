-- What a failure to look at the files of a store is for a caller: out of memory stays that, and all else is the store's.
use Rattle.plain_tables.specs.declared.errors.StoreError.{StoreError}
use Rattle.plain_tables.specs.declared.errors.StoreError.TheVariants.{Memory, Store}
use Rattle.sqlite_wal.specs.declared.error.Error.{Error}
use Rattle.sqlite_wal.specs.declared.error.Error.TheVariants.{OutOfMemory}

abbrev pub failure_of_probe : Error → StoreError
failure_of_probe OutOfMemory = Memory
failure_of_probe e = Store
