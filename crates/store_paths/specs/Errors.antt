-- What is printed of a store that is not opened.
use Rattle.std.specs.Prelude.{ℕ, List, codes, Some, None}
use Rattle.prof_store.specs.declared.errors.OpenError.{OpenError}
use Rattle.prof_store.specs.declared.errors.OpenError.TheVariants as ends
use Rattle.store_paths.specs.declared.errors.Cause.{Cause}
use Rattle.store_paths.specs.declared.errors.Cause.TheVariants as causes
use Rattle.store_paths.specs.declared.errors.NotOpened.{NotOpened}

-- a store that is refused for what it is, with no cause that the host or SQL tells
abbrev pub not_opened : OpenError → NotOpened
not_opened ends.WrongSchema = record { end = ends.WrongSchema; cause = Some causes.OtherTables }
not_opened end = record { end = end; cause = None }

abbrev pub store_text : OpenError → List ℕ
store_text ends.Memory = codes "store: out of memory"
store_text ends.Store = codes "store: failed"
store_text ends.WrongSchema = codes "store: wrong schema"

-- for a person
abbrev pub cause_text : Cause → List ℕ
cause_text causes.NoFolder = codes "there is no such folder"
cause_text causes.Folder = codes "it is a folder"
cause_text causes.NoRight = codes "no right to read or write it, its log or its folder"
cause_text causes.InUse = codes "another command, a server or another program has it open"
cause_text causes.Journal = codes "it has a journal of SQLite, or a second name: open it once with sqlite3"
cause_text causes.DiskFull = codes "the disk is full"
cause_text causes.NoDatabase = codes "it is no database, or a damaged one"
cause_text causes.OtherTables = codes "its tables are those of another program, or of another version of profhouse"
cause_text causes.OtherIndex = codes "another program has put an index or a trigger on its tables: it is only read"
