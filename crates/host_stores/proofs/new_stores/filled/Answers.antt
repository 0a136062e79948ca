use Rattle.std.proofs.Common.{Ok, refl, true, sym, subst}
use Rattle.std.proofs.Math.Logic.{∥∥₁_map}
use Rattle.sqlite.specs.Closing.{IsCopied}
use Rattle.sqlite.specs.Effect.{Database}
use Rattle.sqlite.specs.Files.{file_state, image_of, over_files}
use Rattle.sqlite.specs.Held.{Held}
use Rattle.sqlite.specs.State.{State, HasCleanDisk}
use Rattle.sqlite_disk.specs.declared.Disk.{Ghosts}
use Rattle.sqlite_disk.specs.declared.Files.{Files}
use Rattle.sqlite_store.specs.declared.store.FileStore.{FileStore}
use Rattle.plain_tables.specs.Tables.{new_tables}
use Rattle.prof_store.specs.Created.{Creates}
use Rattle.prof_store.specs.Tables.{Holds}
use Rattle.host_stores.specs.NewStores.{IsNewStore}
use Rattle.host_stores.specs.Stores.{IsReadyIn}
use Rattle.host_stores.proofs.new_stores.filled.Goals as goal

committed : {old new : State} → Creates true old new → Holds new_tables new.committed.trees
committed creates =
    let rests = creates.made refl in
    subst (λ (d : Database). Holds new_tables d.trees) (sym rests.settled) rests.holds

module _ {D : Type 0} {g : Ghosts D} where
  -- a store that was made in a database which then was closed
  copied_new : (old new : Held (FileStore D g)) (files : Files D) → (HasCleanDisk (file_state new) → Creates true (file_state old) (file_state new)) → IsCopied new files
      → IsNewStore (image_of g files).db
  copied_new old new files made copied = ∥∥₁_map copied.seen.alone (λ held. ((file_state new).committed.trees, held, committed (made copied.was_clean)))

pub returns-in-Ok-made : goal.returns-in-Ok-made
returns-in-Ok-made g c = λ clean.
    copied_new c.in-Ok.conn c.ready_in_files-made.result.1 c.in_ok-files.files
    (λ was. subst (λ r. IsReadyIn over_files true r c.in-Ok.conn c.ready_in_files-made.result.1) c.in-Ok-made.is (c.ready_in_files-made.ensures was))
    (c.in_ok-files.ensures clean)
