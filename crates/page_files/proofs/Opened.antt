-- A file that was just opened holds what it recovered to.
use Rattle.std.proofs.Common.{◌≡◌, sym, ap, subst, List}
use Rattle.sqlite_disk.specs.declared.Disk.{Ghosts}
use Rattle.sqlite_pages.specs.PageMap.{PageMap}
use Rattle.sqlite_pool.specs.File.{in_use}
use Rattle.sqlite_pool.specs.Pool.{state, IsClean}
use Rattle.sqlite_pool.proofs.StateLemmas.{settled}
use Rattle.sqlite_wal.proofs.LogLemmas.{SeenMayStay}
use Rattle.sqlite_store.specs.declared.catalog.Wanted.{Wanted}
use Rattle.sqlite_store.specs.Db.{roots_of}
use Rattle.sqlite_trees.specs.Tree.{Trees}
use Rattle.page_files.specs.declared.files.PageFile.{PageFile}
use Rattle.page_files.specs.Files.{page_size}
use Rattle.page_files.specs.Held.{Has, Rests}

pub opened : {D : Type 0} {g : Ghosts D} (it : PageFile D g) {wanted : List Wanted} {db : Trees} {pages : PageMap} → SeenMayStay g → IsClean it.pool
    → (state it.pool).committed ≡ pages → Has (page_size it) wanted db pages → Rests wanted (roots_of (page_size it) wanted (in_use (page_size it) pages)) db it
opened it {wanted} {db} {pages} stays tidy same has =
    let here : Has (page_size it) wanted db (state it.pool).committed = subst (Has (page_size it) wanted db) (sym same) has in
    record {
      clean = tidy;
      behind = record { has = λ _. here; left = λ left may. ((state it.pool).committed, (settled it.pool stays tidy.is_open).durable left may, here) };
      known = ap (λ p. roots_of (page_size it) wanted (in_use (page_size it) p)) (sym same);
    }
