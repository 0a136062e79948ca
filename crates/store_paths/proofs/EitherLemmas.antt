-- A file of one kind or of another stays frozen as what it holds.
use Rattle.std.specs.Prelude.{Result, IsErr, IsTrue}
use Rattle.sqlite_disk.specs.declared.Disk.{Ghosts}
use Rattle.sqlite_disk.specs.Disk.{StaysFrozen}
use Rattle.store_paths.specs.declared.either.EitherDisk.{EitherDisk}
use Rattle.store_paths.specs.declared.either.EitherDisk.TheVariants.{One, Other}
use Rattle.store_paths.specs.Either.{shown_by, left_by}

module _ {A B T E : Type 0} (a : Ghosts A) (b : Ghosts B) where
  abbrev Stays : Result T E → EitherDisk A B → EitherDisk A B → Type 0
  Stays r old new =
      IsTrue (shown_by a.is_frozen b.is_frozen old)
      → IsErr r × StaysFrozen (shown_by a.seen b.seen) (left_by a.may_leave b.may_leave) (shown_by a.is_clean b.is_clean) (shown_by a.is_frozen b.is_frozen) old new

  pub frozen_one : (r : Result T E) {old new : A} → (IsTrue (a.is_frozen old) → IsErr r × StaysFrozen a.seen a.may_leave a.is_clean a.is_frozen old new) → Stays r (One old) (One new)
  frozen_one r said is = (
    (said is).0,
    record { frozen = (said is).1.frozen; same = (said is).1.same; clean = (said is).1.clean; no_more = (said is).1.no_more; no_fewer = (said is).1.no_fewer },
  )

  pub frozen_other : (r : Result T E) {old new : B} → (IsTrue (b.is_frozen old) → IsErr r × StaysFrozen b.seen b.may_leave b.is_clean b.is_frozen old new) → Stays r (Other old) (Other new)
  frozen_other r said is = (
    (said is).0,
    record { frozen = (said is).1.frozen; same = (said is).1.same; clean = (said is).1.clean; no_more = (said is).1.no_more; no_fewer = (said is).1.no_fewer },
  )
