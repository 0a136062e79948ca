use Rattle.std.proofs.lemmas.Int.{ints}
use Rattle.std.proofs.Common.{rules, ◌≡◌, ◌-◌, ◌^◌, ◌≤ℤ◌, ◌+ℤ◌, ℕ, pos, List, length, IsTrue, inr, refl, sym, ap, subst, ◌∙◌, arith, to_z-of_z, to_z, of_z, w64}
use Rattle.sqlite_disk.specs.declared.Disk.{Ghosts}
use Rattle.sqlite_pool.specs.Pool.{state}
use Rattle.sqlite_pool.specs.Stored.{Keeps}
use Rattle.sqlite_rules.specs.Edit.{next_rowid}
use Rattle.sqlite_value.specs.Order.{Row}
use Rattle.page_files.specs.declared.files.PageFile.{PageFile}
use Rattle.page_files.specs.Files.{IsFaithful}
use Rattle.page_places.specs.Failures.{FailsToStore, failure_of_row}
use Rattle.page_places.proofs.Failing.{reading_fails}
use Rattle.plain_tables.specs.declared.errors.StoreError.{StoreError}
use Rattle.page_places.specs.Causes.{FailsToNumber}
use Rattle.page_places.specs.declared.errors.RowError.{RowError}
use Rattle.page_places.specs.declared.errors.RowError.TheVariants.{Pages, Unstorable, NoRowid}
use Rattle.page_places.proofs.Outcomes.{numbered_next}
use Rattle.line_fills.specs.Causes.{HasRoom, HasRoomFrom}
use Rattle.line_fills.specs.Rows.{first_from}
use Rattle.line_fills.proofs.Raised.{all_raised, first_above}
use Rattle.line_fills.proofs.fills.first_rowid.Goals as goal

pub returns-in-Some-clause-first : goal.returns-in-Some-clause-first
returns-in-Some-clause-first g c faithful = λ schema wanted roots was now table shows.
    let free = c.in-Ok.free in
    let same : to_z w64 (of_z w64 free) ≡ free = search (rules, to_z-of_z) in
    c.in-Some.ensures.first ∙ ap first_from (same ∙ (c.in-Ok.ensures.done faithful schema wanted roots was now table shows).0)

pub returns-in-Some-clause-above : goal.returns-in-Some-clause-above
returns-in-Some-clause-above g c faithful = λ schema wanted roots was now table shows.
    let free = c.in-Ok.free in
    let first = c.in-Some.first in
    let same : to_z w64 (of_z w64 free) ≡ free = search (rules, to_z-of_z) in
    let is : first ≡ first_from free = c.in-Some.ensures.first ∙ ap first_from same in
    all_raised free (pos first) (subst (λ n. free ≤ℤ pos n) (sym is) (first_above free)) (now table.tree) (c.in-Ok.ensures.done faithful schema wanted roots was now table shows).1

-- a rowid could not be found
not_numbered : {D : Type 0} {g : Ghosts D} (old new : PageFile D g) (rows : List Row) (count : ℕ) (error : RowError) (e : StoreError) → e ≡ failure_of_row error → Keeps (state old.pool) (state new.pool)
    → IsTrue (state old.pool).is_open → IsFaithful new → FailsToNumber old new rows error → FailsToStore old new (HasRoom rows count) e
not_numbered old new rows count (Pages error) e is keeps is_open faithful fails = reading_fails old new error e is keeps is_open faithful fails
not_numbered old new rows count Unstorable e is keeps is_open faithful fails = absurd fails
not_numbered old new rows count NoRowid e is keeps is_open faithful last =
    inr (is, λ room. no_room room (numbered_next rows (pos (2 ^ 63 - 1)) last))
  where
    no_room : HasRoom rows count → pos (2 ^ 63 - 1) +ℤ pos 1 ≡ next_rowid rows → ⊥
    no_room room same = let far : pos (2 ^ 63) ≤ℤ pos room.first = subst (λ z. z ≤ℤ pos room.first) (sym same) room.behind in grind (arith, ints, far, room.room)

pub returns-in-None-clause-failed : goal.returns-in-None-clause-failed
returns-in-None-clause-failed g c =
    let free = c.in-Ok.free in
    let same : to_z w64 (of_z w64 free) ≡ free = search (rules, to_z-of_z) in
    λ faithful schema wanted roots was now table shows.
    let next = c.in-Ok.ensures.done faithful schema wanted roots was now table shows in
    inr (refl, λ room. c.in-None.ensures.none refl (subst (λ z. HasRoomFrom z (length c.args.lines.now)) (sym (same ∙ next.0)) room))

pub returns-in-Err-clause-failed : goal.returns-in-Err-clause-failed
returns-in-Err-clause-failed g c faithful = λ schema wanted roots was now table shows.
    let new = c.free_rowid.new.file in
    not_numbered c.args.file.now new (now table.tree) (length c.args.lines.now) c.in-Err.error _ c.error_of_row.ensures c.free_rowid.ensures.reads.keeps shows.writes.is_open faithful
    (c.in-Err.ensures.done faithful schema wanted roots was now table shows)
