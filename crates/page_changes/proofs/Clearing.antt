-- A run is the baseline of groups no more, one row after another.
use Rattle.std.proofs.Common.{◌≡◌, ◌<◌, ℕ, ℤ, Bool, true, false, if◌then◌else◌, List, [], ◌∷◌, map, filter, drop, length, Option, None, Some, arith, refl, sym, ap, subst, inl, inr, ◌∙◌}
use Rattle.std.specs.List.{list_any}
use Rattle.std.proofs.lemmas.Bool.{both_ways, eq-eqb, false_from_ne_true}
use Rattle.sqlite_disk.specs.declared.Disk.{Ghosts}
use Rattle.sqlite_pool.specs.Pool.{state}
use Rattle.sqlite_pool.specs.Stored.{Keeps}
use Rattle.sqlite_rules.specs.Edit.{id_in}
use Rattle.sqlite_rules.specs.Lists.{Has}
use Rattle.sqlite_rules.proofs.ListLemmas.{all_has, has_filtered, has_kept, some_from, some_has}
use Rattle.sqlite_rules.proofs.ProbeLemmas.{has_mapped, mapped_has}
use Rattle.sqlite_store.specs.declared.catalog.Wanted.{Wanted}
use Rattle.sqlite_trees.specs.declared.store.Shape.TheVariants as shape
use Rattle.sqlite_trees.specs.Tree.{Trees, has_rowid, rowid}
use Rattle.sqlite_trees.specs.View.{IsShaped}
use Rattle.sqlite_value.specs.declared.value.Value.TheVariants.{Int}
use Rattle.sqlite_value.specs.Order.{Row}
use Rattle.sql_tables.proofs.Rows.{Numbered, id_of, own_id}
use Rattle.page_files.specs.declared.files.PageFile.{PageFile}
use Rattle.page_files.specs.Files.{IsFaithful, IsUsable}
use Rattle.page_files.specs.Held.{Writes}
use Rattle.plain_tables.specs.Changes.{has_baseline, is_baseline, is_named, unbased}
use Rattle.plain_tables.specs.Tables.{Tables, GroupRow}
use Rattle.page_places.specs.declared.places.Place.{Place}
use Rattle.page_places.specs.Changes.{Shows}
use Rattle.row_writes.specs.Tests.{rowids_of}
use Rattle.prof_store.specs.Schema.{schema_two, grp_at}
use Rattle.prof_store.specs.Tables.{Holds, group_columns}
use Rattle.page_places.specs.Unused.{cleared}
use Rattle.page_places.proofs.Cleared.{cleared_all, still_to_clear}
use Rattle.page_places.proofs.Contents.{line_of, row_of_line}
use Rattle.page_places.proofs.OneLine.{group_put}
use Rattle.page_places.proofs.OneRow.{put_over, put_replaces}
use Rattle.page_places.proofs.Store.{groups_lined, groups_there}
use Rattle.page_changes.specs.Removed.{group_at, HasCleared, is_second, without_baselines}
use Rattle.page_changes.proofs.Columns.{null_is_no_number}
use Rattle.page_changes.proofs.RemovalPlaces.{same_number}

-- a row's second column tells whether the run is the group's baseline
second_based : (n : ℕ) (id : ℤ) (x : GroupRow) → is_second n (group_at id x) ≡ has_baseline n x
second_based n id x = go x.baseline
  where
    go : (b : Option ℕ) → is_second n (group_at id (record x { baseline = b })) ≡ is_baseline n b
    go None = null_is_no_number n
    go (Some m) = same_number m n

-- each row of the run has one of these rowids
abbrev pub AreSought : ℕ → Trees → List ℤ → Type 0
AreSought n now ids = (row : Row) → Has (now 19) row → is_second n row ≡ true → Has ids (id_in (rowid row))

-- the rowids of the rows that the test takes
pub sought_picked : (n : ℕ) (now : Trees) (ids : List ℤ) → ids ≡ rowids_of (filter (is_second n) (now 19)) → AreSought n now ids
sought_picked n now ids is row there second =
    subst (λ l. Has l (id_in (rowid row))) (sym is) (mapped_has (λ (r : Row). id_in (rowid r)) (filter (is_second n) (now 19)) row (has_kept (is_second n) (now 19) row there second))

-- where the run is no baseline, none is sought
pub none_sought : (n : ℕ) (t : Tables) (now : Trees) (ids : List ℤ) → Holds t now → ids ≡ rowids_of (filter (is_second n) (now 19)) → list_any (has_baseline n) t.groups ≡ false → 0 < length ids → ⊥
none_sought n t now [] holds is none some = omega (arith, some)
none_sought n t now (id ∷ ids) holds is none some =
    let row = has_mapped (λ (r : Row). id_in (rowid r)) (filter (is_second n) (now 19)) id (subst (λ l. Has l id) is (inl refl)) in
    let kept = has_filtered (is_second n) (now 19) row.0 row.1 in
    let line = line_of grp_at group_columns (now 19) t.groups (groups_lined t now holds) row.0 kept.0 in
    let based : has_baseline n line.0 ≡ true = sym (second_based n (id_of row.0) line.0) ∙ sym (ap (is_second n) line.2) ∙ kept.1 in
    both_ways _ none (some_from (has_baseline n) t.groups line.0 line.1 based)

module _ {D : Type 0} {g : Ghosts D} where
  -- some groups have lost it; the rows of those that have it have these rowids
  pub record IsClearing (n : ℕ) (t : Tables) (wanted : List Wanted) (known : List ℕ) (was : Trees) (ids : List ℤ) (it : PageFile D g) : Type 0 where
    pub next : Trees
    pub groups : List GroupRow
    pub writes : Writes wanted known was next it
    pub holds : Holds (record t { groups = groups }) next
    pub same : map (cleared n) groups ≡ map (cleared n) t.groups
    pub left : AreSought n next ids

  module _ (n : ℕ) (t : Tables) (wanted : List Wanted) (known : List ℕ) (was : Trees) where
    -- none has lost it yet
    pub none_cleared : (now : Trees) (ids : List ℤ) (it : PageFile D g) → Writes wanted known was now it → Holds t now → AreSought n now ids → IsClearing n t wanted known was ids it
    none_cleared now ids it w holds sought = record { next = now; groups = t.groups; writes = w; holds = holds; same = refl; left = sought }

    -- the table stays in its place
    pub shows_clearing : (place : Place) (now : Trees) (ids : List ℤ) (old it : PageFile D g) → Shows place schema_two wanted known was now grp_at old → (d : IsClearing n t wanted known was ids it) → Shows place schema_two wanted known was d.next grp_at it
    shows_clearing place now ids old it shows d = record { writes = d.writes; placed = shows.placed; indexed = d.holds.contain.sound.obeys.indexed }

    -- one more has lost it
    pub one_cleared : (id : ℤ) (ids : List ℤ) (mid new : PageFile D g) (d : IsClearing n t wanted known was (id ∷ ids) mid) → HasCleared mid new wanted known was d.next id n → IsClearing n t wanted known was ids new
    one_cleared id ids mid new d c = record {
      next = c.rows.next;
      groups = map (λ x. if is_named c.group.name x then unbased x else x) d.groups;
      writes = c.rows.writes;
      holds = group_put held d.next d.holds c.rows.next unbased id c.group c.there c.rows.only (subst (IsShaped shape.Table) (sym c.rows.rows_are) c.rows.shaped) c.rows.rows_are refl (λ m is. absurd cc);
      same = still_to_clear held d.next c.rows.next d.holds n id c.group c.there (ap (is_baseline n) c.based ∙ eq-eqb n n refl) ∙ d.same;
      left = λ row there second.
          let turned : c.rows.next 19 ≡ map (put_over id columns) (d.next 19) = c.rows.rows_are ∙ put_replaces id columns (d.next 19) (group_at id c.group) shaped.0 c.there (own_id (group_at id c.group) refl) in
          let r = has_mapped (put_over id columns) (d.next 19) row (subst (λ l. Has l row) turned there) in
          stays row r.0 r.1 second (has_rowid id r.0) refl r.2;
    }
      where
        held : Tables
        held = record t { groups = d.groups }

        columns : Row
        columns = group_columns (unbased c.group)

        shaped : IsShaped shape.Table (d.next 19)
        shaped = (groups_there held d.next d.holds).numbered

        later : (r : Row) → Has (d.next 19) r → has_rowid id r ≡ false → Has (id ∷ ids) (id_in (rowid r)) → Has ids (id_in (rowid r))
        later r there other (inl same) = absurd (both_ways _ other (subst (λ i. has_rowid i r ≡ true) same (own_id r (all_has Numbered (d.next 19) r shaped.1 there))))
        later r there other (inr more) = more

        stays : (row r : Row) → Has (d.next 19) r → is_second n row ≡ true → (b : Bool) → has_rowid id r ≡ b → row ≡ (if b then Int id ∷ columns else r) → Has ids (id_in (rowid row))
        stays row r there second true e is = absurd (both_ways _ (ap (is_second n) is ∙ null_is_no_number n) second)
        stays row r there second false e is = subst (λ q. Has ids (id_in (rowid q))) (sym is) (later r there e (d.left r there (sym (ap (is_second n) is) ∙ second)))

    -- all that had it have lost it
    pub all_cleared : (it : PageFile D g) → IsClearing n t wanted known was [] it → (next : Trees) × Writes wanted known was next it × Holds (without_baselines n t) next
    all_cleared it d =
        let held : Tables = record t { groups = d.groups } in
        let none : list_any (has_baseline n) d.groups ≡ false = false_from_ne_true _ (λ is.
        let x = some_has (has_baseline n) d.groups is in
        let r = row_of_line grp_at group_columns (d.next 19) d.groups (groups_lined held d.next d.holds) x.0 x.1 in
        d.left r.0 r.1 (ap (is_second n) r.2 ∙ second_based n (id_of r.0) x.0 ∙ x.2)) in
        (d.next, d.writes, subst (λ gs. Holds (record t { groups = gs }) d.next) (sym (cleared_all n d.groups none) ∙ d.same) d.holds)

  -- the rows with the first k rowids have lost it
  pub record HaveCleared (old file : PageFile D g) (place : Place) (ids : List ℤ) (n k : ℕ) : Type 0 where
    pub keeps : Keeps (state old.pool) (state file.pool)
    pub usable : IsUsable old → IsUsable file
    pub groups : IsFaithful file → (wanted : List Wanted) (known : List ℕ) (was now : Trees) (t : Tables) → Holds t now → Shows place schema_two wanted known was now grp_at old → AreSought n now ids
        → IsClearing n t wanted known was (drop k ids) file
