use Rattle.std.proofs.Common.{◌≡◌, ℤ, [], ◌∷◌, true, Some, filter, refl, sym, ap, subst, subst₂, inl, ◌∙◌, to_z-of_z, to_z, of_z, w64}
use Rattle.sqlite_pool.specs.StoredLaws.{Keeps-trans}
use Rattle.sqlite_record.specs.Record.{decode}
use Rattle.sqlite_rules.specs.Lists.{Has}
use Rattle.sqlite_rules.proofs.ListLemmas.{has_filtered}
use Rattle.sqlite_store.specs.Db.{table_row}
use Rattle.sqlite_trees.specs.Tree.{has_rowid, put_row}
use Rattle.sqlite_trees.specs.View.{Finds}
use Rattle.sqlite_value.specs.declared.value.Value.TheVariants.{Int, Null, Text}
use Rattle.sqlite_value.specs.Order.{Row}
use Rattle.page_files.specs.Trees.{trees_of}
use Rattle.page_files.proofs.Steps.{writes_after}
use Rattle.plain_tables.specs.Tables.{GroupRow}
use Rattle.page_places.specs.Changes.{HasRows, KeepsEntries}
use Rattle.page_places.specs.Places.{indexes_of}
use Rattle.page_places.proofs.Outcomes.{table_shows}
use Rattle.prof_store.specs.Schema.{schema_two, grp_at}
use Rattle.prof_store.specs.Tables.{number}
use Rattle.page_changes.proofs.baselines.clear_one.Goals as goal

pub returns-in-Ok-clause-leaves : goal.returns-in-Ok-clause-leaves
returns-in-Ok-clause-leaves g c = record { usable = c.in-Ok.ensures.leaves.usable; keeps = Keeps-trans _ _ _ c.find_row.ensures.reads.keeps c.replace.ensures.leaves.keeps }

pub returns-clause-leaves : goal.returns-clause-leaves
returns-clause-leaves g c = record { usable = tt; keeps = Keeps-trans _ _ _ c.find_row.ensures.reads.keeps c.replace.ensures.leaves.keeps }

pub returns-in-Ok-clause-done : goal.returns-in-Ok-clause-done
returns-in-Ok-clause-done g c faithful = λ wanted known was now t holds shows.
    let old = c.args.file.now in
    let mid = c.find_row.new.self in
    let before = c.replace.ensures.leaves.keeps.stays.clean faithful in
    let payload = c.find_row.new.payload.items in
    let id = to_z w64 (of_z w64 c.args.rowid) in
    let same : id ≡ c.args.rowid = to_z-of_z c.ranges.rowid in
    let at = table_shows old shows in
    let found = subst (λ rows. Finds rows id (table_row (id, payload)) true) at.1 (subst (Finds (trees_of wanted old 19) id (table_row (id, payload))) c.in-Ok-true.field-0-test (c.in-Ok-true.ensures.done before wanted 19 at.0)) in
    let row : Row = Int c.args.rowid ∷ decode payload in
    let one : filter (has_rowid c.args.rowid) (now 19) ≡ row ∷ [] = subst (λ n. Finds (now 19) n (table_row (n, payload)) true) same found in
    let name = c.in_ok-name.name.now in
    let is : decode payload ≡ Text name ∷ number c.args.run ∷ [] = ap decode (sym c.as_slice.ensures.value) ∙ c.in_ok-name.ensures in
    let read : Row = Int c.args.rowid ∷ Text name ∷ number c.args.run ∷ [] in
    let there : Has (now 19) read = subst (λ r. Has (now 19) (Int c.args.rowid ∷ r)) is (has_filtered (has_rowid c.args.rowid) (now 19) row (subst (λ l. Has l row) (sym one) (inl refl))).0 in
    let w = writes_after old mid c.find_row.ensures.reads before c.in-Ok-true.ensures.usable shows.writes in
    let keeps : KeepsEntries c.args.rowid (Text name ∷ Null ∷ []) (now 19) (indexes_of schema_two grp_at) = (Text name ∷ number c.args.run ∷ [], there, ((refl, tt), tt)) in
    let file = c.replace.new.file in
    let put = c.in-Ok.ensures.done faithful schema_two wanted known was now grp_at (record { writes = w; placed = shows.placed; indexed = shows.indexed })
    (subst₂ (λ (n : ℤ) (r : Row). KeepsEntries n r (now 19) (indexes_of schema_two grp_at)) (sym same) (sym c.in_ok-columns.ensures) keeps) in
    let clear : GroupRow = record { name = name; baseline = Some c.args.run } in
    record {
      group = clear;
      there = there;
      based = refl;
      rows = subst₂ (λ (n : ℤ) (r : Row). HasRows schema_two wanted known was now grp_at (put_row (Int n ∷ r) (now 19)) file) same c.in_ok-columns.ensures put;
    }
