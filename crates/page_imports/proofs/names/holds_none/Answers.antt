use Rattle.std.proofs.Common.{◌≡◌, List, [], ◌∷◌, map, refl, sym, subst, ◌∙◌}
use Rattle.page_files.specs.Lasts.{IsLastRowid}
use Rattle.page_files.specs.Trees.{trees_of}
use Rattle.page_files.proofs.Standing.{catalog_shown, stands_writing, table_stands, tree_shown}
use Rattle.page_places.proofs.Failing.{reading_fails}
use Rattle.page_places.proofs.Placing.{placed_at}
use Rattle.sql_tables.proofs.Contents.{content_there}
use Rattle.prof_store.specs.Schema.{schema_two, name_at}
use Rattle.prof_store.specs.Tables.{contents_of}
use Rattle.page_imports.proofs.names.holds_none.Goals as goal

none_mapped : {X Y : Type 0} (f : X → Y) (xs : List X) → map f xs ≡ [] → xs ≡ []
none_mapped f [] none = refl
none_mapped f (x ∷ xs) none = absurd cc

pub returns-in-Ok-None-clause-told : goal.returns-in-Ok-None-clause-told
returns-in-Ok-None-clause-told g c clean = λ wanted known was t shows are _.
    let file = c.args.file.now in
    let now = shows.next in
    let stands = stands_writing file shows.writes in
    let placed = placed_at wanted now (catalog_shown file stands) shows.holds.contain.sound 5 name_at refl in
    let table = table_stands file stands 11 placed.low _ placed.named.shape placed.plain are.names in
    let none = subst (IsLastRowid (trees_of wanted file 11)) c.in-Ok-None.field-0-is (c.in-Ok-None.ensures.done clean wanted 11 table) in
    none_mapped _ t.names (sym (content_there schema_two.tables (contents_of t) now 5 name_at refl shows.holds.contain.contents_are).rows_are ∙ sym (tree_shown file stands 11 placed.low) ∙ none)

pub returns-in-Err-clause-told : goal.returns-in-Err-clause-told
returns-in-Err-clause-told g c clean = λ wanted known was t shows are.
    let file = c.args.file.now in
    let stands = stands_writing file shows.writes in
    let placed = placed_at wanted shows.next (catalog_shown file stands) shows.holds.contain.sound 5 name_at refl in
    let table = table_stands file stands 11 placed.low _ placed.named.shape placed.plain are.names in
    reading_fails file c.last_rowid.new.self c.in-Err.error _ c.error_of.ensures c.last_rowid.ensures.reads.keeps shows.writes.is_open clean (c.in-Err.ensures.done clean wanted 11 table)
