use Rattle.std.proofs.Common.{◌≡◌, ℕ, List, [], ◌∷◌, ◌++◌, ap, refl, subst, sym, ◌∙◌, inl, inr}
use Rattle.sqlite_value.specs.declared.value.Value.TheVariants.{Blob}
use Rattle.sqlite_value.specs.Keys.{plain}
use Rattle.sqlite_value.specs.Order.{Row}
use Rattle.sqlite_trees.specs.Tree.{Trees}
use Rattle.sqlite_disk.specs.declared.Disk.{Ghosts}
use Rattle.page_files.specs.declared.files.PageFile.{PageFile}
use Rattle.page_files.specs.Files.{FailsToRead}
use Rattle.plain_tables.specs.Tables.{Tables}
use Rattle.plain_tables.specs.declared.errors.StoreError.{StoreError}
use Rattle.page_places.specs.Stores.{HoldsNames}
use Rattle.page_rows.specs.Walks.{FailsToWalk, MayRefuse}
use Rattle.page_rows.specs.declared.errors.WalkError.{WalkError}
use Rattle.page_rows.specs.declared.errors.WalkError.TheVariants.{Pages, Refused}
use Rattle.page_places.specs.Failures.{end_of_walk}
use Rattle.page_places.specs.Names.{FailsToFind, IsRefused}
use Rattle.page_files.proofs.Standing.{catalog_shown, entries_in_order, index_stands, tree_shown}
use Rattle.page_places.proofs.Placing.{index_placed_at}
use Rattle.page_rows.specs.Indexes.{from_entry}
use Rattle.page_places.proofs.Finding.{found_is, nothing_is, refused_is_wide}
use Rattle.std.proofs.lemmas.Result.{err_from_is_err_and}
use Rattle.sqlite_pages.specs.declared.error.Error.TheVariants.{OutOfMemory}
use Rattle.page_places.proofs.names.find_name.Goals as goal

module _ {D : Type 0} {g : Ghosts D} (old new : PageFile D g) where
  -- what ended the walk has a cause
  why : (error : WalkError StoreError) (t : Tables) (now : Trees) → HoldsNames t now → (name : List ℕ) (from : Row) {shown : List Row} {e : StoreError} → e ≡ end_of_walk error → shown ≡ now 12
      → FailsToWalk (FailsToRead old new) (MayRefuse IsRefused (from_entry plain from shown)) error → FailsToFind old new t e
  why (Pages error) t now holds name from is tree fails = inl (error, fails, is)
  why (Refused end) t now holds name from is tree fails =
      let wide = refused_is_wide t now holds name from end (subst (λ l. MayRefuse IsRefused (from_entry plain from l) end) tree fails) in inr (is ∙ wide.0, wide.1)

pub returns-in_err-push-clause-told : goal.returns-in_err-push-clause-told
returns-in_err-push-clause-told g c clean = λ t known shows root.
    let p = err_from_is_err_and c.from_residual.result c.from_residual.ensures.1 in rw (p.1, p.2) (inl (OutOfMemory, tt, refl))

pub returns-in-Ok-clause-told : goal.returns-in-Ok-clause-told
returns-in-Ok-clause-told g c clean = λ t known shows root.
    let file = c.args.file.now in
    let name = c.args.name.now in
    let now = shows.db in
    let placed = index_placed_at shows.wanted now (catalog_shown file shows.stands) shows.holds.sound 6 _ refl in
    let index = index_stands file shows.stands 12 placed.low _ placed.named.shape placed.plain root in
    let tree = tree_shown file shows.stands 12 placed.low in
    let up = subst (Rattle.sqlite_trees.specs.Tree.IsIndex plain) tree (entries_in_order file index) in
    let from = c.in_ok-push.ensures.ok ∙ ap (λ l. l ++ Blob name ∷ []) c.new-from.ensures in
    let all = ap (λ row. from_entry plain row (now 12)) (sym from) ∙ ap (from_entry plain c.push.new.self) (sym tree) in
    elim (c.in-Ok.ensures.done clean shows.wanted 12 index name (refl, refl, refl)) [
      | inl none ↦ none.1 ∙ nothing_is t now shows.holds name up (all ∙ none.2)
      | inr (front, rest, parts, ends) ↦ found_is t now shows.holds name up front rest _ (all ∙ parts) ends
    ]

pub returns-clause-told : goal.returns-clause-told
returns-clause-told g c clean = λ t known shows root.
    let file = c.args.file.now in
    let now = shows.db in
    let placed = index_placed_at shows.wanted now (catalog_shown file shows.stands) shows.holds.sound 6 _ refl in
    let index = index_stands file shows.stands 12 placed.low _ placed.named.shape placed.plain root in
    let tree = tree_shown file shows.stands 12 placed.low in
    why file c.walk_entries.new.self c.in-Err.error t now shows.holds c.args.name.now c.push.new.self c.error_of_walk.ensures tree
    (c.in-Err.ensures.done clean shows.wanted 12 index c.args.name.now (refl, refl, refl))
