-- Rows taken out of a tree, one part after another.
use Rattle.std.proofs.Common.{◌≡◌, ℕ, ◌+◌, ◌-◌, ℤ, List, [], ◌∷◌, ◌++◌, Result, MatchResult, refl, sym, ap, subst, arith}
use Rattle.sqlite_pages.specs.PageMap.{PageMap}
use Rattle.sqlite_pages.specs.declared.error.Error.{Error}
use Rattle.sqlite_pages.specs.declared.pages.Pages.{Ghosts}
use Rattle.sqlite_pages.specs.Calls.{IsClean, Continues}
use Rattle.sqlite_btree.proofs.Results.{so_ok, steps_on}
use Rattle.sqlite_value.specs.Order.{Row}
use Rattle.sqlite_trees.specs.declared.store.Shape.{Shape}
use Rattle.sqlite_trees.specs.Tree.{without_rowid}
use Rattle.sqlite_store.specs.declared.catalog.Wanted.{Wanted}
use Rattle.sqlite_store.specs.Db.{IsDb, Names, Edits}
use Rattle.sqlite_store.specs.Limit.{HasDeepTree}
use Rattle.page_files.specs.Removals.{without_rowids, FailsToThin, Thins, ThinsBy, WasDeep}
use Rattle.page_files.specs.OneTree.{EditsTree}
use Rattle.page_files.proofs.Placing.{edits_twice, names_after}

pub without_rowids-append : (first next : List ℤ) (rows : List Row) → without_rowids (first ++ next) rows ≡ without_rowids next (without_rowids first rows)
without_rowids-append [] next rows = refl
without_rowids-append (id ∷ first) next rows = without_rowids-append first next (without_rowid id rows)

module _ {P : Type 0} (g : Ghosts P) {first old : P} (new : P) (so : Continues g first old) {schema : List Wanted} {t root : ℕ} {shape : Shape}
    (names : Names (g.size first) schema (g.pages first) t shape root) (clean : IsClean g new) where
  -- what stood before an edit of the tree still does
  same_db : {edit : List Row → List Row} → Edits (g.size first) schema (g.pages first) (g.pages old) t edit → IsDb (g.size old) schema (g.pages old)
  same_db edits = subst (λ s. IsDb s schema (g.pages old)) (sym so.same_size) edits.db

  same_names : {edit : List Row → List Row} → Edits (g.size first) schema (g.pages first) (g.pages old) t edit → Names (g.size old) schema (g.pages old) t shape root
  same_names edits = subst (λ s. Names s schema (g.pages old) t shape root) (sym so.same_size) (names_after edits names)

  -- after an edit comes a call that makes another, or fails
  pub edit_next : {A : Type 0} (done : List Row → List Row) (edit : List Row → List Row) → Edits (g.size first) schema (g.pages first) (g.pages old) t done
      → (result : Result A Error) → EditsTree g old new shape root edit result
      → MatchResult result (λ _. Edits (g.size first) schema (g.pages first) (g.pages new) t (λ rows. edit (done rows))) (FailsToThin g first new root)
  edit_next done edit edits result calls =
      so_ok result (λ _. Edits (g.size old) schema (g.pages old) (g.pages new) t edit) _ (g.faults first) (g.faults old) _ (HasDeepTree (g.size old) (g.pages old) root) (WasDeep g first root)
      (omega (arith, so.more_faults)) (λ deep. record { mid = old; kept = so; deep = deep }) (calls clean schema t (same_db edits) (same_names edits))
      (λ _ e. edits_twice edits (subst (λ s. Edits s schema (g.pages old) (g.pages new) t edit) so.same_size e))

  -- after a part comes another, or it fails
  pub part_next : {A : Type 0} (trans : (a b c : P) → g.follows a b → g.follows b c → g.follows a c) (done : List Row → List Row) → Edits (g.size first) schema (g.pages first) (g.pages old) t done
      → (Fact : (size : ℕ) → List Wanted → PageMap → PageMap → ℕ → A → Type 0) (result : Result A Error) → ThinsBy g old new shape root Fact result
      → MatchResult result (Fact (g.size first) schema (g.pages old) (g.pages new) t) (FailsToThin g first new root)
  part_next trans done edits Fact result calls =
      so_ok result (Fact (g.size old) schema (g.pages old) (g.pages new) t) (Fact (g.size first) schema (g.pages old) (g.pages new) t) (g.faults first) (g.faults old) _ (WasDeep g old root) (WasDeep g first root)
      (omega (arith, so.more_faults)) (λ d. record { mid = d.mid; kept = steps_on trans so d.kept; deep = d.deep }) (calls clean schema t (same_db edits) (same_names edits))
      (λ a fact. subst (λ s. Fact s schema (g.pages old) (g.pages new) t a) so.same_size fact)
