-- One table's content changes, and no other's.
use Rattle.std.proofs.Common.{◌≡◌, ◌≢◌, ℕ, zero, suc, List, [], ◌∷◌, Bool, true, false, not, ◌==◌, slice_get, Some, sym, subst}
use Rattle.std.proofs.lemmas.Bool.{and_parts, eq-eqb}
use Rattle.std.specs.List.{AllByRecursion, list_all}
use Rattle.sqlite_value.specs.Order.{Row}
use Rattle.sqlite_trees.specs.Tree.{Trees}
use Rattle.sqlite_schema.specs.declared.schema.Table.{Table}
use Rattle.sql_tables.specs.Contents.{IsContent, AllContents, content_at, with_content, stands_alone}

-- each other tree is as it was
abbrev pub Spares : ℕ → Trees → Trees → List Table → Type 0
Spares tree db next tables = AllByRecursion (λ (t : Table). t.tree ≢ tree → next t.tree ≡ db t.tree) tables

differs : (tree : ℕ) (t : Table) → not (t.tree == tree) ≡ true → t.tree ≢ tree
differs tree t h same = go (t.tree == tree) (eq-eqb t.tree tree same) h
  where
    go : (b : Bool) → b ≡ true → not b ≡ true → ⊥
    go true e h = cc
    go false e h = cc

-- tables none of which has the tree keep their contents
kept : (tables : List Table) (contents : List (List Row)) (db next : Trees) (tree : ℕ) → Spares tree db next tables → list_all (λ (t : Table). not (t.tree == tree)) tables ≡ true → AllContents tables contents db
    → AllContents tables contents next
kept [] [] db next tree same others h = h
kept [] (content ∷ contents) db next tree same others h = h
kept (t ∷ tables) [] db next tree same others h = h
kept (t ∷ tables) (content ∷ contents) db next tree same others h =
    let both = and_parts (not (t.tree == tree)) (list_all (λ (u : Table). not (u.tree == tree)) tables) others in
    (subst (IsContent t content) (sym (same.0 (differs tree t both.0))) h.0, kept tables contents db next tree same.1 both.1 h.1)

-- the table at a place has its content
pub content_there : (tables : List Table) (contents : List (List Row)) (db : Trees) (at : ℕ) (table : Table) → slice_get tables at ≡ Some table → AllContents tables contents db → IsContent table (content_at at contents) (db table.tree)
content_there [] contents db at table there h = absurd cc
content_there (t ∷ tables) [] db at table there h = absurd h
content_there (t ∷ tables) (content ∷ contents) db zero table there h = let same : t ≡ table = cc in subst (λ (u : Table). IsContent u content (db u.tree)) same h.0
content_there (t ∷ tables) (content ∷ contents) db (suc at) table there h = content_there tables contents db at table there h.1

-- the table at a place has another content, and each other table its own
pub content_changed : (tables : List Table) (contents : List (List Row)) (db next : Trees) (at : ℕ) (table : Table) (new : List Row) → slice_get tables at ≡ Some table → stands_alone table.tree at tables ≡ true
    → Spares table.tree db next tables → IsContent table new (next table.tree) → AllContents tables contents db → AllContents tables (with_content at new contents) next
content_changed [] contents db next at table new there alone same is h = absurd cc
content_changed (t ∷ tables) [] db next at table new there alone same is h = absurd h
content_changed (t ∷ tables) (content ∷ contents) db next zero table new there alone same is h =
    let first : t ≡ table = cc in (subst (λ (u : Table). IsContent u new (next u.tree)) (sym first) is, kept tables contents db next table.tree same.1 alone h.1)
content_changed (t ∷ tables) (content ∷ contents) db next (suc at) table new there alone same is h =
    let both = and_parts (not (t.tree == table.tree)) (stands_alone table.tree at tables) alone in
    (subst (IsContent t content) (sym (same.0 (differs table.tree t both.0))) h.0, content_changed tables contents db next at table new there both.1 same.1 is h.1)
