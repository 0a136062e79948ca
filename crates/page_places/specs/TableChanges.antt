-- One table of a database changes, its indexes with it, and nothing else; and what its rows have to be then.
use Rattle.std.specs.Prelude.{◌≡◌, ◌≢◌, ℕ, Bool, true, false, ◌==◌, if◌then◌else◌, ⊤, List, [], ◌∷◌, ◌++◌, Option, Some, None}
use Rattle.std.specs.List.{AllByRecursion, flat_map, list_any}
use Rattle.sqlite_value.specs.Order.{Row, column}
use Rattle.sqlite_trees.specs.Objects.{catalog_tree}
use Rattle.sqlite_trees.specs.Tree.{Trees, IsAscending}
use Rattle.sqlite_sql.specs.Catalog.{IsIndexOf}
use Rattle.sqlite_schema.specs.declared.schema.Among.TheVariants.{All}
use Rattle.sqlite_schema.specs.declared.schema.Reference.{Reference}
use Rattle.sqlite_schema.specs.declared.schema.Schema.{Schema}
use Rattle.sqlite_schema.specs.declared.schema.Table.{Table}
use Rattle.sqlite_schema.specs.Rules.{ParentKey, guards, has_parent, parent_key}
use Rattle.sqlite_rules.specs.Keys.{are_unique, have_parents}
use Rattle.sqlite_rules.specs.Lists.{Has}
use Rattle.sqlite_rules.specs.Steps.{PassAlone}

-- the table is one of the schema's, each of which has a tree of its own
pub record IsOneOf (schema : Schema) (table : Table) : Type 0 where
  pub apart : IsAscending (λ a b. a.tree ≡ b.tree → ⊥) schema.tables
  pub listed : Has schema.tables table

-- the list of the schema and each other table stay, and each index has an entry for each row of its table
pub record OnlyChanges (schema : Schema) (old new : Trees) (table : Table) : Type 0 where
  pub list_stays : new catalog_tree ≡ old catalog_tree
  pub others : (t : Table) → Has schema.tables t → t.tree ≢ table.tree → new t.tree ≡ old t.tree
  pub indexed : AllByRecursion (λ i. IsIndexOf i.columns (new i.table) (new i.tree)) schema.indexes

-- each other tree is as it was
abbrev pub SparesBut : List ℕ → Trees → Trees → Type 0
SparesBut trees old new = (tree : ℕ) → list_any (λ changed. changed == tree) trees ≡ false → new tree ≡ old tree

-- ---- rows put behind the others

-- each has its columns' types, no NULL where none may be, and keeps each CHECK; no key comes twice; each parent is there
pub record AreFit (schema : Schema) (new : Trees) (table : Table) (news : List Row) : Type 0 where
  pub alone : PassAlone table news
  pub unique : are_unique schema.indexes new table news ≡ true
  pub parents : have_parents All schema.tables new table.references news ≡ true

-- ---- rows taken out

-- whether a reference is to this tree
abbrev pub is_to : ℕ → Option ParentKey → Bool
is_to tree None = false
is_to tree (Some key) = key.0 == tree

-- a fact, where a test holds
abbrev pub Where : Bool → Type 0 → Type 0
Where true P = P
Where false P = ⊤

-- each row of the table has the parent that it refers to
abbrev pub HaveParents : Schema → Trees → Table → Reference → Type 0
HaveParents schema db table ref = (row : Row) → Has (db table.tree) row → has_parent schema.tables db row ref ≡ true

-- each row that refers to the table still has its parent
abbrev pub StillRefer : Schema → Trees → Table → Type 0
StillRefer schema new table =
    AllByRecursion (λ t. AllByRecursion (λ ref. Where (is_to table.tree (parent_key schema.tables ref)) (HaveParents schema new t ref)) t.references) schema.tables

-- ---- rows replaced

-- the places of the tree that a reference reads
abbrev pub places_at : ℕ → Option ParentKey → List ℕ
places_at tree None = []
places_at tree (Some key) = if key.0 == tree then key.1 else []

-- the places that the rowid, the unique indexes of the table and the references to it read
abbrev pub key_places : Schema → Table → List ℕ
key_places schema table =
    0
    ∷ (flat_map (λ i. if guards i table then i.columns else []) schema.indexes
    ++ flat_map (λ t. flat_map (λ ref. places_at table.tree (parent_key schema.tables ref)) t.references) schema.tables)

-- the rows are such as `AreFit` asks, and each has the keys of the row in whose place it stands
pub record AreReplaced (schema : Schema) (old new : Trees) (table : Table) (turn : Row → Row) : Type 0 where
  pub alone : PassAlone table (new table.tree)
  pub keys : (row : Row) → Has (old table.tree) row → AllByRecursion (λ place. column (turn row) place ≡ column row place) (key_places schema table)
  pub parents : have_parents All schema.tables new table.references (new table.tree) ≡ true
