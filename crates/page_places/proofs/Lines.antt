-- Any table of the store: lines behind the others, and lines taken out.
use Rattle.std.proofs.Common.{◌≡◌, ℕ, ℤ, List, [], ◌∷◌, ◌++◌, map, filter, slice_get, Bool, true, false, not, ◌||◌, cond, Some, refl, sym, ap, subst, ◌∙◌}
use Rattle.std.specs.List.{AllByRecursion, list_any}
use Rattle.sqlite_value.specs.declared.value.Value.TheVariants.{Int}
use Rattle.sqlite_value.specs.Order.{Row}
use Rattle.sqlite_trees.specs.Tree.{Trees}
use Rattle.sqlite_trees.specs.View.{IsShaped}
use Rattle.sqlite_trees.specs.declared.store.Shape.TheVariants as shape
use Rattle.sqlite_schema.specs.declared.schema.Table.{Table}
use Rattle.sqlite_rules.specs.Lists.{Has}
use Rattle.sql_tables.specs.Contents.{Contain, IsContent, content_at, rows_that_count, stands_alone, with_content}
use Rattle.sql_tables.proofs.Contents.{content_there}
use Rattle.sql_tables.proofs.Deletes.{row_of}
use Rattle.sql_tables.proofs.Rows.{Numbered, id_of}
use Rattle.plain_tables.specs.Tables.{Tables}
use Rattle.prof_store.specs.Schema.{schema_two}
use Rattle.prof_store.specs.Tables.{Holds, contents_of}
use Rattle.page_places.specs.TableChanges.{AreFit, OnlyChanges, StillRefer}
use Rattle.page_places.proofs.Behind.{sound_behind}
use Rattle.page_places.proofs.Contents.{Lined, contain_changed, content_of, lined, lined_append, lined_content, lined_filter}
use Rattle.page_places.proofs.Store.{one_of}
use Rattle.page_places.proofs.TakenOut.{sound_filtered}

-- a test leaves none of what it takes out
pub none_left : {X : Type 0} (p : X → Bool) (xs : List X) → list_any p (filter (λ x. not (p x)) xs) ≡ false
none_left p [] = refl
none_left {X} p (x ∷ xs) = go (p x) refl (none_left p xs)
  where
    go : (b : Bool) → p x ≡ b → list_any p (filter (λ y. not (p y)) xs) ≡ false → list_any p (cond (not b) (x ∷ filter (λ y. not (p y)) xs) (filter (λ y. not (p y)) xs)) ≡ false
    go true e more = more
    go false e more = ap (λ b. b || list_any p (filter (λ y. not (p y)) xs)) e ∙ more

last_of_all : {X : Type 0} (P : X → Type 0) (xs ys : List X) → AllByRecursion P (xs ++ ys) → AllByRecursion P ys
last_of_all P [] ys all = all
last_of_all P (x ∷ xs) ys all = last_of_all P xs ys all.1

module _ (t : Tables) (db : Trees) (was : Holds t db) {X : Type 0} (at : ℕ) (table : Table) (columns : X → Row) (xs : List X) (there : slice_get schema_two.tables at ≡ Some table) (content_is : content_at at (contents_of t) ≡ map columns xs) where
  pub lines_there : Lined table columns (db table.tree) xs
  lines_there = lined_content table columns (db table.tree) xs (subst (λ c. IsContent table c (db table.tree)) content_is (content_there schema_two.tables (contents_of t) db at table there was.contain.contents_are))

  module _ (next : Trees) (alone : stands_alone table.tree at schema_two.tables ≡ true) (only : OnlyChanges schema_two db next table) (shaped : IsShaped shape.Table (next table.tree)) where
    -- lines that a test leaves
    pub lines_filtered : (keep : Row → Bool) (kept : X → Bool) → next table.tree ≡ filter keep (db table.tree)
        → ((id : ℤ) (x : X) → Has (db table.tree) (row_of table columns (Int id) x) → keep (row_of table columns (Int id) x) ≡ kept x) → StillRefer schema_two next table
        → Contain schema_two (with_content at (map columns (filter kept xs)) (contents_of t)) next
    lines_filtered keep kept left same still =
        let lines = lined_filter table columns keep kept (db table.tree) xs (λ r x has_r is. ap keep is ∙ same (id_of r) x (subst (Has (db table.tree)) is has_r)) lines_there in
        contain_changed schema_two (contents_of t) db next at table (map columns (filter kept xs)) there alone only (sound_filtered schema_two db next table keep only left was.contain.sound still)
        (content_of table columns (next table.tree) (filter kept xs) shaped (subst (λ l. Lined table columns l (filter kept xs)) (sym left) lines)) was.contain

    module _ (news : List Row) (ys : List X) (behind : next table.tree ≡ db table.tree ++ news) (news_are : rows_that_count table news ≡ map columns ys) where
      pub new_lines : Lined table columns news ys
      new_lines = lined table columns news ys (last_of_all Numbered (db table.tree) news (subst (AllByRecursion Numbered) behind shaped.1)) news_are

      -- lines behind the others
      pub lines_behind : AreFit schema_two next table news → Contain schema_two (with_content at (map columns (xs ++ ys)) (contents_of t)) next
      lines_behind fit =
          contain_changed schema_two (contents_of t) db next at table (map columns (xs ++ ys)) there alone only (sound_behind schema_two db next table news (one_of at table there) only behind was.contain.sound fit)
          (content_of table columns (next table.tree) (xs ++ ys) shaped (subst (λ l. Lined table columns l (xs ++ ys)) (sym behind) (lined_append table columns (db table.tree) news xs ys lines_there new_lines))) was.contain
