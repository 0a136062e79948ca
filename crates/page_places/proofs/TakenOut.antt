-- A database that obeys its schema still does once a table lost rows that no row refers to.
use Rattle.std.proofs.Common.{◌≡◌, ◌≢◌, true, false, not, Bool, filter, Option, Some, None, refl, sym, ap, subst, inl, inr, ◌∙◌}
use Rattle.std.specs.List.{list_all}
use Rattle.std.proofs.lemmas.Bool.{and_from, and_parts, both_ways, cases_eq, cases_Bool, eq-eqb, false_from_ne_true, not-true, not_from_false, or_cases, or_left, or_right}
use Rattle.sqlite_value.specs.Order.{Row}
use Rattle.sqlite_trees.specs.Tree.{Trees}
use Rattle.sqlite_schema.specs.declared.schema.Among.TheVariants.{All}
use Rattle.sqlite_schema.specs.declared.schema.Constraint.{Constraint}
use Rattle.sqlite_schema.specs.declared.schema.Constraint.TheVariants.{Datatype, NotNull, Check, PrimaryKey, Unique, ForeignKey}
use Rattle.sqlite_schema.specs.declared.schema.Reference.{Reference}
use Rattle.sqlite_schema.specs.declared.schema.Schema.{Schema}
use Rattle.sqlite_schema.specs.declared.schema.Table.{Table}
use Rattle.sqlite_schema.specs.Rules.{ParentKey, guards, has_null, has_parent, is_held, parent_key, passes}
use Rattle.sqlite_rules.specs.Lists.{Has}
use Rattle.sqlite_rules.proofs.ListLemmas.{all_from, all_has, has_filtered, some_from, some_has, test_from, test_has}
use Rattle.sqlite_rules.proofs.RuleLemmas.{keeps_at, keeps_from, obeyed, parent_is_table, refers_at, refers_from}
use Rattle.sqlite_catalog.specs.Listing.{IsSound, Lists}
use Rattle.page_places.specs.TableChanges.{OnlyChanges, StillRefer, Where, is_to}

pub where_true : (b : Bool) (P : Type 0) → Where b P → b ≡ true → P
where_true true P h is = h
where_true false P h is = absurd cc

where_false : (b : Bool) (P : Type 0) → not b ≡ true → Where b P
where_false true P h = absurd cc
where_false false P h = tt

-- nothing refers to the table
pub still_unreferred : (schema : Schema) (new : Trees) (table : Table) → list_all (λ t. list_all (λ ref. not (is_to table.tree (parent_key schema.tables ref))) t.references) schema.tables ≡ true → StillRefer schema new table
still_unreferred schema new table none = all_from _ schema.tables (λ t listed. all_from _ t.references (λ ref known.
    where_false (is_to table.tree (parent_key schema.tables ref)) _ (test_has _ t.references ref (test_has _ schema.tables t none listed) known)))

module _ (schema : Schema) (old new : Trees) (table : Table) (only : OnlyChanges schema old new table) (fewer : (row : Row) → Has (new table.tree) row → Has (old table.tree) row) where
  was : (t : Table) (row : Row) → Has schema.tables t → Has (new t.tree) row → Has (old t.tree) row
  was t row listed there = elim (cases_eq t.tree table.tree) [
    | inl same ↦ subst (λ n. Has (old n) row) (sym same) (fewer row (subst (λ n. Has (new n) row) same there))
    | inr other ↦ subst (λ rows. Has rows row) (only.others t listed other) there
  ]

  -- where fewer rows stand, fewer keys clash
  unique : (t : Table) (row : Row) → Has schema.tables t → passes Unique schema old t row ≡ true → passes Unique schema new t row ≡ true
  unique t row listed pass = test_from _ schema.indexes (λ i known. not_from_false _ (false_from_ne_true _ (λ both.
      let parts = and_parts (guards i t) _ both in
      let other = some_has _ (new t.tree) parts.1 in
      both_ways _ (not-true _ (test_has _ schema.indexes i pass known)) (and_from _ _ parts.0 (some_from _ (old t.tree) other.0 (was t other.0 listed other.1) other.2)))))

  passed : (rule : Constraint) (t : Table) (row : Row) → Has schema.tables t → rule ≢ ForeignKey → passes rule schema old t row ≡ true → passes rule schema new t row ≡ true
  passed Datatype t row listed other pass = pass
  passed NotNull t row listed other pass = pass
  passed Check t row listed other pass = pass
  passed PrimaryKey t row listed other pass = pass
  passed Unique t row listed other pass = unique t row listed pass
  passed ForeignKey t row listed other pass = absurd (other refl)

  -- a parent in another table is still there
  held : (ref : Reference) (row : Row) (key : Option ParentKey) → parent_key schema.tables ref ≡ key → is_to table.tree key ≡ false → is_held old ref.columns row key ≡ true → is_held new ref.columns row key ≡ true
  held ref row None is away there = there
  held ref row (Some key) is away there =
      let t = parent_is_table schema.tables ref key is in
      let other : t.0.tree ≢ table.tree = λ same. both_ways _ away (eq-eqb key.0 table.tree (sym t.2 ∙ same)) in
      let rows : new key.0 ≡ old key.0 = ap new (sym t.2) ∙ only.others t.0 t.1 other ∙ ap old t.2 in
      let parent = some_has _ (old key.0) there in some_from _ (new key.0) parent.0 (subst (λ l. Has l parent.0) (sym rows) parent.1) parent.2

  parent_kept : (ref : Reference) (row : Row) → is_to table.tree (parent_key schema.tables ref) ≡ false → has_parent schema.tables old row ref ≡ true → has_parent schema.tables new row ref ≡ true
  parent_kept ref row away there = elim (or_cases (has_null ref.columns row) _ there) [
    | inl none ↦ or_left _ _ none
    | inr is ↦ or_right _ _ (held ref row _ refl away is)
  ]

  pub sound_fewer : IsSound schema old → StillRefer schema new table → IsSound schema new
  sound_fewer sound still = record {
    lists = subst (λ rows. Lists rows schema) (sym only.list_stays) sound.lists;
    obeys = obeyed schema new (record {
      rules = λ rule other. keeps_from rule schema new (λ t row listed there. passed rule t row listed other (keeps_at rule schema old t row (sound.obeys.rules rule) listed (was t row listed there)));
      indexed = only.indexed;
    }) (refers_from All schema new (λ t ref row listed known is there. elim (cases_Bool (is_to table.tree (parent_key schema.tables ref))) [
      | inl here ↦ where_true _ _ (all_has _ t.references ref (all_has _ schema.tables t still listed) known) here row there
      | inr away ↦ parent_kept ref row away (refers_at All schema old t row ref (sound.obeys.rules ForeignKey) listed (was t row listed there) known is)
    ]));
  }

-- rows that a test leaves
pub sound_filtered : (schema : Schema) (old new : Trees) (table : Table) (keep : Row → Bool) → OnlyChanges schema old new table → new table.tree ≡ filter keep (old table.tree) → IsSound schema old → StillRefer schema new table → IsSound schema new
sound_filtered schema old new table keep only left sound still =
    sound_fewer schema old new table only (λ row there. (has_filtered keep (old table.tree) row (subst (λ l. Has l row) left there)).0) sound still
