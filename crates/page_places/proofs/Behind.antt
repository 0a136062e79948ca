-- A database that obeys its schema still does once a table has rows that fit behind the others.
use Rattle.std.proofs.Common.{◌≡◌, true, List, [], ◌++◌, Option, Some, None, refl, sym, subst, inl, inr}
use Rattle.std.proofs.lemmas.Bool.{cases_eq, or_cases, or_left, or_right}
use Rattle.sqlite_value.specs.Order.{Row}
use Rattle.sqlite_trees.specs.Tree.{Trees}
use Rattle.sqlite_schema.specs.declared.schema.Among.TheVariants.{All}
use Rattle.sqlite_schema.specs.declared.schema.Constraint.TheVariants.{ForeignKey}
use Rattle.sqlite_schema.specs.declared.schema.Reference.{Reference}
use Rattle.sqlite_schema.specs.declared.schema.Schema.{Schema}
use Rattle.sqlite_schema.specs.declared.schema.Table.{Table}
use Rattle.sqlite_schema.specs.Rules.{ParentKey, has_null, has_parent, is_held, parent_key, Refers}
use Rattle.sqlite_rules.specs.Keys.{have_parents}
use Rattle.sqlite_rules.specs.Lists.{Has}
use Rattle.sqlite_rules.proofs.ListLemmas.{has_left, has_right, has_either, some_from, some_has, test_has}
use Rattle.sqlite_rules.proofs.RuleLemmas.{Turns, obeyed, origin, parent_is_table, refers_at, refers_from, rules_kept_by, unique_kept}
use Rattle.sqlite_catalog.specs.Listing.{IsSound, Lists}
use Rattle.page_places.specs.TableChanges.{AreFit, IsOneOf, OnlyChanges}

module _ (schema : Schema) (old new : Trees) (table : Table) (news : List Row) (one : IsOneOf schema table) (only : OnlyChanges schema old new table) (behind : new table.tree ≡ old table.tree ++ news) where
  turned : Turns schema old new table (old table.tree) [] news
  turned = record {
    apart = one.apart;
    listed = one.listed;
    others = only.others;
    from = λ r there. elim (has_either (old table.tree) news r (subst (λ rows. Has rows r) behind there)) [ inl was ↦ inr was | inr fresh ↦ inl fresh ];
    stays = λ r was. subst (λ rows. Has rows r) (sym behind) (has_left (old table.tree) news r was);
    added = λ r fresh. subst (λ rows. Has rows r) (sym behind) (has_right (old table.tree) news r fresh);
    was = λ r was. was;
    split = λ r was. inl was;
  }

  -- no table lost a row
  kept : (t : Table) (row : Row) → Has schema.tables t → Has (old t.tree) row → Has (new t.tree) row
  kept t row listed there = elim (cases_eq t.tree table.tree) [
    | inl same ↦ subst (λ n. Has (new n) row) (sym same) (turned.stays row (subst (λ n. Has (old n) row) same there))
    | inr other ↦ subst (λ rows. Has rows row) (sym (only.others t listed other)) there
  ]

  -- so a parent that was there still is
  held : (ref : Reference) (row : Row) (key : Option ParentKey) → parent_key schema.tables ref ≡ key → is_held old ref.columns row key ≡ true → is_held new ref.columns row key ≡ true
  held ref row None is was = was
  held ref row (Some key) is was =
      let parent = some_has _ (old key.0) was in
      let t = parent_is_table schema.tables ref key is in
      some_from _ (new key.0) parent.0 (subst (λ n. Has (new n) parent.0) t.2 (kept t.0 parent.0 t.1 (subst (λ n. Has (old n) parent.0) (sym t.2) parent.1))) parent.2

  parent_kept : (ref : Reference) (row : Row) → has_parent schema.tables old row ref ≡ true → has_parent schema.tables new row ref ≡ true
  parent_kept ref row was = elim (or_cases (has_null ref.columns row) _ was) [
    | inl none ↦ or_left _ _ none
    | inr there ↦ or_right _ _ (held ref row _ refl there)
  ]

  refers : Refers All schema old → have_parents All schema.tables new table.references news ≡ true → Refers All schema new
  refers was parents = refers_from All schema new (λ t ref row listed known is there. elim (origin schema old new table (old table.tree) [] news turned t row listed there) [
    | inl fresh ↦ test_has _ news row (test_has _ table.references ref parents (subst (λ (u : Table). Has u.references ref) fresh.0 known)) fresh.1
    | inr before ↦ parent_kept ref row (refers_at All schema old t row ref was listed before known is)
  ])

  pub sound_behind : IsSound schema old → AreFit schema new table news → IsSound schema new
  sound_behind was fit =
      let unique = unique_kept schema old new table (old table.tree) [] news turned fit.unique in
      record {
        lists = subst (λ rows. Lists rows schema) (sym only.list_stays) was.lists;
        obeys = obeyed schema new (record {
          rules = λ rule other. rules_kept_by schema old new table (old table.tree) [] news turned fit.alone unique rule other (was.obeys.rules rule);
          indexed = only.indexed;
        }) (refers (was.obeys.rules ForeignKey) fit.parents);
      }
