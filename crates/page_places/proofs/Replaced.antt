-- A database that obeys its schema still does once rows of a table were replaced by rows with their keys.
use Rattle.std.proofs.Common.{◌≡◌, ◌≢◌, ℕ, not, ◌&&◌, if◌then◌else◌, true, List, [], ◌∷◌, map, Option, Some, None, refl, sym, ap, ap₂, subst, inl, inr, ◌∙◌}
use Rattle.std.specs.List.{flat_map, list_all}
use Rattle.std.proofs.lemmas.Bool.{and_from, and_parts, both_ways, cases_eq, eq-eqb, false_from_ne_true, not-true, not_from_false, or_cases, or_left, or_right}
use Rattle.sqlite_value.specs.declared.keys.Order.{Order}
use Rattle.sqlite_value.specs.Keys.{first_key, later}
use Rattle.sqlite_value.specs.Order.{Row, column}
use Rattle.sqlite_trees.specs.Tree.{Trees, rowid}
use Rattle.sqlite_schema.specs.declared.schema.Among.TheVariants.{All}
use Rattle.sqlite_schema.specs.declared.schema.Constraint.{Constraint}
use Rattle.sqlite_schema.specs.declared.schema.Constraint.TheVariants.{Datatype, NotNull, Check, PrimaryKey, Unique, ForeignKey}
use Rattle.sqlite_schema.specs.declared.schema.Index.{Index}
use Rattle.sqlite_schema.specs.declared.schema.Reference.{Reference}
use Rattle.sqlite_schema.specs.declared.schema.Schema.{Schema}
use Rattle.sqlite_schema.specs.declared.schema.Table.{Table}
use Rattle.sqlite_schema.specs.Rules.{ParentKey, agree, clashes, differ, equal, guards, has_null, has_parent, is_held, parent_key, passes}
use Rattle.sqlite_rules.specs.Lists.{Has}
use Rattle.sqlite_rules.proofs.ListLemmas.{all_has, has_left, has_right, some_from, some_has, test_from, test_has}
use Rattle.sqlite_rules.proofs.ProbeLemmas.{has_mapped, mapped_has}
use Rattle.sqlite_rules.proofs.RuleLemmas.{keeps_at, keeps_from, obeyed, parent_is_table, refers_at, refers_from, same_table}
use Rattle.sqlite_catalog.specs.Listing.{IsSound, Lists}
use Rattle.page_places.specs.TableChanges.{AreReplaced, IsOneOf, OnlyChanges, key_places, places_at}

-- a row with the same values at the places that are compared
agree_left : (o : Order) (ps qs : List ℕ) (new old b : Row) → ((p : ℕ) → Has ps p → column new p ≡ column old p) → agree o ps new qs b ≡ agree o ps old qs b
agree_left o [] [] new old b same = refl
agree_left o [] (q ∷ qs) new old b same = refl
agree_left o (p ∷ ps) [] new old b same = refl
agree_left o (p ∷ ps) (q ∷ qs) new old b same =
    ap₂ ◌&&◌ (ap (λ v. equal (first_key o).collation v (column b q)) (same p (inl refl))) (agree_left (later o) ps qs new old b (λ r there. same r (inr there)))

agree_right : (o : Order) (ps qs : List ℕ) (a new old : Row) → ((q : ℕ) → Has qs q → column new q ≡ column old q) → agree o ps a qs new ≡ agree o ps a qs old
agree_right o [] [] a new old same = refl
agree_right o [] (q ∷ qs) a new old same = refl
agree_right o (p ∷ ps) [] a new old same = refl
agree_right o (p ∷ ps) (q ∷ qs) a new old same =
    ap₂ ◌&&◌ (ap (λ v. equal (first_key o).collation (column a p) v) (same q (inl refl))) (agree_right (later o) ps qs a new old (λ r there. same r (inr there)))

has_flat : {X : Type 0} (f : X → List ℕ) (xs : List X) (x : X) (p : ℕ) → Has xs x → Has (f x) p → Has (flat_map f xs) p
has_flat f [] x p known there = absurd known
has_flat f (y ∷ xs) x p (inl same) there = has_left (f y) (flat_map f xs) p (subst (λ z. Has (f z) p) same there)
has_flat f (y ∷ xs) x p (inr later) there = has_right (f y) (flat_map f xs) p (has_flat f xs x p later there)

module _ (schema : Schema) (table : Table) where
  abbrev of_indexes : List ℕ
  of_indexes = flat_map (λ (i : Index). if guards i table then i.columns else []) schema.indexes

  abbrev of_references : List ℕ
  of_references = flat_map (λ (t : Table). flat_map (λ (ref : Reference). places_at table.tree (parent_key schema.tables ref)) t.references) schema.tables

  key_of_index : (i : Index) (p : ℕ) → Has schema.indexes i → guards i table ≡ true → Has i.columns p → Has (key_places schema table) p
  key_of_index i p known on there =
      inr (has_left of_indexes of_references p (has_flat (λ (j : Index). if guards j table then j.columns else []) schema.indexes i p known (subst (λ b. Has (if b then i.columns else []) p) (sym on) there)))

  key_of_reference : (t : Table) (ref : Reference) (key : ParentKey) (p : ℕ) → Has schema.tables t → Has t.references ref → parent_key schema.tables ref ≡ Some key → key.0 ≡ table.tree → Has key.1 p → Has (key_places schema table) p
  key_of_reference t ref key p listed known is same there =
      let here : Has (places_at table.tree (parent_key schema.tables ref)) p =
      subst (λ k. Has (places_at table.tree k) p) (sym is) (subst (λ b. Has (if b then key.1 else []) p) (sym (eq-eqb key.0 table.tree same)) there) in
      inr (has_right of_indexes of_references p (has_flat (λ (u : Table). flat_map (λ (r : Reference). places_at table.tree (parent_key schema.tables r)) u.references) schema.tables t p listed
      (has_flat (λ (r : Reference). places_at table.tree (parent_key schema.tables r)) t.references ref p known here)))

module _ (schema : Schema) (old new : Trees) (table : Table) (turn : Row → Row) (one : IsOneOf schema table) (only : OnlyChanges schema old new table) (turned : new table.tree ≡ map turn (old table.tree))
    (fit : AreReplaced schema old new table turn) where
  stood : (row : Row) → Has (new table.tree) row → (r : Row) × Has (old table.tree) r × (row ≡ turn r)
  stood row there = has_mapped turn (old table.tree) row (subst (λ l. Has l row) turned there)

  stands : (row : Row) → Has (old table.tree) row → Has (new table.tree) (turn row)
  stands row there = subst (λ l. Has l (turn row)) (sym turned) (mapped_has turn (old table.tree) row there)

  same_id : (row : Row) → Has (old table.tree) row → rowid (turn row) ≡ rowid row
  same_id row there = (fit.keys row there).0

  -- keys that clash did so before
  clashed : (i : Index) (x y : Row) → Has schema.indexes i → guards i table ≡ true → Has (old table.tree) x → Has (old table.tree) y → agree i.order i.columns (turn x) i.columns (turn y) && differ (rowid (turn x)) (rowid (turn y)) ≡ true
      → agree i.order i.columns x i.columns y && differ (rowid x) (rowid y) ≡ true
  clashed i x y known on has_x has_y clash =
      let kept = λ (r : Row) (there : Has (old table.tree) r) (p : ℕ) (among : Has i.columns p). all_has (λ q. column (turn r) q ≡ column r q) (key_places schema table) p (fit.keys r there) (key_of_index schema table i p known on among) in
      let keys : agree i.order i.columns (turn x) i.columns (turn y) ≡ agree i.order i.columns x i.columns y =
      agree_left i.order i.columns i.columns (turn x) x (turn y) (kept x has_x) ∙ agree_right i.order i.columns i.columns x (turn y) y (kept y has_y) in
      let ids : differ (rowid (turn x)) (rowid (turn y)) ≡ differ (rowid x) (rowid y) = ap₂ differ (same_id x has_x) (same_id y has_y) in
      sym (ap₂ ◌&&◌ keys ids) ∙ clash

  unique : (row : Row) → Has (new table.tree) row → ((r : Row) → Has (old table.tree) r → passes Unique schema old table r ≡ true) → passes Unique schema new table row ≡ true
  unique row there before = test_from _ schema.indexes (λ i known. not_from_false _ (false_from_ne_true _ (λ both.
      let parts = and_parts (guards i table) _ both in
      let other = some_has _ (new table.tree) parts.1 in
      let x = stood other.0 other.1 in
      let y = stood row there in
      let clash = clashed i x.0 y.0 known parts.0 x.1 y.1 (sym (ap₂ (λ a b. agree i.order i.columns a i.columns b && differ (rowid a) (rowid b)) x.2 y.2) ∙ other.2) in
      both_ways _ (not-true _ (test_has _ schema.indexes i (before y.0 y.1) known)) (and_from _ _ parts.0 (some_from (λ a. agree i.order i.columns a i.columns y.0 && differ (rowid a) (rowid y.0)) (old table.tree) x.0 x.1 clash)))))

  passed_here : (rule : Constraint) (row : Row) → rule ≢ ForeignKey → Has (new table.tree) row → ((r : Row) → Has (old table.tree) r → passes rule schema old table r ≡ true) → passes rule schema new table row ≡ true
  passed_here Datatype row other there before = test_has _ (new table.tree) row fit.alone.typed there
  passed_here NotNull row other there before = test_has _ (new table.tree) row fit.alone.present there
  passed_here Check row other there before = test_has _ (new table.tree) row fit.alone.checked there
  passed_here PrimaryKey row other there before = refl
  passed_here Unique row other there before = unique row there before
  passed_here ForeignKey row other there before = absurd (other refl)

  passed_there : (rule : Constraint) (t : Table) (row : Row) → rule ≢ ForeignKey → new t.tree ≡ old t.tree → passes rule schema old t row ≡ true → passes rule schema new t row ≡ true
  passed_there Datatype t row other same before = before
  passed_there NotNull t row other same before = before
  passed_there Check t row other same before = before
  passed_there PrimaryKey t row other same before = refl
  passed_there Unique t row other same before = subst (λ rows. list_all (λ i. not (guards i t && clashes i.order i.columns rows row)) schema.indexes ≡ true) (sym same) before
  passed_there ForeignKey t row other same before = absurd (other refl)

  held : (t : Table) (ref : Reference) (row : Row) (key : Option ParentKey) → Has schema.tables t → Has t.references ref → parent_key schema.tables ref ≡ key → is_held old ref.columns row key ≡ true → is_held new ref.columns row key ≡ true
  held t ref row None listed known is there = there
  held t ref row (Some key) listed known is there =
      let parent = some_has _ (old key.0) there in
      elim (cases_eq key.0 table.tree) [
        | inl same ↦
            let was : Has (old table.tree) parent.0 = subst (λ n. Has (old n) parent.0) same parent.1 in
            some_from (λ p. agree key.2 key.1 p ref.columns row) (new key.0) (turn parent.0) (subst (λ n. Has (new n) (turn parent.0)) (sym same) (stands parent.0 was))
            (agree_left key.2 key.1 ref.columns (turn parent.0) parent.0 row (λ p among. all_has (λ q. column (turn parent.0) q ≡ column parent.0 q) (key_places schema table) p (fit.keys parent.0 was) (key_of_reference schema table t ref key p listed known is same among)) ∙ parent.2)
        | inr other ↦
            let u = parent_is_table schema.tables ref key is in
            let rows : new key.0 ≡ old key.0 = ap new (sym u.2) ∙ only.others u.0 u.1 (λ e. other (sym u.2 ∙ e)) ∙ ap old u.2 in some_from _ (new key.0) parent.0 (subst (λ l. Has l parent.0) (sym rows) parent.1) parent.2
      ]

  parent_kept : (t : Table) (ref : Reference) (row : Row) → Has schema.tables t → Has t.references ref → has_parent schema.tables old row ref ≡ true → has_parent schema.tables new row ref ≡ true
  parent_kept t ref row listed known there = elim (or_cases (has_null ref.columns row) _ there) [
    | inl none ↦ or_left _ _ none
    | inr is ↦ or_right _ _ (held t ref row _ listed known refl is)
  ]

  pub sound_replaced : IsSound schema old → IsSound schema new
  sound_replaced sound = record {
    lists = subst (λ rows. Lists rows schema) (sym only.list_stays) sound.lists;
    obeys = obeyed schema new (record {
      rules = λ rule other. keeps_from rule schema new (λ t row listed there. elim (cases_eq t.tree table.tree) [
        | inl same ↦
            let is : t ≡ table = same_table schema.tables t table one.apart listed one.listed same in
            subst (λ u. passes rule schema new u row ≡ true) (sym is) (passed_here rule row other (subst (λ (u : Table). Has (new u.tree) row) is there) (λ r h. keeps_at rule schema old table r (sound.obeys.rules rule) one.listed h))
        | inr away ↦
            let rows = only.others t listed away in passed_there rule t row other rows (keeps_at rule schema old t row (sound.obeys.rules rule) listed (subst (λ l. Has l row) rows there))
      ]);
      indexed = only.indexed;
    }) (refers_from All schema new (λ t ref row listed known is there. elim (cases_eq t.tree table.tree) [
      | inl same ↦
          let it : t ≡ table = same_table schema.tables t table one.apart listed one.listed same in
          test_has _ (new table.tree) row (test_has _ table.references ref fit.parents (subst (λ (u : Table). Has u.references ref) it known)) (subst (λ (u : Table). Has (new u.tree) row) it there)
      | inr away ↦ parent_kept t ref row listed known (refers_at All schema old t row ref (sound.obeys.rules ForeignKey) listed (subst (λ l. Has l row) (only.others t listed away) there) known is)
    ]));
  }
