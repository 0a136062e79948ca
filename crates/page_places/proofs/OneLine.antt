-- A group or a member that is known by its rowid: taken out, or another put over it.
use Rattle.std.proofs.Common.{◌≡◌, ℕ, ℤ, List, [], ◌∷◌, map, filter, Bool, true, false, not, ◌&&◌, if◌then◌else◌, bytes_eq, Option, Some, None, refl, sym, ap, ap₂, subst, ◌∙◌}
use Rattle.std.specs.List.{list_any}
use Rattle.std.proofs.lemmas.Bool.{and_from, and_parts, eq-eqb, not-true}
use Rattle.std.proofs.lemmas.Slice.Eq.{bytes_eq-Decides}
use Rattle.sqlite_tied.proofs.RuleLemmas.{and_true}
use Rattle.sqlite_value.specs.declared.value.Value.TheVariants.{Int}
use Rattle.sqlite_value.specs.Keys.{first_key, plain}
use Rattle.sqlite_value.specs.Order.{Row, column}
use Rattle.sqlite_trees.specs.Tree.{Trees, has_rowid, put_row, without_rowid}
use Rattle.sqlite_trees.specs.View.{IsShaped}
use Rattle.sqlite_trees.specs.declared.store.Shape.TheVariants as shape
use Rattle.sqlite_schema.specs.declared.schema.Constraint.TheVariants.{Unique}
use Rattle.sqlite_schema.specs.Rules.{agree, clashes}
use Rattle.sqlite_rules.specs.Lists.{Has}
use Rattle.sqlite_rules.proofs.ListLemmas.{has_got}
use Rattle.sqlite_rules.proofs.RuleLemmas.{keeps_at}
use Rattle.sql_tables.proofs.Rows.{id_of, numbers_equal, own_id, texts_equal}
use Rattle.plain_tables.specs.Changes.{has_run, is_member, is_named, rebased, with_baseline, without_member}
use Rattle.plain_tables.specs.Tables.{Tables, GroupRow, MemberRow}
use Rattle.prof_store.specs.Schema.{schema_two, grp_at, member_at}
use Rattle.prof_store.specs.Tables.{Holds, group_columns, member_columns, number_or_null}
use Rattle.page_places.specs.TableChanges.{OnlyChanges}
use Rattle.page_places.proofs.Contents.{row_of_line}
use Rattle.page_places.proofs.Groups.{baseline_in, group_taken_out, groups_replaced, name_of}
use Rattle.page_places.proofs.Members.{member_taken_out}
use Rattle.page_places.proofs.OneRow.{one_key, one_row, put_over, put_replaces, same_truth}
use Rattle.page_places.proofs.References.{group_refers}
use Rattle.page_places.proofs.Store.{groups_lined, groups_there, members_there, texts_agree}

-- a group's columns tell the group
same_baseline : (a b : Option ℕ) → number_or_null a ≡ number_or_null b → a ≡ b
same_baseline None None h = refl
same_baseline None (Some n) h = absurd cc
same_baseline (Some m) None h = absurd cc
same_baseline (Some m) (Some n) h = cc

one_group : (a b : GroupRow) (i j : ℤ) → Int i ∷ group_columns a ≡ Int j ∷ group_columns b → a ≡ b
one_group a b i j h =
    let name_is : a.name ≡ b.name = cc in
    let baseline_is : number_or_null a.baseline ≡ number_or_null b.baseline = cc in
    ap (λ x. record a { name = x }) name_is ∙ ap (λ x. record b { baseline = x }) (same_baseline a.baseline b.baseline baseline_is)

members_agree : (i j : ℤ) (x m : MemberRow) → agree plain (1 ∷ 2 ∷ []) (Int i ∷ member_columns x) (1 ∷ 2 ∷ []) (Int j ∷ member_columns m) ≡ is_member m.group m.run x
unfolding first_key
members_agree i j x m = ap₂ ◌&&◌ (texts_equal x.group m.group) (and_true _ ∙ numbers_equal x.run m.run)

module _ (t : Tables) (db : Trees) (was : Holds t db) where
  -- the row with a group's rowid is that with its name
  pub group_by_id : (id : ℤ) (g : GroupRow) → Has (db grp_at.tree) (Int id ∷ group_columns g) → (other : ℤ) (x : GroupRow) → Has (db grp_at.tree) (Int other ∷ group_columns x) → has_rowid id (Int other ∷ group_columns x) ≡ is_named g.name x
  group_by_id id g there other x has_x =
      let r : Row = Int id ∷ group_columns g in
      let q : Row = Int other ∷ group_columns x in
      let shaped = (groups_there t db was).numbered in
      let alone : clashes plain (1 ∷ []) (db 19) r ≡ false = not-true _ (and_parts _ _ (keeps_at Unique schema_two db grp_at r (was.contain.sound.obeys.rules Unique) (has_got schema_two.tables 8 grp_at refl) there)).0 in
      same_truth (has_rowid id q) (is_named g.name x)
      (λ is.
      let name_is : ◌≡◌ {A = List ℕ} x.name g.name = (let e = one_row (db 19) shaped r q there has_x is in cc) in
      (bytes_eq-Decides x.name g.name).1 name_is)
      (λ is. one_key (db 19) shaped (1 ∷ []) r q there has_x alone (texts_agree x.name g.name 1 1 q r refl refl ∙ is))

  -- so it is with members
  pub member_by_id : (id : ℤ) (m : MemberRow) → Has (db member_at.tree) (Int id ∷ member_columns m) → (other : ℤ) (x : MemberRow) → Has (db member_at.tree) (Int other ∷ member_columns x)
      → has_rowid id (Int other ∷ member_columns x) ≡ is_member m.group m.run x
  member_by_id id m there other x has_x =
      let r : Row = Int id ∷ member_columns m in
      let q : Row = Int other ∷ member_columns x in
      let shaped = (members_there t db was).numbered in
      let alone : clashes plain (1 ∷ 2 ∷ []) (db 21) r ≡ false = not-true _ (and_parts _ _ (keeps_at Unique schema_two db member_at r (was.contain.sound.obeys.rules Unique) (has_got schema_two.tables 9 member_at refl) there)).0 in
      same_truth (has_rowid id q) (is_member m.group m.run x)
      (λ is.
      let e = one_row (db 21) shaped r q there has_x is in
      let group_is : ◌≡◌ {A = List ℕ} x.group m.group = cc in
      let run_is : ◌≡◌ {A = ℕ} x.run m.run = cc in
      and_from _ _ ((bytes_eq-Decides x.group m.group).1 group_is) (eq-eqb x.run m.run run_is))
      (λ is. one_key (db 21) shaped (1 ∷ 2 ∷ []) r q there has_x alone (members_agree other id x m ∙ is))

  -- a group is the only one of its name
  pub one_of_name : (id : ℤ) (g : GroupRow) → Has (db grp_at.tree) (Int id ∷ group_columns g) → (x : GroupRow) → Has t.groups x → is_named g.name x ≡ true → x ≡ g
  one_of_name id g there x has_x is =
      let q = row_of_line grp_at group_columns (db 19) t.groups (groups_lined t db was) x has_x in
      let at : Has (db 19) (Int (id_of q.0) ∷ group_columns x) = subst (Has (db 19)) q.2 q.1 in
      one_group x g (id_of q.0) id (one_row (db 19) (groups_there t db was).numbered (Int id ∷ group_columns g) (Int (id_of q.0) ∷ group_columns x) there at (group_by_id id g there (id_of q.0) x at ∙ is))

  module _ (next : Trees) where
    pub member_removed : (id : ℤ) (m : MemberRow) → Has (db member_at.tree) (Int id ∷ member_columns m) → OnlyChanges schema_two db next member_at → IsShaped shape.Table (next member_at.tree) → next member_at.tree ≡ without_rowid id (db member_at.tree)
        → Holds (without_member m.group m.run t) next
    member_removed id m there only shaped left = member_taken_out t db next was only shaped (λ r. not (has_rowid id r)) m.group m.run left (λ other x has_x. ap not (member_by_id id m there other x has_x))

    -- a group whose members are gone
    pub group_removed : (id : ℤ) (g : GroupRow) → Has (db grp_at.tree) (Int id ∷ group_columns g) → OnlyChanges schema_two db next grp_at → IsShaped shape.Table (next grp_at.tree) → next grp_at.tree ≡ without_rowid id (db grp_at.tree)
        → list_any (λ (m : MemberRow). bytes_eq m.group g.name) t.members ≡ false → Holds (record t { groups = filter (λ x. not (is_named g.name x)) t.groups }) next
    group_removed id g there only shaped left none = group_taken_out t db next was only shaped (λ r. not (has_rowid id r)) g.name left (λ other x has_x. ap not (group_by_id id g there other x has_x)) none

    -- a group with another baseline is put over it
    pub group_put : (f : GroupRow → GroupRow) (id : ℤ) (g : GroupRow) → Has (db grp_at.tree) (Int id ∷ group_columns g) → OnlyChanges schema_two db next grp_at → IsShaped shape.Table (next grp_at.tree)
        → next grp_at.tree ≡ put_row (Int id ∷ group_columns (f g)) (db grp_at.tree) → (f g).name ≡ g.name → ((n : ℕ) → (f g).baseline ≡ Some n → has_run t n ≡ true)
        → Holds (record t { groups = map (λ x. if is_named g.name x then f x else x) t.groups }) next
    group_put f id g there only shaped put named based =
        groups_replaced t db next was only shaped (put_over id (group_columns (f g))) (λ x. if is_named g.name x then f x else x)
        (put ∙ put_replaces id (group_columns (f g)) (db 19) (Int id ∷ group_columns g) (groups_there t db was).numbered.0 there (own_id (Int id ∷ group_columns g) refl))
        (λ other x has_x. over other x has_x (has_rowid id (Int other ∷ group_columns x)) (is_named g.name x) refl (group_by_id id g there other x has_x))
        (λ x has_x. keeps_name x (is_named g.name x) (one_of_name id g there x has_x)) (λ x n has_x is. keeps_run x has_x n (is_named g.name x) (one_of_name id g there x has_x) is)
      where
        over : (other : ℤ) (x : GroupRow) → Has (db 19) (Int other ∷ group_columns x) → (b c : Bool) → has_rowid id (Int other ∷ group_columns x) ≡ b → b ≡ c
            → (if b then Int id ∷ group_columns (f g) else Int other ∷ group_columns x) ≡ Int other ∷ group_columns (if c then f x else x)
        over other x has_x false false e same = refl
        over other x has_x true false e same = absurd cc
        over other x has_x false true e same = absurd cc
        over other x has_x true true e same =
            let one = one_row (db 19) (groups_there t db was).numbered (Int id ∷ group_columns g) (Int other ∷ group_columns x) there has_x e in
            ap₂ (λ v (y : GroupRow). v ∷ group_columns (f y)) (sym (ap (λ l. column l 0) one)) (sym (one_group x g other id one))

        keeps_name : (x : GroupRow) (b : Bool) → (b ≡ true → x ≡ g) → name_of (if b then f x else x) ≡ x.name
        keeps_name x true one = ap (λ y. name_of (f y)) (one refl) ∙ named ∙ sym (ap name_of (one refl))
        keeps_name x false one = refl

        keeps_run : (x : GroupRow) → Has t.groups x → (n : ℕ) (b : Bool) → (b ≡ true → x ≡ g) → baseline_in (if b then f x else x) ≡ Some n → has_run t n ≡ true
        keeps_run x has_x n true one is = based n (sym (ap (λ y. baseline_in (f y)) (one refl)) ∙ is)
        keeps_run x has_x n false one is = group_refers t db was x n has_x is

    pub baseline_put : (n : ℕ) (id : ℤ) (g : GroupRow) → Has (db grp_at.tree) (Int id ∷ group_columns g) → OnlyChanges schema_two db next grp_at → IsShaped shape.Table (next grp_at.tree)
        → next grp_at.tree ≡ put_row (Int id ∷ group_columns (rebased n g)) (db grp_at.tree) → has_run t n ≡ true → Holds (with_baseline g.name n t) next
    baseline_put n id g there only shaped put held = group_put (rebased n) id g there only shaped put refl (λ m is. let same : n ≡ m = cc in subst (λ k. has_run t k ≡ true) same held)
