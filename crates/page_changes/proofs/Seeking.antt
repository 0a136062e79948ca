-- Groups and members that are held are found by their rows.
use Rattle.std.proofs.Common.{◌≡◌, ℕ, ℤ, true, None, Some, List, ◌∷◌, eqb-true, refl, ap, ap₂, ◌∙◌}
use Rattle.std.proofs.lemmas.Bool.{and_parts}
use Rattle.std.proofs.lemmas.Slice.Eq.{bytes_eq-Decides}
use Rattle.sqlite_rules.proofs.ListLemmas.{all_has, some_has}
use Rattle.sqlite_trees.specs.Tree.{Trees}
use Rattle.sqlite_value.specs.declared.value.Value.TheVariants.{Int}
use Rattle.sqlite_value.specs.Order.{Row}
use Rattle.plain_tables.specs.Changes.{has_group, has_member, is_member, is_named}
use Rattle.plain_tables.specs.Tables.{Tables, GroupRow, MemberRow}
use Rattle.prof_store.specs.Schema.{grp_at, member_at}
use Rattle.prof_store.specs.Tables.{Holds, group_columns, member_columns}
use Rattle.page_places.proofs.Contents.{line_of, row_of_line}
use Rattle.page_places.proofs.Store.{groups_lined, members_lined}
use Rattle.page_changes.specs.Causes.{HasNarrowBaselines, HasNarrowMembers}
use Rattle.page_changes.specs.Named.{CanBeFound, IsNarrow, IsOther, IsOutOfForm, named}

module _ (name : List ℕ) where
  -- the row of a member is that of its name and run
  same_member : (run : ℕ) (row : Row) (id : ℤ) (x : MemberRow) → row ≡ Int id ∷ member_columns x → x.group ≡ name → x.run ≡ run → IsOther name (Some run) row → ⊥
  same_member run row id x is of_name of_run other = other id (Some run) (is ∙ ap₂ (λ (g : List ℕ) (n : ℕ). named id g (Some n)) of_name of_run) refl

  same_group : (row : Row) (id : ℤ) (x : GroupRow) → row ≡ Int id ∷ group_columns x → x.name ≡ name → IsOther name None row → ⊥
  same_group row id x is of_name other = other id x.baseline (is ∙ ap (λ (g : List ℕ). named id g x.baseline) of_name) tt

-- a row of a number of 32 bits is in form
member_in_form : (row : Row) (id : ℤ) (x : MemberRow) → row ≡ Int id ∷ member_columns x → IsNarrow (Some x.run) → IsOutOfForm row → ⊥
member_in_form row id x is narrow out = out id x.group (Some x.run) narrow is

group_in_form : (row : Row) (id : ℤ) (x : GroupRow) → row ≡ Int id ∷ group_columns x → IsNarrow x.baseline → IsOutOfForm row → ⊥
group_in_form row id x is narrow out = out id x.name x.baseline narrow is

module _ (t : Tables) (db : Trees) (holds : Holds t db) (name : List ℕ) where
  -- where a run is in a group
  pub member_found : (run : ℕ) → has_member t name run ≡ true → HasNarrowMembers t → CanBeFound name (Some run) (db 21)
  member_found run held narrow = record {
    there = λ others.
        let m = some_has (is_member name run) t.members held in
        let r = row_of_line member_at member_columns (db 21) t.members (members_lined t db holds) m.0 m.1 in
        let parts = and_parts _ _ m.2 in
        same_member name run r.0 _ m.0 r.2 ((bytes_eq-Decides m.0.group name).0 parts.0) (eqb-true m.0.run run parts.1) (all_has (IsOther name (Some run)) (db 21) r.0 others r.1);
    in_form = λ out.
        let x = line_of member_at member_columns (db 21) t.members (members_lined t db holds) out.0 out.1 in
        member_in_form out.0 _ x.0 x.2 (all_has (λ (m : MemberRow). IsNarrow (Some m.run)) t.members x.0 narrow x.1) out.2;
  }

  -- where a group is held
  pub group_found : has_group t name ≡ true → HasNarrowBaselines t → CanBeFound name None (db 19)
  group_found held narrow = record {
    there = λ others.
        let x = some_has (is_named name) t.groups held in
        let r = row_of_line grp_at group_columns (db 19) t.groups (groups_lined t db holds) x.0 x.1 in
        same_group name r.0 _ x.0 r.2 ((bytes_eq-Decides x.0.name name).0 x.2) (all_has (IsOther name None) (db 19) r.0 others r.1);
    in_form = λ out.
        let x = line_of grp_at group_columns (db 19) t.groups (groups_lined t db holds) out.0 out.1 in
        group_in_form out.0 _ x.0 x.2 (all_has (λ (y : GroupRow). IsNarrow y.baseline) t.groups x.0 narrow x.1) out.2;
  }
