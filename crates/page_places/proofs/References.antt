-- What the references of rows say of the lines: their runs and groups are held.
use Rattle.std.proofs.Common.{◌≡◌, ℕ, List, [], ◌∷◌, true, false, ◌||◌, ◌==◌, codes, Some, refl, sym, ap, ap₂, subst, inl, inr, ◌∙◌}
use Rattle.std.proofs.lemmas.Bool.{both_ways, or_cases}
use Rattle.sqlite_value.specs.declared.value.Value.TheVariants.{Text}
use Rattle.sqlite_value.specs.Keys.{plain}
use Rattle.sqlite_value.specs.Order.{Row, column}
use Rattle.sqlite_trees.specs.Tree.{Trees}
use Rattle.sqlite_sql.specs.Ops.{is_null}
use Rattle.sqlite_schema.specs.declared.schema.Among.TheVariants.{All}
use Rattle.sqlite_schema.specs.declared.schema.Constraint.TheVariants.{ForeignKey}
use Rattle.sqlite_schema.specs.declared.schema.Reference.{Reference}
use Rattle.sqlite_schema.specs.Rules.{agree, has_null, has_parent, is_held, parent_key}
use Rattle.sqlite_rules.specs.Lists.{Has}
use Rattle.sqlite_rules.proofs.ListLemmas.{has_got, some_from, some_has}
use Rattle.sqlite_rules.proofs.ProbeLemmas.{has_mapped}
use Rattle.sqlite_rules.proofs.RuleLemmas.{refers_at}
use Rattle.plain_tables.specs.Changes.{has_group, has_run, is_named}
use Rattle.plain_tables.specs.Tables.{Tables, RunRow, GroupRow, MemberRow}
use Rattle.prof_store.specs.Schema.{schema_two, to, grp_at, member_at}
use Rattle.prof_store.specs.Tables.{Holds, run_columns, group_columns, member_columns, number, number_or_null}
use Rattle.page_places.proofs.Contents.{line_of, lined_content, row_of_line}
use Rattle.page_places.proofs.Store.{baseline_key, baseline_of, group_key, groups_lined, members_there, numbers_agree, run_key, runs_there, texts_agree}

module _ (t : Tables) (db : Trees) (was : Holds t db) where
  -- the run that a row refers to is held
  pub run_of_row : (n place : ℕ) (ref : Reference) (row : Row) → parent_key schema_two.tables ref ≡ Some (1, 0 ∷ [], plain) → ref.columns ≡ place ∷ [] → column row place ≡ number n → has_parent schema_two.tables db row ref ≡ true → has_run t n ≡ true
  run_of_row n place ref row key at is h =
      let test : (has_null (place ∷ []) row || is_held db (place ∷ []) row (Some (1, 0 ∷ [], plain))) ≡ true = sym (ap₂ (λ places k. has_null places row || is_held db places row k) at key) ∙ h in
      elim (or_cases (has_null (place ∷ []) row) _ test) [
        | inl none ↦ absurd (both_ways _ (ap (λ v. is_null v || false) is) none)
        | inr held ↦
            let p = some_has (λ q. agree plain (0 ∷ []) q (place ∷ []) row) (db 1) held in
            let r = has_mapped run_columns t.runs p.0 (subst (λ l. Has l p.0) (runs_there t db was) p.1) in
            some_from (λ (r : RunRow). r.number == n) t.runs r.0 r.1 (sym (numbers_agree r.0.number n 0 place p.0 row (ap (λ l. column l 0) r.2) is) ∙ p.2)
      ]

  group_of_row : (name : List ℕ) (row : Row) → column row 1 ≡ Text name → has_parent schema_two.tables db row (to (codes "grp") 1) ≡ true → has_group t name ≡ true
  group_of_row name row is h =
      let test : (has_null (1 ∷ []) row || is_held db (1 ∷ []) row (Some (19, 1 ∷ [], plain))) ≡ true = sym (ap (λ k. has_null (1 ∷ []) row || is_held db (1 ∷ []) row k) group_key) ∙ h in
      elim (or_cases (has_null (1 ∷ []) row) _ test) [
        | inl none ↦ absurd (both_ways _ (ap (λ v. is_null v || false) is) none)
        | inr held ↦
            let p = some_has (λ q. agree plain (1 ∷ []) q (1 ∷ []) row) (db 19) held in
            let g = line_of grp_at group_columns (db 19) t.groups (groups_lined t db was) p.0 p.1 in
            some_from (is_named name) t.groups g.0 g.1 (sym (texts_agree g.0.name name 1 1 p.0 row (ap (λ l. column l 1) g.2) is) ∙ p.2)
      ]

  -- a member's group and run are held
  pub member_refers : (m : MemberRow) → Has t.members m → (has_group t m.group ≡ true) × (has_run t m.run ≡ true)
  member_refers m there =
      let r = row_of_line member_at member_columns (db 21) t.members (lined_content member_at member_columns (db 21) t.members (members_there t db was)) m there in
      let refers = λ (ref : Reference) (known : Has member_at.references ref). refers_at All schema_two db member_at r.0 ref (was.contain.sound.obeys.rules ForeignKey) (has_got schema_two.tables 9 member_at refl) r.1 known refl in (
        group_of_row m.group r.0 (ap (λ l. column l 1) r.2) (refers (to (codes "grp") 1) (inl refl)),
        run_of_row m.run 2 (to (codes "run") 2) r.0 (run_key 2) refl (ap (λ l. column l 2) r.2) (refers (to (codes "run") 2) (inr (inl refl))),
      )

  -- so is a group's baseline
  pub group_refers : (g : GroupRow) (n : ℕ) → Has t.groups g → g.baseline ≡ Some n → has_run t n ≡ true
  group_refers g n there is =
      let r = row_of_line grp_at group_columns (db 19) t.groups (groups_lined t db was) g there in
      run_of_row n 2 baseline_of r.0 baseline_key refl (ap (λ l. column l 2) r.2 ∙ ap number_or_null is) (refers_at All schema_two db grp_at r.0 baseline_of (was.contain.sound.obeys.rules ForeignKey) (has_got schema_two.tables 8 grp_at refl) r.1 (inl refl) refl)
