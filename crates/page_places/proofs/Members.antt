-- The members of groups: one behind the others, and some taken out.
use Rattle.std.proofs.Common.{◌≡◌, ◌≢◌, ℕ, ℤ, List, [], ◌∷◌, ◌++◌, filter, map, Bool, true, false, not, ◌==◌, bytes_eq, codes, refl, sym, ap, ap₂, subst, ◌∙◌}
use Rattle.std.specs.List.{AllByRecursion}
use Rattle.std.proofs.lemmas.Bool.{and_from, both_ways, eq-eqb}
use Rattle.std.proofs.lemmas.Slice.Eq.{bytes_eq-Decides}
use Rattle.sqlite_tied.specs.Compute.{everything}
use Rattle.sqlite_value.specs.declared.value.Value.TheVariants.{Int}
use Rattle.sqlite_value.specs.Keys.{plain}
use Rattle.sqlite_value.specs.Order.{Row}
use Rattle.sqlite_trees.specs.Tree.{Trees}
use Rattle.sqlite_trees.specs.View.{IsShaped}
use Rattle.sqlite_trees.specs.declared.store.Shape.TheVariants as shape
use Rattle.sqlite_schema.specs.declared.schema.Among.TheVariants.{All}
use Rattle.sqlite_schema.specs.Rules.{agree}
use Rattle.sqlite_rules.specs.Keys.{have_parents}
use Rattle.sqlite_rules.specs.Lists.{Has}
use Rattle.sqlite_rules.specs.Steps.{PassAlone}
use Rattle.sqlite_rules.proofs.ListLemmas.{all_from, some_from}
use Rattle.sql_tables.proofs.Deletes.{row_of}
use Rattle.sql_tables.proofs.Rows.{id_of}
use Rattle.plain_tables.specs.Changes.{has_group, has_member, has_run, is_member, with_member, without_member}
use Rattle.plain_tables.specs.Tables.{Tables, MemberRow}
use Rattle.prof_store.specs.Schema.{schema_two, to, run_at, grp_at, member_at}
use Rattle.prof_store.specs.Tables.{Holds, contents_of, group_columns, member_columns}
use Rattle.page_places.specs.TableChanges.{OnlyChanges, StillRefer}
use Rattle.page_places.specs.Keys.{AreNew, member_key}
use Rattle.page_places.proofs.Behind.{sound_behind}
use Rattle.page_places.proofs.Contents.{Lined, contain_changed, content_of, lined_append, lined_content, lined_filter}
use Rattle.page_places.proofs.Keys.{agrees_at, none_clash, number_is, text_is}
use Rattle.page_places.proofs.Store.{alone_from, group_parent, groups_lined, members_there, one_of, other_stays, run_key, run_parent, runs_there}
use Rattle.page_places.proofs.TakenOut.{sound_filtered, still_unreferred}

members_alone : (rows : List Row) (xs : List MemberRow) → Lined member_at member_columns rows xs → PassAlone member_at rows
members_alone = alone_from member_at member_columns (λ id m. refl) (λ id m. refl) (λ id m. refl)

-- a row's group and run are its key
key_read : (a b : ℤ) (x y : MemberRow) → agree plain (1 ∷ 2 ∷ []) (row_of member_at member_columns (Int a) x) (1 ∷ 2 ∷ []) (row_of member_at member_columns (Int b) y) ≡ true → member_key x ≡ member_key y
key_read a b x y h = let each = agrees_at (1 ∷ 2 ∷ []) (Int a ∷ member_columns x) (Int b ∷ member_columns y) h in ap₂ ◌∷◌ (number_is x.run y.run each.1.0) (text_is x.group y.group each.0)

is_same : (x : MemberRow) (name : List ℕ) (n : ℕ) → member_key x ≡ n ∷ name → is_member name n x ≡ true
is_same x name n same =
    let run_same : x.run ≡ n = cc in
    let group_same : x.group ≡ name = cc in
    and_from _ _ ((bytes_eq-Decides x.group name).1 group_same) (eq-eqb x.run n run_same)

-- nothing refers to a member
none_refer : (next : Trees) → StillRefer schema_two next member_at
unfolding everything
none_refer next = still_unreferred schema_two next member_at refl

module _ (t : Tables) (db next : Trees) (was : Holds t db) (only : OnlyChanges schema_two db next member_at) (shaped : IsShaped shape.Table (next member_at.tree)) where
  olds : Lined member_at member_columns (db 21) t.members
  olds = lined_content member_at member_columns (db 21) t.members (members_there t db was)

  pub member_behind : (name : List ℕ) (n : ℕ) (id : ℤ) → next member_at.tree ≡ db member_at.tree ++ (Int id ∷ member_columns (record { group = name; run = n })) ∷ [] → has_group t name ≡ true → has_run t n ≡ true → has_member t name n ≡ false
      → Holds (with_member name n t) next
  member_behind name n id rows grouped held none =
      let m : MemberRow = record { group = name; run = n } in
      let row : Row = Int id ∷ member_columns m in
      let news : List Row = row ∷ [] in
      let fresh : Lined member_at member_columns news (m ∷ []) = (refl, tt) in
      let new : AreNew member_key t.members (m ∷ []) = record {
        apart = all_from (λ x. AllByRecursion (λ y. member_key x ≢ member_key y) (m ∷ [])) t.members (λ x there. (λ same. both_ways _ none (some_from (is_member name n) t.members x there (is_same x name n same)), tt));
        among = (tt, tt);
      } in
      let clash = none_clash member_at member_columns member_key (1 ∷ 2 ∷ []) key_read (db 21) news (next 21) t.members (m ∷ []) rows olds fresh new in
      let groups = subst (λ l. Lined grp_at group_columns l t.groups) (sym (other_stays db next member_at only 8 grp_at refl refl)) (groups_lined t db was) in
      let runs = other_stays db next member_at only 1 run_at refl refl ∙ runs_there t db was in
      let of_group = group_parent next t.groups groups name grouped row refl in
      let of_run = run_parent next t.runs runs n 2 (to (codes "run") 2) (run_key 2) refl held row refl in
      let parents : have_parents All schema_two.tables next member_at.references news ≡ true = and_from _ _ (and_from _ _ of_group refl) (and_from _ _ (and_from _ _ of_run refl) refl) in
      record {
        contain = contain_changed schema_two (contents_of t) db next 9 member_at (map member_columns (t.members ++ m ∷ [])) refl refl only
            (sound_behind schema_two db next member_at news (one_of 9 member_at refl) only rows was.contain.sound (record { alone = members_alone news (m ∷ []) fresh; unique = and_from _ _ (ap not clash) refl; parents = parents }))
            (content_of member_at member_columns (next 21) (t.members ++ m ∷ []) shaped (subst (λ l. Lined member_at member_columns l (t.members ++ m ∷ [])) (sym rows) (lined_append member_at member_columns (db 21) news t.members (m ∷ []) olds fresh))) was.contain;
        below = was.below;
      }

  -- rows that a test leaves, beside a test of the lines
  pub members_filtered : (keep : Row → Bool) (kept : MemberRow → Bool) → next member_at.tree ≡ filter keep (db member_at.tree) → ((id : ℤ) (m : MemberRow) → Has (db member_at.tree) (Int id ∷ member_columns m) → keep (Int id ∷ member_columns m) ≡ kept m)
      → Holds (record t { members = filter kept t.members }) next
  members_filtered keep kept left same =
      let lines = lined_filter member_at member_columns keep kept (db 21) t.members (λ r m there is. ap keep is ∙ same (id_of r) m (subst (Has (db 21)) is there)) olds in
      record {
        contain = contain_changed schema_two (contents_of t) db next 9 member_at (map member_columns (filter kept t.members)) refl refl only
            (sound_filtered schema_two db next member_at keep only left was.contain.sound (none_refer next))
            (content_of member_at member_columns (next 21) (filter kept t.members) shaped (subst (λ l. Lined member_at member_columns l (filter kept t.members)) (sym left) lines)) was.contain;
        below = was.below;
      }

  pub member_taken_out : (keep : Row → Bool) (name : List ℕ) (n : ℕ) → next member_at.tree ≡ filter keep (db member_at.tree)
      → ((id : ℤ) (m : MemberRow) → Has (db member_at.tree) (Int id ∷ member_columns m) → keep (Int id ∷ member_columns m) ≡ not (is_member name n m)) → Holds (without_member name n t) next
  member_taken_out keep name n left same = members_filtered keep (λ m. not (is_member name n m)) left same

  -- all members of a group
  pub members_of_group_taken_out : (keep : Row → Bool) (name : List ℕ) → next member_at.tree ≡ filter keep (db member_at.tree)
      → ((id : ℤ) (m : MemberRow) → Has (db member_at.tree) (Int id ∷ member_columns m) → keep (Int id ∷ member_columns m) ≡ not (bytes_eq m.group name))
      → Holds (record t { members = filter (λ (m : MemberRow). not (bytes_eq m.group name)) t.members }) next
  members_of_group_taken_out keep name left same = members_filtered keep (λ m. not (bytes_eq m.group name)) left same

  -- all members that are a run
  pub members_of_run_taken_out : (keep : Row → Bool) (n : ℕ) → next member_at.tree ≡ filter keep (db member_at.tree) → ((id : ℤ) (m : MemberRow) → Has (db member_at.tree) (Int id ∷ member_columns m) → keep (Int id ∷ member_columns m) ≡ not (m.run == n))
      → Holds (record t { members = filter (λ (m : MemberRow). not (m.run == n)) t.members }) next
  members_of_run_taken_out keep n left same = members_filtered keep (λ m. not (m.run == n)) left same
