-- The groups: one behind the others, one taken out, and their baselines replaced.
use Rattle.std.proofs.Common.{◌≡◌, ◌≢◌, ℕ, ℤ, List, [], ◌∷◌, ◌++◌, map, filter, Bool, true, false, not, ◌||◌, bytes_eq, codes, Option, Some, None, refl, sym, ap, subst, ◌∙◌}
use Rattle.std.specs.List.{AllByRecursion, list_any}
use Rattle.std.proofs.lemmas.Bool.{and_from, both_ways, false_from_ne_true, not_from_false, or_left}
use Rattle.std.proofs.lemmas.Slice.Eq.{bytes_eq-Decides}
use Rattle.sqlite_tied.specs.Compute.{everything}
use Rattle.sqlite_value.specs.declared.value.Value.TheVariants.{Int, Text}
use Rattle.sqlite_value.specs.Keys.{plain}
use Rattle.sqlite_value.specs.Order.{Row, column}
use Rattle.sqlite_trees.specs.Tree.{Trees}
use Rattle.sqlite_trees.specs.View.{IsShaped}
use Rattle.sqlite_trees.specs.declared.store.Shape.TheVariants as shape
use Rattle.sqlite_sql.specs.Ops.{is_null}
use Rattle.sqlite_schema.specs.Rules.{agree, has_parent}
use Rattle.sqlite_rules.specs.Lists.{Has}
use Rattle.sqlite_rules.specs.Steps.{PassAlone, is_typed}
use Rattle.sqlite_rules.proofs.ListLemmas.{all_from, has_kept, some_from, some_has, test_from}
use Rattle.sqlite_rules.proofs.ProbeLemmas.{has_mapped}
use Rattle.sql_tables.proofs.Deletes.{row_of}
use Rattle.sql_tables.proofs.Rows.{id_of}
use Rattle.plain_tables.specs.Changes.{has_group, has_run, is_named, with_group}
use Rattle.plain_tables.specs.Tables.{Tables, GroupRow, MemberRow}
use Rattle.prof_store.specs.Schema.{schema_two, to, run_at, grp_at, member_at}
use Rattle.prof_store.specs.Tables.{Holds, contents_of, group_columns, member_columns, number_or_null}
use Rattle.page_places.specs.TableChanges.{OnlyChanges, StillRefer, key_places}
use Rattle.page_places.specs.Keys.{AreNew}
use Rattle.page_places.proofs.Behind.{sound_behind}
use Rattle.page_places.proofs.Contents.{Lined, contain_changed, content_of, line_of, lined_append, lined_content, lined_filter, lined_map}
use Rattle.page_places.proofs.Keys.{agrees_at, none_clash, text_is}
use Rattle.page_places.proofs.References.{member_refers}
use Rattle.page_places.proofs.Replaced.{sound_replaced}
use Rattle.page_places.proofs.Store.{alone_from, baseline_key, baseline_of, group_parent, groups_lined, groups_there, members_lined, one_of, other_stays, run_parent, runs_there}
use Rattle.page_places.proofs.TakenOut.{sound_filtered}

group_typed : (id : ℤ) (g : GroupRow) → is_typed grp_at (Int id ∷ group_columns g) ≡ true
group_typed id g = go g.baseline
  where
    go : (b : Option ℕ) → is_typed grp_at (Int id ∷ Text g.name ∷ number_or_null b ∷ []) ≡ true
    go None = refl
    go (Some n) = refl

pub groups_alone : (rows : List Row) (xs : List GroupRow) → Lined grp_at group_columns rows xs → PassAlone grp_at rows
groups_alone = alone_from grp_at group_columns group_typed (λ id g. refl) (λ id g. refl)

-- a row's name is its key
name_read : (a b : ℤ) (x y : GroupRow) → agree plain (1 ∷ []) (row_of grp_at group_columns (Int a) x) (1 ∷ []) (row_of grp_at group_columns (Int b) y) ≡ true → x.name ≡ y.name
name_read a b x y h = text_is x.name y.name (agrees_at (1 ∷ []) (Int a ∷ group_columns x) (Int b ∷ group_columns y) h).0

-- a row's rowid and name are what other tables and indexes know it by
key_columns : (old new : Row) → column new 0 ≡ column old 0 → column new 1 ≡ column old 1 → AllByRecursion (λ place. column new place ≡ column old place) (key_places schema_two grp_at)
unfolding everything
key_columns old new id name = (id, (name, (name, tt)))

abbrev pub name_of : GroupRow → List ℕ
name_of g = g.name

abbrev pub baseline_in : GroupRow → Option ℕ
baseline_in g = g.baseline

module _ (t : Tables) (db next : Trees) (was : Holds t db) where
  pub group_behind : (name : List ℕ) (id : ℤ) → OnlyChanges schema_two db next grp_at → next grp_at.tree ≡ db grp_at.tree ++ (Int id ∷ group_columns (record { name = name; baseline = None })) ∷ [] → IsShaped shape.Table (next grp_at.tree)
      → has_group t name ≡ false → Holds (with_group name t) next
  group_behind name id only rows shaped none =
      let g : GroupRow = record { name = name; baseline = None } in
      let news : List Row = (Int id ∷ group_columns g) ∷ [] in
      let olds : Lined grp_at group_columns (db 19) t.groups = lined_content grp_at group_columns (db 19) t.groups (groups_there t db was) in
      let fresh : Lined grp_at group_columns news (g ∷ []) = (refl, tt) in
      let new : AreNew (λ (x : GroupRow). x.name) t.groups (g ∷ []) = record {
        apart = all_from (λ x. AllByRecursion (λ (y : GroupRow). x.name ≢ y.name) (g ∷ [])) t.groups (λ x there. (λ same. both_ways _ none (some_from (is_named name) t.groups x there ((bytes_eq-Decides x.name name).1 same)), tt));
        among = (tt, tt);
      } in
      let clash = none_clash grp_at group_columns (λ (x : GroupRow). x.name) (1 ∷ []) name_read (db 19) news (next 19) t.groups (g ∷ []) rows olds fresh new in
      record {
        contain = contain_changed schema_two (contents_of t) db next 8 grp_at (map group_columns (t.groups ++ g ∷ [])) refl refl only
            (sound_behind schema_two db next grp_at news (one_of 8 grp_at refl) only rows was.contain.sound (record { alone = groups_alone news (g ∷ []) fresh; unique = and_from _ _ (ap not clash) refl; parents = refl }))
            (content_of grp_at group_columns (next 19) (t.groups ++ g ∷ []) shaped (subst (λ l. Lined grp_at group_columns l (t.groups ++ g ∷ [])) (sym rows) (lined_append grp_at group_columns (db 19) news t.groups (g ∷ []) olds fresh))) was.contain;
        below = was.below;
      }

  olds : Lined grp_at group_columns (db 19) t.groups
  olds = groups_lined t db was

  -- ---- groups taken out

  module _ (only : OnlyChanges schema_two db next grp_at) (shaped : IsShaped shape.Table (next grp_at.tree)) where
    still_refer : (groups : List GroupRow) → Lined grp_at group_columns (next 19) groups → ((m : MemberRow) → Has t.members m → list_any (is_named m.group) groups ≡ true) → StillRefer schema_two next grp_at
    unfolding everything
    still_refer groups lines held = (tt, (tt, ((tt, tt), ((tt, tt), ((tt, tt), (tt, ((tt, tt), ((tt, tt), ((tt, tt), ((each, (tt, tt)), ((tt, tt), tt)))))))))))
      where
        each : (row : Row) → Has (next 21) row → has_parent schema_two.tables next row (to (codes "grp") 1) ≡ true
        each row there =
            let same = other_stays db next grp_at only 9 member_at refl refl in
            let m = line_of member_at member_columns (db 21) t.members (members_lined t db was) row (subst (λ l. Has l row) same there) in group_parent next groups lines m.0.group (held m.0 m.1) row (ap (λ l. column l 1) m.2)

    -- groups that a test leaves, beside a test of the lines; each member's group is left
    pub groups_filtered : (keep : Row → Bool) (kept : GroupRow → Bool) → next grp_at.tree ≡ filter keep (db grp_at.tree) → ((id : ℤ) (g : GroupRow) → Has (db grp_at.tree) (Int id ∷ group_columns g) → keep (Int id ∷ group_columns g) ≡ kept g)
        → ((m : MemberRow) → Has t.members m → list_any (is_named m.group) (filter kept t.groups) ≡ true) → Holds (record t { groups = filter kept t.groups }) next
    groups_filtered keep kept left same held =
        let lines : Lined grp_at group_columns (next 19) (filter kept t.groups) = subst (λ l. Lined grp_at group_columns l (filter kept t.groups)) (sym left)
        (lined_filter grp_at group_columns keep kept (db 19) t.groups (λ r g there is. ap keep is ∙ same (id_of r) g (subst (Has (db 19)) is there)) olds) in
        record {
          contain = contain_changed schema_two (contents_of t) db next 8 grp_at (map group_columns (filter kept t.groups)) refl refl only
              (sound_filtered schema_two db next grp_at keep only left was.contain.sound (still_refer (filter kept t.groups) lines held)) (content_of grp_at group_columns (next 19) (filter kept t.groups) shaped lines) was.contain;
          below = was.below;
        }

    -- a group whose members are gone
    pub group_taken_out : (keep : Row → Bool) (name : List ℕ) → next grp_at.tree ≡ filter keep (db grp_at.tree) → ((id : ℤ) (g : GroupRow) → Has (db grp_at.tree) (Int id ∷ group_columns g) → keep (Int id ∷ group_columns g) ≡ not (is_named name g))
        → list_any (λ (m : MemberRow). bytes_eq m.group name) t.members ≡ false → Holds (record t { groups = filter (λ g. not (is_named name g)) t.groups }) next
    group_taken_out keep name left same none = groups_filtered keep (λ g. not (is_named name g)) left same (λ m there.
        let g = some_has (is_named m.group) t.groups (member_refers t db was m there).0 in
        let other : m.group ≢ name = λ is. both_ways _ none (some_from (λ (x : MemberRow). bytes_eq x.group name) t.members m there ((bytes_eq-Decides m.group name).1 is)) in
        let stays : not (is_named name g.0) ≡ true = not_from_false _ (false_from_ne_true _ (λ is. other (sym ((bytes_eq-Decides g.0.name m.group).0 g.2) ∙ (bytes_eq-Decides g.0.name name).0 is))) in
        some_from (is_named m.group) (filter (λ g. not (is_named name g)) t.groups) g.0 (has_kept (λ g. not (is_named name g)) t.groups g.0 g.1 stays) g.2)

    -- ---- groups replaced

    -- groups of which only the baselines are others, each none or a run that is held
    pub groups_replaced : (turn : Row → Row) (f : GroupRow → GroupRow) → next grp_at.tree ≡ map turn (db grp_at.tree)
        → ((id : ℤ) (g : GroupRow) → Has (db grp_at.tree) (Int id ∷ group_columns g) → turn (Int id ∷ group_columns g) ≡ Int id ∷ group_columns (f g)) → ((g : GroupRow) → Has t.groups g → (f g).name ≡ g.name)
        → ((g : GroupRow) (n : ℕ) → Has t.groups g → (f g).baseline ≡ Some n → has_run t n ≡ true) → Holds (record t { groups = map f t.groups }) next
    groups_replaced turn f turned same named based =
        let turned_line = λ (r : Row) (g : GroupRow) (there : Has (db 19) r) (is : r ≡ Int (id_of r) ∷ group_columns g). ap turn is ∙ same (id_of r) g (subst (Has (db 19)) is there) in
        let lines : Lined grp_at group_columns (next 19) (map f t.groups) = subst (λ l. Lined grp_at group_columns l (map f t.groups)) (sym turned)
        (lined_map grp_at group_columns turn f (db 19) t.groups (λ r g there is. let e = turned_line r g there is in e ∙ ap (λ z. Int z ∷ group_columns (f g)) (sym (ap id_of e))) olds) in
        let keys = λ (r : Row) (there : Has (db 19) r).
        let g = line_of grp_at group_columns (db 19) t.groups olds r there in
        let e = turned_line r g.0 there g.2 in
        let name_same : column (turn r) 1 ≡ column r 1 = ap (λ l. column l 1) e ∙ ap Text (named g.0 g.1) ∙ sym (ap (λ l. column l 1) g.2) in
        key_columns r (turn r) (ap (λ l. column l 0) e ∙ sym (ap (λ l. column l 0) g.2)) name_same in
        record {
          contain = contain_changed schema_two (contents_of t) db next 8 grp_at (map group_columns (map f t.groups)) refl refl only
              (sound_replaced schema_two db next grp_at turn (one_of 8 grp_at refl) only turned (record { alone = groups_alone (next 19) (map f t.groups) lines; keys = keys; parents = and_from _ _ (test_from (λ row. has_parent schema_two.tables next row baseline_of) (next 19) (parented lines)) refl }) was.contain.sound)
              (content_of grp_at group_columns (next 19) (map f t.groups) shaped lines) was.contain;
          below = was.below;
        }
      where
        parented : Lined grp_at group_columns (next 19) (map f t.groups) → (row : Row) → Has (next 19) row → has_parent schema_two.tables next row baseline_of ≡ true
        parented lines row there =
            let g = line_of grp_at group_columns (next 19) (map f t.groups) lines row there in
            let h = has_mapped f t.groups g.0 g.1 in
            go g.0.baseline (ap (λ l. column l 2) g.2) (λ n is. based h.0 n h.1 (sym (ap (λ (x : GroupRow). x.baseline) h.2) ∙ is))
          where
            go : (b : Option ℕ) → column row 2 ≡ number_or_null b → ((n : ℕ) → b ≡ Some n → has_run t n ≡ true) → has_parent schema_two.tables next row baseline_of ≡ true
            go None is held = or_left _ _ (ap (λ v. is_null v || false) is)
            go (Some n) is held = run_parent next t.runs (other_stays db next grp_at only 1 run_at refl refl ∙ runs_there t db was) n 2 baseline_of baseline_key refl (held n refl) row is
