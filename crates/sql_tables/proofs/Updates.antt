-- UPDATE, where no action waits for it.
use Rattle.std.proofs.Common.{◌≡◌, inl, inr, ℕ, ℤ, pos, List, [], ◌∷◌, map, drop, slice_get, is_some, Bool, true, false, cond, if◌then◌else◌, Some, None, Option, Ok, IsTrue, refl, sym, ap, ap₂, subst, ◌∙◌}
use Rattle.std.specs.List.{AllByRecursion}
use Rattle.sqlite_value.specs.declared.value.Value.{Value}
use Rattle.sqlite_value.specs.declared.value.Value.TheVariants.{Null, Int}
use Rattle.sqlite_value.specs.Order.{Row}
use Rattle.sqlite_trees.specs.Tree.{Trees, rowid, put_row}
use Rattle.sqlite_trees.specs.View.{IsShaped, is_int}
use Rattle.sqlite_trees.specs.declared.store.Shape.TheVariants as shape
use Rattle.sqlite_sql.specs.Term.{Term, col}
use Rattle.sqlite_sql.specs.Program.{overlay}
use Rattle.sqlite_sql.specs.Query.{output}
use Rattle.sqlite_schema.specs.declared.schema.Keys.TheVariants.{Enforced}
use Rattle.sqlite_schema.specs.declared.schema.Table.{Table}
use Rattle.sqlite_schema.specs.declared.schema.Schema.{Schema}
use Rattle.sqlite_schema.specs.declared.command.Command.TheVariants.{Update}
use Rattle.sqlite_rules.specs.declared.error.Rowids.TheVariants.{Given}
use Rattle.sqlite_rules.specs.Cast.{cast_row}
use Rattle.sqlite_rules.specs.Lists.{Has}
use Rattle.sqlite_rules.specs.Action.{works}
use Rattle.sqlite_rules.specs.Calls.{ids_of}
use Rattle.sqlite_rules.specs.Edit.{edit_of, are_fresh, id_in, numbered, with_rowid, put_all, without_all, row_at}
use Rattle.sqlite_rules.proofs.ActionLemmas.{no_works}
use Rattle.sqlite_rules.proofs.ListLemmas.{all_has}
use Rattle.sqlite_rules.proofs.PlaceLemmas.{given}
use Rattle.sqlite_rules.proofs.TableLemmas.{int_is}
use Rattle.sqlite_rules.proofs.ProbeLemmas.{has_mapped, mapped_has}
use Rattle.sqlite_catalog.specs.Listing.{IsSound}
use Rattle.sqlite.specs.Effect.{Database, IsDatabase}
use Rattle.sqlite.specs.Does.{Tally, Does}
use Rattle.sqlite.proofs.Callers.{one_step}
use Rattle.sql_tables.specs.Contents.{IsContent, Contain, content_at, with_content, stands_alone}
use Rattle.sql_tables.specs.Queries.{scan, only}
use Rattle.sql_tables.proofs.Contents.{content_changed, content_there}
use Rattle.sql_tables.proofs.Deletes.{row_of}
use Rattle.sql_tables.proofs.Effects.{updates, plainly}
use Rattle.sql_tables.proofs.InPlace.{replaced, updated, map_table}
use Rattle.sql_tables.proofs.Queries.{Selects, selects, sorted_scan, shown_row, row_shown}
use Rattle.sql_tables.proofs.Rows.{Picks, passes, Numbered, id_of, id_is}
use Rattle.sql_tables.proofs.Statements.{plain_mode}

-- a row of a table is one of its entries
pub entry_there : {X : Type 0} (table : Table) (columns : X → Row) (rows : List Row) (xs : List X) → IsContent table (map columns xs) rows → (r : Row) → Has rows r → (x : X) × Has xs x × (r ≡ row_of table columns (Int (id_of r)) x)
entry_there {X} table columns rows xs h r there = go table.key refl
  where
    keyed : (all : List Row) (ys : List X) → all ≡ map columns ys → Has all r → (x : X) × Has ys x × (r ≡ columns x)
    keyed [] ys e t = absurd t
    keyed (s ∷ all) [] e t = absurd (let bad : ◌≡◌ {A = List Row} (s ∷ all) [] = e in cc)
    keyed (s ∷ all) (y ∷ ys) e (inl same) = let first : s ≡ columns y = cc in (y, inl refl, same ∙ first)
    keyed (s ∷ all) (y ∷ ys) e (inr later) =
        let rest : all ≡ map columns ys = cc in
        let it = keyed all ys rest later in (it.0, inr it.1, it.2)

    listed : (all : List Row) (ys : List X) → AllByRecursion Numbered all → map (drop 1) all ≡ map columns ys → Has all r → (x : X) × Has ys x × (r ≡ Int (id_of r) ∷ columns x)
    listed [] ys numbered e t = absurd t
    listed (s ∷ all) [] numbered e t = absurd (let bad : ◌≡◌ {A = List Row} (drop 1 s ∷ map (drop 1) all) [] = e in cc)
    listed ([] ∷ all) (y ∷ ys) numbered e t = absurd (let bad : false ≡ true = numbered.0 in cc)
    listed ((id ∷ cs) ∷ all) (y ∷ ys) numbered e (inl same) =
        let first : cs ≡ columns y = cc in
        let whole : r ≡ Int (id_of (id ∷ cs)) ∷ columns y = same ∙ ap₂ (λ v l. v ∷ l) (id_is (id ∷ cs) numbered.0) first in
        (y, inl refl, whole ∙ ap (λ q. Int (id_of q) ∷ columns y) (sym same))
    listed ((id ∷ cs) ∷ all) (y ∷ ys) numbered e (inr later) =
        let rest : map (drop 1) all ≡ map columns ys = cc in
        let it = listed all ys numbered.1 rest later in (it.0, inr it.1, it.2)

    go : (key : Option ℕ) → table.key ≡ key → (x : X) × Has xs x × (r ≡ row_of table columns (Int (id_of r)) x)
    go (Some k) is =
        let it = keyed rows xs (sym (ap (λ o. if is_some o then rows else map (drop 1) rows) is) ∙ h.rows_are) there in
        (it.0, it.1, it.2 ∙ sym (ap (λ o. if is_some o then columns it.0 else Int (id_of r) ∷ columns it.0) is))
    go None is =
        let it = listed rows xs h.numbered.1 (sym (ap (λ o. if is_some o then rows else map (drop 1) rows) is) ∙ h.rows_are) there in
        (it.0, it.1, it.2 ∙ sym (ap (λ o. if is_some o then columns it.0 else Int (id_of r) ∷ columns it.0) is))

-- entries of which those that pass are others
abbrev pub changed : {X : Type 0} → (X → Bool) → (X → X) → X → X
changed q f x = if q x then f x else x

-- entries whose rows are replaced in place
pub content_updated : {X : Type 0} (table : Table) (columns : X → Row) (g : Row → Row) (f : X → X) (rows : List Row) (xs : List X) → ((z : ℤ) (x : X) → g (row_of table columns (Int z) x) ≡ row_of table columns (Int z) (f x))
    → ((r : Row) → Has rows r → rowid (g r) ≡ rowid r) → IsContent table (map columns xs) rows → IsContent table (map columns (map f xs)) (map g rows)
content_updated {X} table columns g f rows xs same still h = go table.key refl
  where
    numbers : (all : List Row) → ((r : Row) → Has all r → rowid (g r) ≡ rowid r) → AllByRecursion Numbered all → AllByRecursion Numbered (map g all)
    numbers [] each h = tt
    numbers (r ∷ all) each h = (subst (λ v. IsTrue (is_int v)) (sym (each r (inl refl))) h.0, numbers all (λ s t. each s (inr t)) h.1)

    shaped : IsShaped shape.Table (map g rows)
    shaped = (map_table g rows still h.numbered.0, numbers rows still h.numbered.1)

    keyed : (all : List Row) (ys : List X) → ((x : X) → g (columns x) ≡ columns (f x)) → all ≡ map columns ys → map g all ≡ map columns (map f ys)
    keyed [] [] each e = refl
    keyed [] (y ∷ ys) each e = absurd (let bad : ◌≡◌ {A = List Row} [] (columns y ∷ map columns ys) = e in cc)
    keyed (r ∷ all) [] each e = absurd (let bad : ◌≡◌ {A = List Row} (r ∷ all) [] = e in cc)
    keyed (r ∷ all) (y ∷ ys) each e =
        let first : r ≡ columns y = cc in
        let rest : all ≡ map columns ys = cc in ap₂ (λ q l. q ∷ l) (ap g first ∙ each y) (keyed all ys each rest)

    listed : (all : List Row) (ys : List X) → ((z : ℤ) (x : X) → g (Int z ∷ columns x) ≡ Int z ∷ columns (f x)) → AllByRecursion Numbered all → map (drop 1) all ≡ map columns ys → map (drop 1) (map g all) ≡ map columns (map f ys)
    listed [] [] each numbered e = refl
    listed [] (y ∷ ys) each numbered e = absurd (let bad : ◌≡◌ {A = List Row} [] (columns y ∷ map columns ys) = e in cc)
    listed (r ∷ all) [] each numbered e = absurd (let bad : ◌≡◌ {A = List Row} (drop 1 r ∷ map (drop 1) all) [] = e in cc)
    listed ([] ∷ all) (y ∷ ys) each numbered e = absurd (let bad : false ≡ true = numbered.0 in cc)
    listed ((id ∷ cs) ∷ all) (y ∷ ys) each numbered e =
        let first : cs ≡ columns y = cc in
        let rest : map (drop 1) all ≡ map columns ys = cc in
        ap₂ {A = Row} (λ q l. q ∷ l) (ap (λ q. drop 1 (g q)) (ap₂ (λ v l. v ∷ l) (id_is (id ∷ cs) numbered.0) first) ∙ ap (drop 1) (each (id_of (id ∷ cs)) y)) (listed all ys each numbered.1 rest)

    go : (key : Option ℕ) → table.key ≡ key → IsContent table (map columns (map f xs)) (map g rows)
    go (Some k) is = record {
      numbered = shaped;
      rows_are = ap (λ o. if is_some o then map g rows else map (drop 1) (map g rows)) is
          ∙ keyed rows xs (λ x. subst (λ o. g (if is_some o then columns x else Int (pos 0) ∷ columns x) ≡ (if is_some o then columns (f x) else Int (pos 0) ∷ columns (f x))) is (same (pos 0) x))
          (sym (ap (λ o. if is_some o then rows else map (drop 1) rows) is) ∙ h.rows_are);
    }
    go None is = record {
      numbered = shaped;
      rows_are = ap (λ o. if is_some o then map g rows else map (drop 1) (map g rows)) is
          ∙ listed rows xs (λ z x. subst (λ o. g (if is_some o then columns x else Int z ∷ columns x) ≡ (if is_some o then columns (f x) else Int z ∷ columns (f x))) is (same z x)) h.numbered.1 (sym (ap (λ o. if is_some o then rows else map (drop 1) rows) is) ∙ h.rows_are);
    }

module _ (schema : Schema) (contents : List (List Row)) (limit : Option ℕ) (params : Row) (trees : Trees) (text : List ℕ) (tally : Tally) (after : Database) (at : ℕ) (table : Table)
    (there : slice_get schema.tables at ≡ Some (plainly table)) (alone : stands_alone table.tree at schema.tables ≡ true) (seen : overlay trees [] table.tree ≡ trees table.tree) (terms project : List Term) (was : Contain schema contents trees)
    (sound : IsDatabase after) (h : Does limit plain_mode params (record { schema = schema; trees = trees }) text None (Update at (only (scan table.tree terms (col 1 0 ∷ project)))) (Ok (tally, after))) where
  -- what the statement makes of a row
  abbrev pub set : Row → Row
  set r = cast_row (plainly table) (drop 1 (output (sorted_scan table.tree terms (col 1 0 ∷ project) []) (params ∷ r ∷ [])).1)

  found_picks : (rows found : List Row) → IsShaped shape.Table rows → Selects table.tree terms (col 1 0 ∷ project) [] rows params found → Picks (passes params terms) rows (ids_of found)
  found_picks rows found numbered s = record {
    sound = λ id there.
        let x = has_mapped (λ (y : Row). id_in (rowid y)) found id there in
        let r = shown_row table.tree terms (col 1 0 ∷ project) [] rows params found s x.0 x.1 in
        let e : id ≡ id_in (rowid r.0) = x.2 ∙ ap (λ (y : Row). id_in (rowid y)) r.3 in
        (r.0, r.1, r.2, int_is (rowid r.0) (all_has (λ q. IsTrue (is_int (rowid q))) rows r.0 numbered.1 r.1) ∙ ap Int (sym e));
    complete = λ r id there is at.
        subst (Has (ids_of found)) (ap id_in at) (mapped_has (λ (y : Row). id_in (rowid y)) found _ (row_shown table.tree terms (col 1 0 ∷ project) [] rows params found s r there is));
  }

  works_none : ((taken : List Row) (n : Row) (news : List Row) → works schema Enforced 0 table.tree taken (n ∷ news) ≡ []) → (rows before found : List Row)
      → works schema Enforced 0 table.tree (map (row_at rows) (ids_of found)) (numbered Given before (map (λ s. cast_row (plainly table) (drop 1 s)) found)) ≡ []
  works_none leaf rows before [] = no_works schema Enforced 0 table.tree []
  works_none leaf rows before (x ∷ found) =
      leaf (map (row_at rows) (ids_of (x ∷ found))) (with_rowid Given before (cast_row (plainly table) (drop 1 x)))
      (numbered Given (put_row (with_rowid Given before (cast_row (plainly table) (drop 1 x))) before) (map (λ s. cast_row (plainly table) (drop 1 s)) found))

  -- the entries that pass are changed, each in its place
  pub updates_rows : {X : Type 0} (columns : X → Row) (xs : List X) (q : X → Bool) (f : X → X) → ((taken : List Row) (n : Row) (news : List Row) → works schema Enforced 0 table.tree taken (n ∷ news) ≡ [])
      → content_at at contents ≡ map columns xs → ((id : Value) (x : X) → passes params terms (row_of table columns id x) ≡ q x)
      → ((z : ℤ) (x : X) → set (row_of table columns (Int z) x) ≡ row_of table columns (Int z) (f x)) → ((z : ℤ) (x : X) → rowid (row_of table columns (Int z) (f x)) ≡ rowid (row_of table columns (Int z) x))
      → (after.schema ≡ schema) × Contain schema (with_content at (map columns (map (changed q f) xs)) contents) after.trees
  updates_rows {X} columns xs q f leaf entries same sets still =
      let rows = trees table.tree in
      let P = passes params terms in
      let it = updates limit plain_mode params (record { schema = schema; trees = trees }) text tally after at table there (only (scan table.tree terms (col 1 0 ∷ project))) h in
      let here = subst (λ c. IsContent (plainly table) c rows) entries (content_there schema.tables contents trees at (plainly table) there was.contents_are) in
      let s : Selects table.tree terms (col 1 0 ∷ project) [] rows params it.0 =
      subst (λ l. Selects table.tree terms (col 1 0 ∷ project) [] l params it.0) seen (selects table.tree terms (col 1 0 ∷ project) [] (overlay trees []) params it.0 (it.1.answer Null)) in
      let picks = found_picks rows it.0 here.numbered s in
      let step = one_step schema Enforced trees after.trees (edit_of trees (plainly table) (ids_of it.0) Given 1 it.0) (works_none leaf rows _ it.0) it.3 in
      let cast = λ (r : Row). cast_row (plainly table) (drop 1 r) in
      let news : numbered Given (without_all rows (ids_of it.0)) (map cast it.0) ≡ map cast it.0 = given _ _ in
      let still_row : (r : Row) → Has rows r → rowid (set r) ≡ rowid r = λ r t.
      let e = entry_there (plainly table) columns rows xs here r t in ap (λ k. rowid (set k)) e.2 ∙ ap rowid (sets (id_of r) e.0) ∙ still (id_of r) e.0 ∙ ap rowid (sym e.2) in
      let insert = replaced P set rows (map cast it.0) (ids_of it.0) here.numbered picks (subst (λ l. are_fresh (without_all rows (ids_of it.0)) l ≡ true) news step.fresh) (λ r t is. still_row r t)
      (λ x t.
      let y = has_mapped cast it.0 x t in
      let r = shown_row table.tree terms (col 1 0 ∷ project) [] rows params it.0 s y.0 y.1 in
      (r.0, r.1, r.2, y.2 ∙ ap cast r.3))
      (λ r t is. mapped_has cast it.0 _ (row_shown table.tree terms (col 1 0 ∷ project) [] rows params it.0 s r t is)) in
      let new_rows : after.trees table.tree ≡ map (updated P set) rows = step.rows ∙ ap (put_all (without_all rows (ids_of it.0))) news ∙ insert in
      let each : (z : ℤ) (x : X) → updated P set (row_of table columns (Int z) x) ≡ row_of table columns (Int z) (changed q f x) = λ z x.
      ap (λ b. cond b (set (row_of table columns (Int z) x)) (row_of table columns (Int z) x)) (same (Int z) x) ∙ either (q x) z x (sets z x) in
      let next = content_updated (plainly table) columns (updated P set) (changed q f) rows xs each (λ r t. still_either (P r) r (still_row r t)) here in (
        it.2,
        record {
          sound = subst (λ k. IsSound k after.trees) it.2 sound;
          contents_are = content_changed schema.tables contents trees after.trees at (plainly table) _ there alone step.tables (subst (IsContent (plainly table) _) (sym new_rows) next) was.contents_are;
        },
      )
    where
      either : (b : Bool) (z : ℤ) (x : X) → set (row_of table columns (Int z) x) ≡ row_of table columns (Int z) (f x)
          → cond b (set (row_of table columns (Int z) x)) (row_of table columns (Int z) x) ≡ row_of table columns (Int z) (if b then f x else x)
      either true z x e = e
      either false z x e = refl

      still_either : (b : Bool) (r : Row) → rowid (set r) ≡ rowid r → rowid (cond b (set r) r) ≡ rowid r
      still_either true r e = e
      still_either false r e = refl
