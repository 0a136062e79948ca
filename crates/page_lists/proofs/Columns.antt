-- Lines are told by their columns.
use Rattle.std.proofs.Common.{◌≡◌, ℕ, List, [], ◌∷◌, map, drop, Option, Some, None, refl, sym, ap, ap₂, ◌∙◌}
use Rattle.std.specs.List.{AllZip}
use Rattle.sqlite_value.specs.declared.value.Value.TheVariants.{Text, Blob}
use Rattle.sqlite_value.specs.Order.{Row, bytes, column}
use Rattle.sqlite_trees.specs.Tree.{Trees}
use Rattle.sqlite_schema.specs.declared.schema.Table.{Table}
use Rattle.prof_store.specs.Readings.{as_read, row_read, IsSaidBy, Says, SaysBehind}
use Rattle.prof_store.proofs.Readings.{coef_entries, derived_entries, event_entries, groups_said, members_said, meta_said, runs_said}
use Rattle.plain_tables.specs.Tables.{Tables, RunRow, EventRow, DerivedRow, CoefRow, GroupRow, MemberRow}
use Rattle.prof_store.specs.Schema.{meta_at, run_at, run_event_at, derived_at, coef_at, grp_at, member_at}
use Rattle.prof_store.specs.Tables.{number, number_or_null, text_or_null, meta_columns, run_columns, event_columns, derived_columns, coef_columns, group_columns, member_columns}
use Rattle.run_lists.specs.Listed.{run_row, event_row, derived_row, coef_row, group_row, member_row}
use Rattle.run_lists.specs.declared.listed.ListedRun.{ListedRun}
use Rattle.run_lists.specs.declared.listed.ListedEvent.{ListedEvent}
use Rattle.run_lists.specs.declared.listed.ListedDerived.{ListedDerived}
use Rattle.run_lists.specs.declared.listed.ListedCoef.{ListedCoef}
use Rattle.run_lists.specs.declared.listed.ListedGroup.{ListedGroup}
use Rattle.run_lists.specs.declared.listed.ListedMember.{ListedMember}
use Rattle.page_lists.specs.Walks.{natural}
use Rattle.page_lists.proofs.Said.{ReadPlain, one_line, read_as_said}

one_number_or_null : (a b : Option ℕ) → number_or_null a ≡ number_or_null b → a ≡ b
one_number_or_null None None is = refl
one_number_or_null None (Some n) is = absurd cc
one_number_or_null (Some n) None is = absurd cc
one_number_or_null (Some n) (Some m) is = let same : n ≡ m = cc in ap Some same

one_text_or_null : (a b : Option (List ℕ)) → text_or_null a ≡ text_or_null b → a ≡ b
one_text_or_null None None is = refl
one_text_or_null None (Some text) is = absurd cc
one_text_or_null (Some text) None is = absurd cc
one_text_or_null (Some text) (Some other) is = let same : text ≡ other = cc in ap Some same

-- each is made again of its columns
one_run : (a b : RunRow) → run_columns a ≡ run_columns b → a ≡ b
one_run a b is = ap made is
  where
    made : Row → RunRow
    made row = record { number = natural (column row 0); kind = natural (column row 2); digest = bytes (column row 3); label = bytes (column row 4); call_count = natural (column row 5) }

one_event : (a b : EventRow) → event_columns a ≡ event_columns b → a ≡ b
one_event a b is =
    let shown : text_or_null a.stated ≡ text_or_null b.stated = cc in
    ap₂ made is (one_text_or_null a.stated b.stated shown)
  where
    made : Row → Option (List ℕ) → EventRow
    made row stated = record { run = natural (column row 0); place = natural (column row 1); name = bytes (column row 2); self_cost = natural (column row 3); call_cost = natural (column row 4); stated = stated }

one_derived : (a b : DerivedRow) → derived_columns a ≡ derived_columns b → a ≡ b
one_derived a b is = ap made is
  where
    made : Row → DerivedRow
    made row = record { run = natural (column row 0); place = natural (column row 1); name = bytes (column row 2) }

one_coef : (a b : CoefRow) → coef_columns a ≡ coef_columns b → a ≡ b
one_coef a b is = ap made is
  where
    made : Row → CoefRow
    made row = record { run = natural (column row 0); place = natural (column row 1); event = natural (column row 2); times = natural (column row 3) }

one_group : (a b : GroupRow) → group_columns a ≡ group_columns b → a ≡ b
one_group a b is =
    let shown : number_or_null a.baseline ≡ number_or_null b.baseline = cc in
    ap₂ made is (one_number_or_null a.baseline b.baseline shown)
  where
    made : Row → Option ℕ → GroupRow
    made row baseline = record { name = bytes (column row 0); baseline = baseline }

one_member : (a b : MemberRow) → member_columns a ≡ member_columns b → a ≡ b
one_member a b is = ap made is
  where
    made : Row → MemberRow
    made row = record { group = bytes (column row 0); run = natural (column row 1) }

pub all_seen : (rows : List Row) → map (λ (row : Row). row) rows ≡ rows
all_seen [] = refl
all_seen (row ∷ rows) = ap (λ l. row ∷ l) (all_seen rows)

-- those that may be missing too
event_plain : (far : ℕ → ℕ) → ReadPlain far run_event_at event_columns
event_plain far e = go e.stated
  where
    go : (stated : Option (List ℕ)) → number e.run ∷ number e.place ∷ Blob e.name ∷ number e.self_cost ∷ number e.call_cost ∷ as_read far (text_or_null stated) ∷ []
        ≡ number e.run ∷ number e.place ∷ Blob e.name ∷ number e.self_cost ∷ number e.call_cost ∷ text_or_null stated ∷ []
    go None = refl
    go (Some text) = refl

group_plain : (far : ℕ → ℕ) → ReadPlain far grp_at group_columns
group_plain far g = go g.baseline
  where
    go : (baseline : Option ℕ) → Text g.name ∷ as_read far (number_or_null baseline) ∷ [] ≡ Text g.name ∷ number_or_null baseline ∷ []
    go None = refl
    go (Some n) = refl

-- lines of a table with a key have its columns, rowid and all
module _ {L R : Type 0} (line : L → R) (columns : R → Row) (one : (a b : R) → columns a ≡ columns b → a ≡ b) (far : ℕ → ℕ) (table : Table) (plain : (x : R) → row_read far table (columns x) ≡ columns x) where
  keyed_as : (rows : List Row) (xs : List R) (lines : List L) → AllZip (Says far table columns) rows xs → map (λ l. columns (line l)) lines ≡ map (λ (row : Row). row) rows → map line lines ≡ xs
  keyed_as = read_as_said line columns one (λ row. row) (Says far table columns) (λ r x l says is. sym (plain l) ∙ ap (row_read far table) is ∙ says)

-- others the columns behind it
module _ {L R : Type 0} (line : L → R) (columns : R → Row) (one : (a b : R) → columns a ≡ columns b → a ≡ b) (far : ℕ → ℕ) (table : Table) (plain : ReadPlain far table columns) (filled : (x : R) → columns x ≡ [] → ⊥) where
  behind_as : (rows : List Row) (xs : List R) (lines : List L) → AllZip (SaysBehind far table columns) rows xs → map (λ l. columns (line l)) lines ≡ map (drop 1) rows → map line lines ≡ xs
  behind_as = read_as_said line columns one (drop 1) (SaysBehind far table columns) (one_line far table columns plain filled)

module _ (t : Tables) (db : Trees) (was : IsSaidBy t db) where
  pub next_told : (next : ℕ) → db meta_at.tree ≡ meta_columns next ∷ [] → next ≡ t.next
  next_told next is =
      let read : meta_columns next ∷ [] ≡ meta_columns t.next ∷ [] = ap (map (row_read was.far meta_at)) (sym is) ∙ meta_said t db was in
      cc

  pub runs_told : (lines : List ListedRun) → map (λ line. run_columns (run_row line)) lines ≡ map (λ (row : Row). row) (db run_at.tree) → map run_row lines ≡ t.runs
  runs_told lines = keyed_as run_row run_columns one_run was.far run_at (λ x. refl) (db 1) t.runs lines (runs_said t db was)

  pub events_told : (lines : List ListedEvent) → map (λ line. event_columns (event_row line)) lines ≡ map (drop 1) (db run_event_at.tree) → map event_row lines ≡ t.events
  events_told lines = behind_as event_row event_columns one_event was.far run_event_at (event_plain was.far) (λ x none. absurd cc) (db 3) t.events lines (event_entries t db was)

  pub derived_told : (lines : List ListedDerived) → map (λ line. derived_columns (derived_row line)) lines ≡ map (drop 1) (db derived_at.tree) → map derived_row lines ≡ t.derived
  derived_told lines = behind_as derived_row derived_columns one_derived was.far derived_at (λ x. refl) (λ x none. absurd cc) (db 6) t.derived lines (derived_entries t db was)

  pub coefs_told : (lines : List ListedCoef) → map (λ line. coef_columns (coef_row line)) lines ≡ map (drop 1) (db coef_at.tree) → map coef_row lines ≡ t.coefs
  coefs_told lines = behind_as coef_row coef_columns one_coef was.far coef_at (λ x. refl) (λ x none. absurd cc) (db 9) t.coefs lines (coef_entries t db was)

  pub groups_told : (lines : List ListedGroup) → map (λ line. group_columns (group_row line)) lines ≡ map (drop 1) (db grp_at.tree) → map group_row lines ≡ t.groups
  groups_told lines = behind_as group_row group_columns one_group was.far grp_at (group_plain was.far) (λ x none. absurd cc) (db 19) t.groups lines (groups_said t db was)

  pub members_told : (lines : List ListedMember) → map (λ line. member_columns (member_row line)) lines ≡ map (drop 1) (db member_at.tree) → map member_row lines ≡ t.members
  members_told lines = behind_as member_row member_columns one_member was.far member_at (λ x. refl) (λ x none. absurd cc) (db 21) t.members lines (members_said t db was)
