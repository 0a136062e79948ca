-- What is found in rows tells of the lines as which they are read, and lines that tables hold are such.
use Rattle.std.proofs.Common.{◌≡◌, ℕ, ◌^◌, ◌+◌, List, [], ◌∷◌, map, drop, refl, ap, ap₂, ◌∙◌, arith, Option, Some, None}
use Rattle.std.specs.List.{AllByRecursion}
use Rattle.sqlite_keyed.proofs.ListLemmas.{map-map}
use Rattle.sqlite_value.specs.declared.value.Value.{Value}
use Rattle.sqlite_value.specs.declared.value.Value.TheVariants.{Text, Blob}
use Rattle.sqlite_value.specs.Order.{Row, column}
use Rattle.sqlite_trees.specs.Tree.{Trees}
use Rattle.sqlite_schema.specs.declared.schema.Table.{Table}
use Rattle.sql_tables.proofs.Orders.{seen_columns}
use Rattle.sql_tables.proofs.Rows.{Numbered}
use Rattle.prof_store.specs.Schema.{meta_at, run_at, run_event_at, derived_at, coef_at, name_at, thread_cell_at, arc_at, stack_at, grp_at, member_at}
use Rattle.plain_tables.specs.Tables.{Tables, EventRow, GroupRow}
use Rattle.prof_store.specs.Tables.{Holds, run_columns, event_columns, derived_columns, coef_columns, name_columns, cell_columns, arc_columns, stack_columns, group_columns, member_columns, number, number_or_null, text_or_null}
use Rattle.prof_store.specs.Readings.{as_read, row_read, IsSaidBy, RowsSay}
use Rattle.prof_store.proofs.Readings.{values_read}

-- ---- a line of a group has no negative number

group_plain : (far : ℕ → ℕ) (g : GroupRow) → values_read far (group_columns g) ≡ group_columns g
group_plain far g = go g.baseline
  where
    go : (b : Option ℕ) → values_read far (Text g.name ∷ number_or_null b ∷ []) ≡ Text g.name ∷ number_or_null b ∷ []
    go None = refl
    go (Some n) = refl

-- ---- one call after another

pub said : (t : Tables) (db : Trees) → RowsSay t db → IsSaidBy t db
unfolding RowsSay
said t db was = was

-- ---- lines that tables hold

module _ (far : ℕ → ℕ) where
  event_read : (id : Value) (e : EventRow) → drop 1 (row_read far run_event_at (id ∷ event_columns e)) ≡ event_columns e
  event_read id e = go e.stated
    where
      go : (stated : Option (List ℕ)) → number e.run ∷ number e.place ∷ Blob e.name ∷ number e.self_cost ∷ number e.call_cost ∷ as_read far (text_or_null stated) ∷ []
          ≡ number e.run ∷ number e.place ∷ Blob e.name ∷ number e.self_cost ∷ number e.call_cost ∷ text_or_null stated ∷ []
      go None = refl
      go (Some text) = refl

  keyed : {X : Type 0} (table : Table) (columns : X → Row) → ((x : X) → row_read far table (columns x) ≡ columns x) → (xs : List X) → map (row_read far table) (map columns xs) ≡ map columns xs
  keyed table columns same [] = refl
  keyed table columns same (x ∷ xs) = ap₂ ◌∷◌ (same x) (keyed table columns same xs)

  behind : {X : Type 0} (table : Table) (columns : X → Row) → ((id : Value) (x : X) → drop 1 (row_read far table (id ∷ columns x)) ≡ columns x) → (rows : List Row) (xs : List X) → AllByRecursion Numbered rows → map (drop 1) rows ≡ map columns xs
      → map (drop 1) (map (row_read far table) rows) ≡ map columns xs
  behind table columns same rows xs numbered is = map-map (drop 1) (row_read far table) rows ∙ seen_columns columns columns (λ r. drop 1 (row_read far table r)) same rows xs numbered is

-- lines that tables hold are those as which their rows are read
pub held_said : (t : Tables) (db : Trees) → Holds t db → RowsSay t db
unfolding RowsSay
held_said t db was =
    let far : ℕ → ℕ = λ n. 2 ^ 64 + n in
    let c = was.contain.contents_are in
    let c3 = c.1.1.0 in
    let c6 = c.1.1.1.0 in
    let c9 = c.1.1.1.1.0 in
    let c15 = c.1.1.1.1.1.1.0 in
    let c17 = c.1.1.1.1.1.1.1.0 in
    let c19 = c.1.1.1.1.1.1.1.1.0 in
    let c21 = c.1.1.1.1.1.1.1.1.1.0 in
    let c23 = c.1.1.1.1.1.1.1.1.1.1.0 in
    record {
      sound = was.contain.sound;
      far = far;
      is_far = λ n. omega arith;
      contents_are = (
        record { numbered = c.0.numbered; rows_are = ap (map (row_read far meta_at)) c.0.rows_are },
        (
          record { numbered = c.1.0.numbered; rows_are = ap (map (row_read far run_at)) c.1.0.rows_are ∙ keyed far run_at run_columns (λ x. refl) t.runs },
          (
            record { numbered = c3.numbered; rows_are = behind far run_event_at event_columns (event_read far) (db 3) t.events c3.numbered.1 c3.rows_are },
            (
              record { numbered = c6.numbered; rows_are = behind far derived_at derived_columns (λ id x. refl) (db 6) t.derived c6.numbered.1 c6.rows_are },
              (
                record { numbered = c9.numbered; rows_are = behind far coef_at coef_columns (λ id x. refl) (db 9) t.coefs c9.numbered.1 c9.rows_are },
                (
                  record { numbered = c.1.1.1.1.1.0.numbered; rows_are = ap (map (row_read far name_at)) c.1.1.1.1.1.0.rows_are ∙ keyed far name_at name_columns (λ x. refl) t.names },
                  (
                    record { numbered = c15.numbered; rows_are = behind far arc_at arc_columns (λ id x. refl) (db 15) t.calls c15.numbered.1 c15.rows_are },
                    (
                      record { numbered = c17.numbered; rows_are = behind far stack_at stack_columns (λ id x. refl) (db 17) t.stacks c17.numbered.1 c17.rows_are },
                      (
                        record { numbered = c19.numbered; rows_are = behind far grp_at group_columns (λ id g. group_plain far g) (db 19) t.groups c19.numbered.1 c19.rows_are },
                        (
                          record { numbered = c21.numbered; rows_are = behind far member_at member_columns (λ id x. refl) (db 21) t.members c21.numbered.1 c21.rows_are },
                          (
                            record { numbered = c23.numbered; rows_are = behind far thread_cell_at cell_columns (λ id x. refl) (db 23) t.cells c23.numbered.1 c23.rows_are },
                            tt,
                          ),
                        ),
                      ),
                    ),
                  ),
                ),
              ),
            ),
          ),
        ),
      );
    }
