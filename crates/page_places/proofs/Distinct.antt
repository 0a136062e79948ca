-- Lines whose entries were sorted and differ have keys that differ.
use Rattle.std.proofs.Common.{◌≡◌, ◌≢◌, ℕ, ℤ, List, [], ◌∷◌, map, take, false, is_eq, refl, sym, ap, ap₂, ◌∙◌}
use Rattle.std.specs.List.{AllByRecursion, IsDistinct}
use Rattle.std.specs.Ordering.{ordering_reverse}
use Rattle.std.specs.declared.cmp.Ordering.{Ordering}
use Rattle.std.specs.declared.cmp.Ordering.TheVariants.{Less, Equal, Greater}
use Rattle.std.proofs.lemmas.Bool.{both_ways}
use Rattle.std.proofs.lemmas.Cmp.{tied_itself}
use Rattle.std.proofs.lemmas.Map.Keys.{IsDistinct-IsPermutation}
use Rattle.std.proofs.lemmas.List.Sorted.{IsPermutation-sym}
use Rattle.sqlite_value.specs.declared.value.Value.{Value}
use Rattle.sqlite_value.specs.declared.value.Value.TheVariants.{Int, Blob}
use Rattle.sqlite_value.specs.Order.{Row, row_cmp}
use Rattle.sqlite_value.proofs.OrderLemmas.{row_cmp_total}
use Rattle.sqlite_schema.specs.declared.schema.Table.{Table}
use Rattle.sqlite_sql.specs.Catalog.{IsIndexOf, entry_of}
use Rattle.sql_tables.proofs.Deletes.{row_of}
use Rattle.sql_tables.proofs.Rows.{id_of}
use Rattle.plain_tables.specs.Lists.{IsAscending}
use Rattle.plain_tables.specs.Tables.{EventRow, DerivedRow, CoefRow, NameRow, StoredCell, StoredCall, StoredStack}
use Rattle.prof_store.specs.Schema.{run_event_at, derived_at, coef_at, name_at, thread_cell_at, arc_at, stack_at}
use Rattle.prof_store.specs.Tables.{event_columns, derived_columns, coef_columns, name_columns, cell_columns, arc_columns, stack_columns, number}
use Rattle.page_places.specs.Keys.{Differ, HeadsDiffer, same_head, event_key, event_name_key, derived_key, derived_name_key, coef_key, cell_key, call_key, stack_key}
use Rattle.page_places.proofs.Contents.{Lined}

turned_equal : (o : Ordering) → is_eq (ordering_reverse o) ≡ is_eq o
turned_equal Less = refl
turned_equal Equal = refl
turned_equal Greater = refl

flips : (count : ℕ) (a b : Row) → same_head count a b ≡ same_head count b a
flips count a b = ap is_eq (row_cmp_total.antisymm (take count a) (take count b)) ∙ turned_equal (row_cmp (take count b) (take count a))

distinct_from : (count : ℕ) (es : List Row) → HeadsDiffer count es → IsDistinct (same_head count) es
unfolding IsDistinct
distinct_from count [] h = tt
distinct_from count (e ∷ es) h = (h.0, distinct_from count es h.1)

differs_from : (count : ℕ) (es : List Row) → IsDistinct (same_head count) es → HeadsDiffer count es
unfolding IsDistinct
differs_from count [] h = tt
differs_from count (e ∷ es) h = (h.0, differs_from count es h.1)

-- entries that rise without their rowids
pub differ_by_rising : (count : ℕ) (es : List Row) → IsAscending (λ a b. row_cmp (take count a) (take count b) ≡ Less) es → HeadsDiffer count es
differ_by_rising count [] up = tt
differ_by_rising count (e ∷ es) up = (each es up.0, differ_by_rising count es up.1)
  where
    each : (xs : List Row) → AllByRecursion (λ x. row_cmp (take count e) (take count x) ≡ Less) xs → AllByRecursion (λ x. same_head count e x ≡ false) xs
    each [] h = tt
    each (x ∷ xs) h = (ap is_eq h.0, each xs h.1)

module _ {X : Type 0} (table : Table) (columns : X → Row) (key : X → List ℕ) (places : List ℕ) (count : ℕ)
    (reads : (a b : ℤ) (x y : X) → key x ≡ key y → take count (entry_of places (row_of table columns (Int a) x)) ≡ take count (entry_of places (row_of table columns (Int b) y))) where
  keys_differ : (rows : List Row) (xs : List X) → Lined table columns rows xs → HeadsDiffer count (map (entry_of places) rows) → Differ key xs
  keys_differ [] [] l h = tt
  keys_differ [] (x ∷ xs) l h = absurd l
  keys_differ (r ∷ rows) [] l h = absurd l
  keys_differ (r ∷ rows) (x ∷ xs) l h = (each rows xs l.1 h.0, keys_differ rows xs l.1 h.1)
    where
      each : (qs : List Row) (ys : List X) → Lined table columns qs ys → AllByRecursion (λ e. same_head count (entry_of places r) e ≡ false) (map (entry_of places) qs) → AllByRecursion (λ y. key x ≢ key y) ys
      each [] [] m k = tt
      each [] (y ∷ ys) m k = absurd m
      each (q ∷ qs) [] m k = absurd m
      each (q ∷ qs) (y ∷ ys) m k = (
        (λ same.
            let heads : take count (entry_of places r) ≡ take count (entry_of places q) =
            ap (λ s. take count (entry_of places s)) l.0 ∙ reads (id_of r) (id_of q) x y same ∙ sym (ap (λ s. take count (entry_of places s)) m.0) in
            both_ways _ k.0 (ap is_eq (ap (λ h. row_cmp h (take count (entry_of places q))) heads ∙ tied_itself row_cmp_total (take count (entry_of places q))))),
        each qs ys m.1 k.1,
      )

  differ_by_entries : (rows : List Row) (xs : List X) (es : List Row) → Lined table columns rows xs → IsIndexOf places rows es → HeadsDiffer count es → Differ key xs
  differ_by_entries rows xs es lines indexed h = keys_differ rows xs lines
      (differs_from count (map (entry_of places) rows) (IsDistinct-IsPermutation (same_head count) (flips count) es (map (entry_of places) rows) (IsPermutation-sym _ _ indexed) (distinct_from count es h)))

event_heads : (a b : ℤ) (x y : EventRow) → event_key x ≡ event_key y → take 2 (entry_of (1 ∷ 2 ∷ []) (row_of run_event_at event_columns (Int a) x)) ≡ take 2 (entry_of (1 ∷ 2 ∷ []) (row_of run_event_at event_columns (Int b) y))
event_heads a b x y same =
    let e0 : x.run ≡ y.run = cc in
    let e1 : x.place ≡ y.place = cc in
    ap₂ {A = Value} ◌∷◌ (ap number e0) (ap₂ {A = Value} ◌∷◌ (ap number e1) refl)

pub events_differ : (rows : List Row) (xs : List EventRow) (es : List Row) → Lined run_event_at event_columns rows xs → IsIndexOf (1 ∷ 2 ∷ []) rows es → HeadsDiffer 2 es → Differ event_key xs
events_differ = differ_by_entries run_event_at event_columns event_key (1 ∷ 2 ∷ []) 2 event_heads

event_name_heads : (a b : ℤ) (x y : EventRow) → event_name_key x ≡ event_name_key y → take 2 (entry_of (1 ∷ 3 ∷ []) (row_of run_event_at event_columns (Int a) x)) ≡ take 2 (entry_of (1 ∷ 3 ∷ []) (row_of run_event_at event_columns (Int b) y))
event_name_heads a b x y same =
    let e0 : x.run ≡ y.run = cc in
    let last : x.name ≡ y.name = cc in
    ap₂ {A = Value} ◌∷◌ (ap number e0) (ap₂ {A = Value} ◌∷◌ (ap Blob last) refl)

pub event_names_differ : (rows : List Row) (xs : List EventRow) (es : List Row) → Lined run_event_at event_columns rows xs → IsIndexOf (1 ∷ 3 ∷ []) rows es → HeadsDiffer 2 es → Differ event_name_key xs
event_names_differ = differ_by_entries run_event_at event_columns event_name_key (1 ∷ 3 ∷ []) 2 event_name_heads

derived_heads : (a b : ℤ) (x y : DerivedRow) → derived_key x ≡ derived_key y → take 2 (entry_of (1 ∷ 2 ∷ []) (row_of derived_at derived_columns (Int a) x)) ≡ take 2 (entry_of (1 ∷ 2 ∷ []) (row_of derived_at derived_columns (Int b) y))
derived_heads a b x y same =
    let e0 : x.run ≡ y.run = cc in
    let e1 : x.place ≡ y.place = cc in
    ap₂ {A = Value} ◌∷◌ (ap number e0) (ap₂ {A = Value} ◌∷◌ (ap number e1) refl)

pub derived_differ : (rows : List Row) (xs : List DerivedRow) (es : List Row) → Lined derived_at derived_columns rows xs → IsIndexOf (1 ∷ 2 ∷ []) rows es → HeadsDiffer 2 es → Differ derived_key xs
derived_differ = differ_by_entries derived_at derived_columns derived_key (1 ∷ 2 ∷ []) 2 derived_heads

derived_name_heads : (a b : ℤ) (x y : DerivedRow) → derived_name_key x ≡ derived_name_key y → take 2 (entry_of (1 ∷ 3 ∷ []) (row_of derived_at derived_columns (Int a) x)) ≡ take 2 (entry_of (1 ∷ 3 ∷ []) (row_of derived_at derived_columns (Int b) y))
derived_name_heads a b x y same =
    let e0 : x.run ≡ y.run = cc in
    let last : x.name ≡ y.name = cc in
    ap₂ {A = Value} ◌∷◌ (ap number e0) (ap₂ {A = Value} ◌∷◌ (ap Blob last) refl)

pub derived_names_differ : (rows : List Row) (xs : List DerivedRow) (es : List Row) → Lined derived_at derived_columns rows xs → IsIndexOf (1 ∷ 3 ∷ []) rows es → HeadsDiffer 2 es → Differ derived_name_key xs
derived_names_differ = differ_by_entries derived_at derived_columns derived_name_key (1 ∷ 3 ∷ []) 2 derived_name_heads

coef_heads : (a b : ℤ) (x y : CoefRow) → coef_key x ≡ coef_key y → take 3 (entry_of (1 ∷ 2 ∷ 3 ∷ []) (row_of coef_at coef_columns (Int a) x)) ≡ take 3 (entry_of (1 ∷ 2 ∷ 3 ∷ []) (row_of coef_at coef_columns (Int b) y))
coef_heads a b x y same =
    let e0 : x.run ≡ y.run = cc in
    let e1 : x.place ≡ y.place = cc in
    let e2 : x.event ≡ y.event = cc in
    ap₂ {A = Value} ◌∷◌ (ap number e0) (ap₂ {A = Value} ◌∷◌ (ap number e1) (ap₂ {A = Value} ◌∷◌ (ap number e2) refl))

pub coefs_differ : (rows : List Row) (xs : List CoefRow) (es : List Row) → Lined coef_at coef_columns rows xs → IsIndexOf (1 ∷ 2 ∷ 3 ∷ []) rows es → HeadsDiffer 3 es → Differ coef_key xs
coefs_differ = differ_by_entries coef_at coef_columns coef_key (1 ∷ 2 ∷ 3 ∷ []) 3 coef_heads

name_heads : (a b : ℤ) (x y : NameRow) → x.name ≡ y.name → take 1 (entry_of (2 ∷ []) (row_of name_at name_columns (Int a) x)) ≡ take 1 (entry_of (2 ∷ []) (row_of name_at name_columns (Int b) y))
name_heads a b x y same = ap₂ {A = Value} ◌∷◌ (ap Blob same) refl

pub names_differ : (rows : List Row) (xs : List NameRow) (es : List Row) → Lined name_at name_columns rows xs → IsIndexOf (2 ∷ []) rows es → HeadsDiffer 1 es → Differ (λ (x : NameRow). x.name) xs
names_differ = differ_by_entries name_at name_columns (λ (x : NameRow). x.name) (2 ∷ []) 1 name_heads

cell_heads : (a b : ℤ) (x y : StoredCell) → cell_key x ≡ cell_key y → take 7 (entry_of (1 ∷ 5 ∷ 6 ∷ 4 ∷ 3 ∷ 2 ∷ 7 ∷ []) (row_of thread_cell_at cell_columns (Int a) x)) ≡ take 7 (entry_of (1 ∷ 5 ∷ 6 ∷ 4 ∷ 3 ∷ 2 ∷ 7 ∷ []) (row_of thread_cell_at cell_columns (Int b) y))
cell_heads a b x y same =
    let e0 : x.run ≡ y.run = cc in
    let e1 : x.function ≡ y.function = cc in
    let e2 : x.line ≡ y.line = cc in
    let e3 : x.file ≡ y.file = cc in
    let e4 : x.object ≡ y.object = cc in
    let e5 : x.thread ≡ y.thread = cc in
    let e6 : x.event ≡ y.event = cc in
    ap₂ {A = Value} ◌∷◌ (ap number e0) (ap₂ {A = Value} ◌∷◌ (ap number e1) (ap₂ {A = Value} ◌∷◌ (ap number e2) (ap₂ {A = Value} ◌∷◌ (ap number e3) (ap₂ {A = Value} ◌∷◌ (ap number e4) (ap₂ {A = Value} ◌∷◌ (ap number e5) (ap₂ {A = Value} ◌∷◌ (ap number e6) refl))))))

pub cells_differ : (rows : List Row) (xs : List StoredCell) (es : List Row) → Lined thread_cell_at cell_columns rows xs → IsIndexOf (1 ∷ 5 ∷ 6 ∷ 4 ∷ 3 ∷ 2 ∷ 7 ∷ []) rows es → HeadsDiffer 7 es → Differ cell_key xs
cells_differ = differ_by_entries thread_cell_at cell_columns cell_key (1 ∷ 5 ∷ 6 ∷ 4 ∷ 3 ∷ 2 ∷ 7 ∷ []) 7 cell_heads

call_heads : (a b : ℤ) (x y : StoredCall) → call_key x ≡ call_key y → take 9 (entry_of (1 ∷ 2 ∷ 3 ∷ 4 ∷ 5 ∷ 6 ∷ 7 ∷ 8 ∷ 9 ∷ []) (row_of arc_at arc_columns (Int a) x)) ≡ take 9 (entry_of (1 ∷ 2 ∷ 3 ∷ 4 ∷ 5 ∷ 6 ∷ 7 ∷ 8 ∷ 9 ∷ []) (row_of arc_at arc_columns (Int b) y))
call_heads a b x y same =
    let e0 : x.run ≡ y.run = cc in
    let e1 : x.object ≡ y.object = cc in
    let e2 : x.file ≡ y.file = cc in
    let e3 : x.function ≡ y.function = cc in
    let e4 : x.line ≡ y.line = cc in
    let e5 : x.called_object ≡ y.called_object = cc in
    let e6 : x.called_file ≡ y.called_file = cc in
    let e7 : x.called_function ≡ y.called_function = cc in
    let e8 : x.part ≡ y.part = cc in
    ap₂ {A = Value} ◌∷◌ (ap number e0) (ap₂ {A = Value} ◌∷◌ (ap number e1) (ap₂ {A = Value} ◌∷◌ (ap number e2) (ap₂ {A = Value} ◌∷◌ (ap number e3) (ap₂ {A = Value} ◌∷◌ (ap number e4) (ap₂ {A = Value} ◌∷◌ (ap number e5) (ap₂ {A = Value} ◌∷◌ (ap number e6) (ap₂ {A = Value} ◌∷◌ (ap number e7) (ap₂ {A = Value} ◌∷◌ (ap number e8) refl))))))))

pub calls_differ : (rows : List Row) (xs : List StoredCall) (es : List Row) → Lined arc_at arc_columns rows xs → IsIndexOf (1 ∷ 2 ∷ 3 ∷ 4 ∷ 5 ∷ 6 ∷ 7 ∷ 8 ∷ 9 ∷ []) rows es → HeadsDiffer 9 es → Differ call_key xs
calls_differ = differ_by_entries arc_at arc_columns call_key (1 ∷ 2 ∷ 3 ∷ 4 ∷ 5 ∷ 6 ∷ 7 ∷ 8 ∷ 9 ∷ []) 9 call_heads

stack_heads : (a b : ℤ) (x y : StoredStack) → stack_key x ≡ stack_key y → take 2 (entry_of (1 ∷ 2 ∷ []) (row_of stack_at stack_columns (Int a) x)) ≡ take 2 (entry_of (1 ∷ 2 ∷ []) (row_of stack_at stack_columns (Int b) y))
stack_heads a b x y same =
    let e0 : x.run ≡ y.run = cc in
    let last : x.frames ≡ y.frames = cc in
    ap₂ {A = Value} ◌∷◌ (ap number e0) (ap₂ {A = Value} ◌∷◌ (ap Blob last) refl)

pub stacks_differ : (rows : List Row) (xs : List StoredStack) (es : List Row) → Lined stack_at stack_columns rows xs → IsIndexOf (1 ∷ 2 ∷ []) rows es → HeadsDiffer 2 es → Differ stack_key xs
stacks_differ = differ_by_entries stack_at stack_columns stack_key (1 ∷ 2 ∷ []) 2 stack_heads
