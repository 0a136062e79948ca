-- The rows that a file's rows become, with names in place, are its rows.
use Rattle.std.proofs.Common.{◌≡◌, ℕ, ◌<◌, zero, suc, List, [], ◌∷◌, ◌++◌, map, length, flat_map, Bool, true, false, nat_lt, ◌==◌, bytes_eq, if◌then◌else◌, refl, sym, ap, ap₂, ◌∙◌, arith}
use Rattle.std.specs.List.{AllByRecursion, list_any}
use Rattle.std.specs.Map.{keys_of}
use Rattle.plain_tables.proofs.Lists.{all-append}
use Rattle.plain_tables.proofs.Lists.{map-append}
use Rattle.cost_rows.specs.Held.{CellHeld, CallHeld}
use Rattle.cost_rows.specs.Sums.{name_at}
use Rattle.cost_rows.specs.ByNumber.{numbered_cell, numbered_at, numbered_cells, numbered_call}
use Rattle.cost_rows.specs.Walks.{cell_named, named_cells, edge_named, named_calls, counted_stacks}
use Rattle.cost_rows.specs.declared.places.CellPlace.{CellPlace}
use Rattle.cost_rows.specs.declared.places.Call.{Call}
use Rattle.cost_rows.specs.Calls.{Calls}
use Rattle.cost_rows.specs.declared.rows.CellRow.{CellRow}
use Rattle.cost_rows.proofs.AboveLemmas.{all-above, map-above}
use Rattle.plain_tables.specs.Tables.{NameRow, StoredCell, StoredCall, StoredStack}
use Rattle.plain_tables.specs.Files.{number_in}
use Rattle.run_stores.specs.Book.{name_of, cell_held, part_held, CallPart, part_of, parts_of, stack_held, IsHeld, CellIsNamed, CallIsNamed}
use Rattle.run_stores.specs.Files.{numbered, cell_row_of, cell_rows_at, cell_rows, call_row_of, call_rows_at, call_rows, stack_rows}
use Rattle.run_stores.proofs.BookNames.{Rising, name_back, number_held}

-- a name that the tables have
abbrev pub Stands : List NameRow → List ℕ → Type 0
Stands known name = list_any (λ (line : NameRow). bytes_eq line.name name) known ≡ true

module _ (known : List NameRow) (up : Rising known) where
  abbrev numbers_of : List (List ℕ) → List ℕ
  numbers_of names = map (number_in known) names

  -- a file's number, by way of the table's number, leads to its name
  through : (names : List (List ℕ)) → AllByRecursion (Stands known) names → (n : ℕ) → n < length names → name_of known (numbered (numbers_of names) n) ≡ name_at names n
  through [] all n below = absurd (omega arith)
  through (name ∷ names) all zero below = name_back known name up all.0
  through (name ∷ names) all (suc n) below = through names all.1 n (omega arith)

  held : (names : List (List ℕ)) → AllByRecursion (Stands known) names → (n : ℕ) → n < length names → list_any (λ (line : NameRow). line.number == numbered (numbers_of names) n) known ≡ true
  held [] all n below = absurd (omega arith)
  held (name ∷ names) all zero below = number_held known name all.0
  held (name ∷ names) all (suc n) below = held names all.1 n (omega arith)

  module _ (run : ℕ) (names : List (List ℕ)) (all : AllByRecursion (Stands known) names) where
    abbrev numbers : List ℕ
    numbers = numbers_of names

    -- ---- cells

    one_cell : (p : CellPlace) (event cost : ℕ) → CellHeld names p → cell_held known (cell_row_of run numbers p event cost) ≡ cell_named names (numbered_cell p event cost)
    one_cell p event cost h =
        let P : List ℕ → List ℕ → List ℕ → CellRow (List ℕ) = λ a b d. record { object = a; file = b; function = d; line = p.place.line; thread = p.thread; event = event; cost = cost } in
        let e : P (name_of known (numbered numbers p.place.object)) (name_of known (numbered numbers p.place.file)) (name_of known (numbered numbers p.place.function)) ≡ P (name_at names p.place.object) (name_at names p.place.file) (name_at names p.place.function) =
        ap (λ a. P a (name_of known (numbered numbers p.place.file)) (name_of known (numbered numbers p.place.function))) (through names all p.place.object h.0)
        ∙ ap (λ b. P (name_at names p.place.object) b (name_of known (numbered numbers p.place.function))) (through names all p.place.file h.1) ∙ ap (P (name_at names p.place.object) (name_at names p.place.file)) (through names all p.place.function h.2) in
        e

    cells_at : (p : CellPlace) (costs : List ℕ) → CellHeld names p → map (cell_held known) (cell_rows_at run numbers p 0 costs) ≡ map (cell_named names) (numbered_at p 0 costs)
    cells_at p costs h =
        let named : ℕ → ℕ → CellRow (List ℕ) = λ event cost. cell_named names (numbered_cell p event cost) in
        map-above (cell_held known) (cell_row_of run numbers p) named (λ event cost. one_cell p event cost h) 0 costs
        ∙ sym (map-above (cell_named names) (numbered_cell p) named (λ event cost. refl) 0 costs)

    pub cells_are : (cells : List (CellPlace × List ℕ)) → AllByRecursion (CellHeld names) (keys_of cells) → map (cell_held known) (cell_rows run numbers cells) ≡ named_cells names cells
    cells_are [] h = refl
    cells_are (e ∷ cells) h =
        map-append (cell_held known) (cell_rows_at run numbers e.0 0 e.1) (cell_rows run numbers cells) ∙ ap₂ ◌++◌ (cells_at e.0 e.1 h.0) (cells_are cells h.1)
        ∙ sym (map-append (cell_named names) (numbered_at e.0 0 e.1) (numbered_cells cells))

    -- ---- calls

    one_part : (e : Call × Calls) (part sum : ℕ) → CallHeld names e.0 → part_held known (call_row_of run numbers e.0 part sum) ≡ part_of (edge_named names (numbered_call e)) part sum
    one_part e part sum h =
        let P : List ℕ → List ℕ → List ℕ → List ℕ → List ℕ → List ℕ → CallPart =
        λ a b d x y z. record { object = a; file = b; function = d; line = e.0.place.line; called_object = x; called_file = y; called_function = z; part = part; sum = sum } in
        let n : ℕ → List ℕ = λ k. name_of known (numbered numbers k) in
        let m : ℕ → List ℕ = name_at names in
        let at = e.0.place in
        let same : P (n at.object) (n at.file) (n at.function) (n e.0.object) (n e.0.file) (n e.0.function) ≡ P (m at.object) (m at.file) (m at.function) (m e.0.object) (m e.0.file) (m e.0.function) =
        ap (λ a. P a (n at.file) (n at.function) (n e.0.object) (n e.0.file) (n e.0.function)) (through names all at.object h.0.0)
        ∙ ap (λ b. P (m at.object) b (n at.function) (n e.0.object) (n e.0.file) (n e.0.function)) (through names all at.file h.0.1)
        ∙ ap (λ d. P (m at.object) (m at.file) d (n e.0.object) (n e.0.file) (n e.0.function)) (through names all at.function h.0.2)
        ∙ ap (λ x. P (m at.object) (m at.file) (m at.function) x (n e.0.file) (n e.0.function)) (through names all e.0.object h.1.0)
        ∙ ap (λ y. P (m at.object) (m at.file) (m at.function) (m e.0.object) y (n e.0.function)) (through names all e.0.file h.1.1)
        ∙ ap (P (m at.object) (m at.file) (m at.function) (m e.0.object) (m e.0.file)) (through names all e.0.function h.1.2) in
        same

    pub parts_are : (calls : List (Call × Calls)) → AllByRecursion (CallHeld names) (keys_of calls) → map (part_held known) (call_rows run numbers calls) ≡ flat_map parts_of (named_calls names calls)
    parts_are [] h = refl
    parts_are (e ∷ calls) h =
        map-append (part_held known) (call_rows_at run numbers e.0 e.1) (call_rows run numbers calls)
        ∙ ap₂ ◌++◌ (ap₂ ◌∷◌ (one_part e 0 e.1.count h.0) (map-above (part_held known) (call_row_of run numbers e.0) (part_of (edge_named names (numbered_call e))) (λ part sum. one_part e part sum h.0) 1 e.1.costs)) (parts_are calls h.1)

    -- ---- their names are held

    cell_is_named : (p : CellPlace) (event cost : ℕ) → CellHeld names p → CellIsNamed known (cell_row_of run numbers p event cost)
    cell_is_named p event cost h = (held names all p.place.object h.0, held names all p.place.file h.1, held names all p.place.function h.2)

    pub cells_named : (cells : List (CellPlace × List ℕ)) → AllByRecursion (CellHeld names) (keys_of cells) → AllByRecursion (CellIsNamed known) (cell_rows run numbers cells)
    cells_named [] h = tt
    cells_named (e ∷ cells) h = all-append (CellIsNamed known) (cell_rows_at run numbers e.0 0 e.1) (cell_rows run numbers cells) (all-above (CellIsNamed known) (cell_row_of run numbers e.0) (λ event cost above. cell_is_named e.0 event cost h.0) 0 e.1) (cells_named cells h.1)

    call_named : (e : Call × Calls) (part sum : ℕ) → CallHeld names e.0 → CallIsNamed known (call_row_of run numbers e.0 part sum)
    call_named e part sum h =
        let it : (n : ℕ) → n < length names → IsHeld known (numbered numbers n) = held names all in
        (it e.0.place.object h.0.0, it e.0.place.file h.0.1, it e.0.place.function h.0.2, it e.0.object h.1.0, it e.0.file h.1.1, it e.0.function h.1.2)

    pub calls_named : (calls : List (Call × Calls)) → AllByRecursion (CallHeld names) (keys_of calls) → AllByRecursion (CallIsNamed known) (call_rows run numbers calls)
    calls_named [] h = tt
    calls_named (e ∷ calls) h =
        all-append (CallIsNamed known) (call_rows_at run numbers e.0 e.1) (call_rows run numbers calls) (call_named e 0 e.1.count h.0, all-above (CallIsNamed known) (call_row_of run numbers e.0) (λ part sum above. call_named e part sum h.0) 1 e.1.costs) (calls_named calls h.1)

-- ---- stacks

pub stacks_are : (run : ℕ) (stacks : List (List ℕ × ℕ)) → map stack_held (stack_rows run stacks) ≡ counted_stacks stacks
stacks_are run [] = refl
stacks_are run (e ∷ stacks) = go (nat_lt 0 e.1) (stacks_are run stacks)
  where
    go : (b : Bool) → map stack_held (stack_rows run stacks) ≡ counted_stacks stacks
        → map stack_held (if b then record { run = run; frames = e.0; count = e.1 } ∷ stack_rows run stacks else stack_rows run stacks) ≡ (if b then record { stack = e.0; count = e.1 } ∷ counted_stacks stacks else counted_stacks stacks)
    go true rest = ap₂ ◌∷◌ refl rest
    go false rest = rest

-- ---- each of these rows is of the run

pub cells_of_run : (run : ℕ) (known_as : List ℕ) (cells : List (CellPlace × List ℕ)) → AllByRecursion (λ (c : StoredCell). c.run ≡ run) (cell_rows run known_as cells)
cells_of_run run known_as [] = tt
cells_of_run run known_as (e ∷ cells) = all-append (λ (c : StoredCell). c.run ≡ run) (cell_rows_at run known_as e.0 0 e.1) (cell_rows run known_as cells) (all-above (λ (c : StoredCell). c.run ≡ run) (cell_row_of run known_as e.0) (λ event cost above. refl) 0 e.1) (cells_of_run run known_as cells)

pub calls_of_run : (run : ℕ) (known_as : List ℕ) (calls : List (Call × Calls)) → AllByRecursion (λ (a : StoredCall). a.run ≡ run) (call_rows run known_as calls)
calls_of_run run known_as [] = tt
calls_of_run run known_as (e ∷ calls) =
    all-append (λ (a : StoredCall). a.run ≡ run) (call_rows_at run known_as e.0 e.1) (call_rows run known_as calls) (refl, all-above (λ (a : StoredCall). a.run ≡ run) (call_row_of run known_as e.0) (λ part sum above. refl) 1 e.1.costs) (calls_of_run run known_as calls)

pub stacks_of_run : (run : ℕ) (stacks : List (List ℕ × ℕ)) → AllByRecursion (λ (s : StoredStack). s.run ≡ run) (stack_rows run stacks)
stacks_of_run run [] = tt
stacks_of_run run (e ∷ stacks) = go (nat_lt 0 e.1) (stacks_of_run run stacks)
  where
    go : (b : Bool) → AllByRecursion (λ (s : StoredStack). s.run ≡ run) (stack_rows run stacks)
        → AllByRecursion (λ (s : StoredStack). s.run ≡ run) (if b then record { run = run; frames = e.0; count = e.1 } ∷ stack_rows run stacks else stack_rows run stacks)
    go true rest = (refl, rest)
    go false rest = rest
