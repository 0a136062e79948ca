-- Rows by number that are named, one after another.
use Rattle.std.proofs.Common.{◌≡◌, ◌&&◌, ◌∙◌, ℕ, Bool, true, false, IsTrue, List, [], ◌∷◌, ◌++◌, map, flat_map, fold, refl, sym, ap, ap₂}
use Rattle.std.specs.List.{AllByRecursion}
use Rattle.std.proofs.lemmas.List.{map-append}
use Rattle.cost_rows.specs.declared.rows.ArcRow.{ArcRow}
use Rattle.cost_rows.specs.declared.rows.CellRow.{CellRow}
use Rattle.cost_rows.proofs.AboveLemmas.{map-above}
use Rattle.plain_tables.specs.Tables.{NameRow, StoredCell, StoredCall}
use Rattle.run_stores.specs.Book.{cell_held, name_of, part_held, CallPart, CellIsNamed}
use Rattle.run_stores.specs.Book as book
use Rattle.run_stores.specs.Names.{named_call}
use Rattle.run_stores.specs.Walks.{CellsFoldTo, PartNumbers, cell_numbers, part_numbers, part_of, parts_of}
use Rattle.selected_runs.specs.NamedRows.{Naming, NamedCellsFoldTo, cell_is_held, is_held, with_cell}

first_is : (a b : Bool) → IsTrue (a && b) → IsTrue a
first_is true b is = refl
first_is false b is = is

second_is : (a b : Bool) → IsTrue (a && b) → IsTrue b
second_is true b is = is
second_is false b is = absurd (cc)

module _ (names : List NameRow) where
  -- ---- cells

  cell_is_named : (line : StoredCell) → IsTrue (cell_is_held names (cell_numbers line)) → CellIsNamed names line
  cell_is_named line is =
      let more = second_is (is_held names line.object) _ is in
      (first_is (is_held names line.object) _ is, first_is (is_held names line.file) _ more, second_is (is_held names line.file) _ more)

  cells_taken : {M : Type 0} (step : M → CellRow (List ℕ) → M) (start : M) (held : Bool) (lines : List StoredCell) → let all = fold (with_cell step) (record { names = names; all_held = held; taken = start }) (map cell_numbers lines) in
      (all.taken ≡ fold step start (map (cell_held names) lines)) × (IsTrue all.all_held → IsTrue held × AllByRecursion (CellIsNamed names) lines)
  cells_taken step start held [] = (refl, λ is. (is, tt))
  cells_taken step start held (line ∷ lines) =
      let rest = cells_taken step (step start (cell_held names line)) (held && cell_is_held names (cell_numbers line)) lines in
      (rest.0, λ is. let both = rest.1 is in (first_is held _ both.0, (cell_is_named line (second_is held _ both.0), both.1)))

  pub cells_named : {M : Type 0} (step : M → CellRow (List ℕ) → M) (start : M) (came : Naming M) (events : ℕ) (lines : List StoredCell) → came.all_held ≡ true
      → CellsFoldTo events (with_cell step) (record { names = names; all_held = true; taken = start }) came lines → NamedCellsFoldTo names events step start came.taken lines
  cells_named {M} step start came events lines held was =
      let all = cells_taken step start true lines in
      record {
        named = (all.1 (sym (ap (λ (n : Naming M). n.all_held) was.comes) ∙ held)).1;
        of_events = was.of_events;
        comes = ap (λ (n : Naming M). n.taken) was.comes ∙ all.0;
      }

  -- ---- calls

  -- a part with names in place
  abbrev named_part : PartNumbers → CallPart
  named_part p = record {
    object = name_of names p.object;
    file = name_of names p.file;
    function = name_of names p.function;
    line = p.line;
    called_object = name_of names p.called_object;
    called_file = name_of names p.called_file;
    called_function = name_of names p.called_function;
    part = p.part;
    sum = p.sum;
  }

  lines_named : (lines : List StoredCall) → map (part_held names) lines ≡ map named_part (map part_numbers lines)
  lines_named [] = refl
  lines_named (line ∷ lines) = ap (λ ps. part_held names line ∷ ps) (lines_named lines)

  row_named : (r : ArcRow ℕ (List ℕ)) → map named_part (parts_of r) ≡ book.parts_of (named_call names r)
  row_named r = ap (λ ps. book.part_of (named_call names r) 0 r.count ∷ ps) (map-above named_part (part_of r) (book.part_of (named_call names r)) (λ part sum. refl) 1 r.costs)

  rows_named : (rows : List (ArcRow ℕ (List ℕ))) → map named_part (flat_map parts_of rows) ≡ flat_map book.parts_of (map (named_call names) rows)
  rows_named [] = refl
  rows_named (r ∷ rows) = map-append named_part (parts_of r) (flat_map parts_of rows) ∙ ap₂ ◌++◌ (row_named r) (rows_named rows)

  -- the parts of rows, with names in place
  pub parts_named : (lines : List StoredCall) (rows : List (ArcRow ℕ (List ℕ))) → map part_numbers lines ≡ flat_map parts_of rows → map (part_held names) lines ≡ flat_map book.parts_of (map (named_call names) rows)
  parts_named lines rows are = lines_named lines ∙ ap (map named_part) are ∙ rows_named rows
