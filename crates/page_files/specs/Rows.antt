-- New rows, each a key and a payload.
use Rattle.std.specs.Prelude.{◌≡◌, ℕ, suc, ℤ, ◌-◌, ◌<◌, true, List, [], length, map, slice_index_or}
use Rattle.std.specs.Int.{w64, cast_unsigned}
use Rattle.std.specs.Borrow.{Bor}
use Rattle.sqlite_format.specs.declared.kind.Tree.{Tree}
use Rattle.sqlite_format.specs.Cell.{flip_sign}
use Rattle.sqlite_btree.specs.Aims.{new_entry}
use Rattle.sqlite_btree.specs.Chain.{Entry, entry_of}
use Rattle.sqlite_btree.specs.Items.{item_in}
use Rattle.sqlite_btree.specs.Part.{Part}
use Rattle.sqlite_btree.specs.Stored.{Order, precedes, rowid_of}
use Rattle.page_files.specs.Leaves.{leaf_of}

abbrev pub NewRow : Type 0
NewRow = ℕ × List ℕ

abbrev pub entry_from : Tree → NewRow → Entry
entry_from tree row = new_entry tree row.0 row.1

abbrev pub entries_of : Tree → List NewRow → List Entry
entries_of tree = map (entry_from tree)

abbrev pub row_at : List NewRow → ℕ → NewRow
row_at rows i = slice_index_or rows i (0, [])

-- of the first rows, each comes after the one before it
abbrev pub Rise : Tree → Order → List NewRow → ℕ → Type 0
Rise tree order rows n = (i : ℕ) → suc i < n → precedes tree order (entry_from tree (row_at rows i)) (entry_from tree (row_at rows (suc i))) ≡ true

-- this row comes after the last of these cells of a leaf
abbrev pub ComesAfter : Tree → Order → ℕ → List (List ℕ) → NewRow → Type 0
ComesAfter tree order usable cells row =
    (spill : Part) → 0 < length cells
    → precedes tree order
    (entry_of tree usable spill (item_in (leaf_of tree) usable (slice_index_or cells (length cells - 1) [])))
    (entry_from tree row) ≡ true

-- a rowid as a number that sorts as it does
abbrev pub key_of : ℤ → ℕ
key_of rowid = flip_sign (cast_unsigned w64 rowid)

abbrev pub table_rows : List (ℤ × Bor (List ℕ)) → List NewRow
table_rows = map (λ row. (key_of row.0, row.1.now))

-- the rowid of row i is the one that its key stands for
abbrev pub IsOfRowid : List (ℤ × Bor (List ℕ)) → ℕ → Type 0
IsOfRowid rows i = (d : ℤ × Bor (List ℕ)) → i < length rows → rowid_of (key_of (slice_index_or rows i d).0) ≡ (slice_index_or rows i d).0

abbrev pub index_rows : List (Bor (List ℕ)) → List NewRow
index_rows = map (λ entry. (0, entry.now))
