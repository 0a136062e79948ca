-- The cell of a new row, and cells of more rows behind others.
use Rattle.std.proofs.Common.{◌≡◌, ℕ, suc, ◌^◌, ◌<◌, ◌+◌, true, List, [], ◌∷◌, ◌++◌, length, map, refl, sym, ap, ap₂, subst, ◌∙◌, arith, append-nil, take_all, take, drop}
use Rattle.std.proofs.lemmas.List.{append_assoc, map-append, take_more, drop_all}
use Rattle.std.proofs.lemmas.List.Edits.{insert_end}
use Rattle.std.specs.List.{insert}
use Rattle.sqlite_format.specs.declared.kind.Tree.{Tree}
use Rattle.sqlite_format.specs.declared.kind.Tree.TheVariants.{Table, Index}
use Rattle.sqlite_format.specs.Cell.{IsRowOf, IsCellOf, body_key, local_len, local_part, spilled_len}
use Rattle.sqlite_format.specs.Page.{page_cells}
use Rattle.sqlite_format.specs.PageEdit.{AddsCell}
use Rattle.sqlite_format.specs.Bytes.{u16_at}
use Rattle.sqlite_format.proofs.PageLemmas.{length-page_cells}
use Rattle.sqlite_btree.specs.Aims.{new_entry}
use Rattle.sqlite_btree.specs.Chain.{Entry, HasChain, IsChained, Layout, entry_of, payload_in}
use Rattle.sqlite_btree.specs.Cut.{Each}
use Rattle.sqlite_btree.specs.Items.{Form, Item, item, item_in, cell_item, is_row, rows_of, body_of}
use Rattle.sqlite_btree.specs.Part.{Part}
use Rattle.sqlite_btree.proofs.CutLemmas.{Each-append}
use Rattle.sqlite_btree.proofs.WriteLemmas.{leaf_rows}
use Rattle.page_files.specs.Leaves.{leaf_of, HoldRows, TakesRows}
use Rattle.page_files.specs.Rows.{NewRow, entry_from, entries_of, row_at}
use Rattle.sqlite_btree.proofs.SearchLemmas.{payload_local}

module _ {tree : Tree} {usable key : ℕ} {payload body : List ℕ} (row : IsRowOf tree usable body key payload 0) (fits : local_len tree usable (length payload) ≡ length payload) where
  none_left : spilled_len tree usable body ≡ 0
  none_left = omega (arith, row.len, ap (local_len tree usable) row.len, fits)

  whole : (spill : Part) → payload_in tree usable spill body ≡ payload
  unfolding payload_in
  whole spill = rw (none_left, row.local, fits) (append-nil _ ∙ take_all (length payload) payload (omega arith))

  keyed : (t : Tree) → (t ≡ Table → body_key t true body ≡ key) → record { row = true; key = body_key t true body; payload = payload } ≡ new_entry t key payload
  unfolding body_key
  keyed Table has = ap (λ k. record { row = true; key = k; payload = payload }) (has refl)
  keyed Index has = refl

  -- the cell of a row that needs no overflow page
  pub new_row : {cell : List ℕ} → IsCellOf (leaf_of tree) usable cell 0 body → length payload < 2 ^ 31 → HoldRows tree usable (cell ∷ []) (new_entry tree key payload ∷ [])
  new_row {cell} padded limit =
      record {
        says = λ spill. ap (λ e. e ∷ []) (ap₂ (λ r b. entry_of tree usable spill (item r b)) (leaf_rows tree) padded.has_body
            ∙ ap (λ p. record { row = true; key = body_key tree true body; payload = p }) (whole spill) ∙ keyed tree row.has_key);
        chained = λ layout. (subst (HasChain tree usable layout) (sym padded.has_body) (record { limit = omega (arith, row.len); short = row.short (omega arith); chain = rw none_left (refl, row.next) }), tt);
      }

-- a cell at the end of a page
pub at_end : {tree : Tree} {old new cell : List ℕ} {header n : ℕ} → AddsCell (leaf_of tree) old new header n cell → n ≡ u16_at old (header + 3)
    → page_cells (leaf_of tree) new header ≡ page_cells (leaf_of tree) old header ++ cell ∷ []
unfolding Rattle.sqlite_format.specs.Page.cell_count
at_end {tree} {old} {new} {cell} {header} {n} adds is =
    let cells = page_cells (leaf_of tree) old header in
    adds.cells ∙ ap (λ i. insert cells i cell) (is ∙ sym (length-page_cells (leaf_of tree) old header)) ∙ insert_end cells cell

made : (t : Tree) (key : ℕ) (body local : List ℕ) → body_key t true body ≡ key → record { row = true; key = body_key t true body; payload = local } ≡ new_entry t key local
unfolding body_key
made Table key body local e = ap (λ k. record { row = true; key = k; payload = local }) e
made Index key body local e = refl

-- a cell of a leaf that needs no overflow page says what stands in it
pub last_entry : (t : Tree) (usable key : ℕ) (cell body local : List ℕ) (spill : Part) → item_in (leaf_of t) usable cell ≡ item true body → spilled_len t usable body ≡ 0
    → local ≡ local_part t usable body → key ≡ body_key t true body → entry_of t usable spill (item_in (leaf_of t) usable cell) ≡ new_entry t key local
last_entry t usable key cell body local spill is none same has =
    ap (entry_of t usable spill) is ∙ ap (λ p. record { row = true; key = body_key t true body; payload = p }) (sym (same ∙ payload_local t usable spill body none)) ∙ made t key body local (sym has)

-- more cells behind those that were put there
pub more_rows : {tree : Tree} {old mid new : List ℕ} {header : ℕ} {first next : List Entry} → TakesRows tree old mid header first → length mid ≡ length old → TakesRows tree mid new header next
    → TakesRows tree old new header (first ++ next)
more_rows {tree} {old} {mid} {new} {header} {first} {next} a same b =
    let usable = length old in
    let hold : HoldRows tree usable b.more next = subst (λ n. HoldRows tree n b.more next) same b.hold in
    record {
      sound = b.sound;
      more = a.more ++ b.more;
      cells = b.cells ∙ ap (λ l. l ++ b.more) a.cells ∙ append_assoc (page_cells (leaf_of tree) old header) a.more b.more;
      hold = record {
        says = λ spill. map-append (λ cell. entry_of tree usable spill (item_in (leaf_of tree) usable cell)) a.more b.more ∙ ap₂ (λ x y. x ++ y) (a.hold.says spill) (hold.says spill);
        chained = λ layout. Each-append (λ cell. HasChain tree usable layout (body_of (item_in (leaf_of tree) usable cell))) a.more b.more (a.hold.chained layout) (hold.chained layout);
      };
    }

-- one more of the new rows
pub one_more : (tree : Tree) (rows : List NewRow) (i : ℕ) → i < length rows → entries_of tree (take (i + 1) rows) ≡ entries_of tree (take i rows) ++ entry_from tree (row_at rows i) ∷ []
one_more tree rows i within = ap (entries_of tree) (take_more rows i (0, []) within) ∙ map-append (entry_from tree) (take i rows) (row_at rows i ∷ [])

row_first : (x : Item) (xs : List Item) → is_row x ≡ true → rows_of (x ∷ xs) ≡ x ∷ rows_of xs
row_first x xs e = rw e refl

-- all cells of a leaf are rows
pub row_entries : (form : Form) (spill : Part) (cells : List (List ℕ)) (rows : List Entry) → map (λ cell. entry_of form.tree form.usable spill (cell_item form true cell)) cells ≡ rows
    → map (entry_of form.tree form.usable spill) (rows_of (map (cell_item form true) cells)) ≡ rows
row_entries form spill cells rows is = ap (map (entry_of form.tree form.usable spill)) (all_rows cells) ∙ maps cells ∙ is
  where
    all_rows : (cs : List (List ℕ)) → rows_of (map (cell_item form true) cs) ≡ map (cell_item form true) cs
    all_rows [] = refl
    all_rows (c ∷ cs) = row_first (cell_item form true c) (map (cell_item form true) cs) (leaf_rows form.tree) ∙ ap (λ l. cell_item form true c ∷ l) (all_rows cs)

    maps : (cs : List (List ℕ)) → map (entry_of form.tree form.usable spill) (map (cell_item form true) cs) ≡ map (λ cell. entry_of form.tree form.usable spill (cell_item form true cell)) cs
    maps [] = refl
    maps (c ∷ cs) = ap (λ l. entry_of form.tree form.usable spill (cell_item form true c) ∷ l) (maps cs)

pub each_chained : (form : Form) (layout : Layout) (cells : List (List ℕ)) → Each (λ cell. HasChain form.tree form.usable layout (body_of (cell_item form true cell))) cells
    → Each (IsChained form layout) (map (cell_item form true) cells)
each_chained form layout [] all = tt
each_chained form layout (c ∷ cs) all = (λ _. all.0, each_chained form layout cs all.1)

-- what was lent whole comes back whole
pub written_back : (n : ℕ) (new old : List ℕ) → length new ≡ length old → length old ≡ n → take n (new ++ drop (length new) old) ≡ new
written_back n new old same all =
    rw (drop_all (length new) old (omega arith), append-nil new) (take_all n new (omega arith))

pub one_more_suc : (tree : Tree) (rows : List NewRow) (i : ℕ) → i < length rows → entries_of tree (take (suc i) rows) ≡ entries_of tree (take i rows) ++ entry_from tree (row_at rows i) ∷ []
one_more_suc tree rows i within = let same : suc i ≡ i + 1 = omega arith in ap (λ k. entries_of tree (take k rows)) same ∙ one_more tree rows i within
