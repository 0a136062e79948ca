-- A stored tree one of whose leaves has lost cells, one after another.
use Rattle.std.proofs.Common.{◌≡◌, ℕ, suc, ◌+◌, ◌-◌, ◌<◌, ◌≤◌, Bool, true, List, [], ◌∷◌, ◌++◌, length, map, take, drop, get_or, refl, sym, ap, subst, ◌∙◌, inl, inr, arith, append-nil, take-append-drop, length-drop}
use Rattle.std.proofs.lemmas.List.{append_assoc, drop-drop, get_or-drop, get_or-take, length-map, length-take-le, map-append}
use Rattle.sqlite_pages.specs.PageMap.{PageMap}
use Rattle.sqlite_format.specs.Cell.{first_overflow, spilled_len}
use Rattle.sqlite_format.specs.declared.kind.Tree.{Tree}
use Rattle.sqlite_format.specs.declared.kind.Tree.TheVariants.{Index}
use Rattle.sqlite_btree.specs.Chain.{Entry, IsChained, IsLinkOfRow, IsOnChain, Layout, entry_of}
use Rattle.sqlite_btree.specs.Cut.{Ascends, Each, IsIn}
use Rattle.sqlite_btree.specs.Items.{Item, body_of, cell_item, item_in, rows_of}
use Rattle.sqlite_btree.specs.Part.{ChangesOwn, Part, with_page}
use Rattle.sqlite_btree.specs.Stored.{IsLaidIn, IsStored, IsStrict, IsTight, IsWhole, IsWritten, Order, form_of}
use Rattle.sqlite_btree.specs.Write.{IsRooted}
use Rattle.sqlite_btree.specs.Tree.{IsOrdered, Reaches, cells_of, tree_items}
use Rattle.sqlite_btree.proofs.CutLemmas.{Ascends-across, Ascends-append, Ascends-left, Ascends-right, Each-append, Each-from, Each-in, Each-left, Each-right, from_rows, in_either, in_left, in_right, in_rows, rows_of-append}
use Rattle.sqlite_btree.proofs.PartLemmas.{owned_or_not}
use Rattle.sqlite_btree.proofs.StoredLemmas.{nodes_moved, order_of, stored_rooted, tight_at, tight_from}
use Rattle.sqlite_btree.proofs.TreeLemmas.{one_root}
use Rattle.page_files.specs.Leaves.{leaf_of}
use Rattle.page_files.specs.Trims.{EachAs, HasTrimmed, HoldsAlone, IsBelow}
use Rattle.page_files.proofs.NewCells.{row_entries}
use Rattle.page_files.proofs.Rewritten.{IsLeafOf, root_turned, rooted_turned}

-- ---- elements that are left when some between them are gone

ascends_less : {X : Type 0} (order : X → X → Bool) (xs ys zs : List X) → Ascends order (xs ++ (ys ++ zs)) → Ascends order (xs ++ zs)
ascends_less order xs ys zs up =
    Ascends-append order xs zs (Ascends-left order xs (ys ++ zs) up) (Ascends-right order ys zs (Ascends-right order xs (ys ++ zs) up))
    (λ x z a b. Ascends-across order xs (ys ++ zs) x z up a (in_right z ys zs b))

each_less : {X : Type 0} (P : X → Type 0) (xs ys zs : List X) → Each P (xs ++ (ys ++ zs)) → Each P (xs ++ zs)
each_less P xs ys zs all = Each-append P xs zs (Each-left P xs (ys ++ zs) all) (Each-right P ys zs (Each-right P xs (ys ++ zs) all))

in_less : {X : Type 0} (x : X) (xs ys zs : List X) → (IsIn x ys → ⊥) → IsIn x (xs ++ (ys ++ zs)) → IsIn x (xs ++ zs)
in_less x xs ys zs not at = elim (in_either x xs (ys ++ zs) at) [
  | inl front ↦ in_left x xs zs front
  | inr later ↦ elim (in_either x ys zs later) [ inl gone ↦ absurd (not gone) | inr back ↦ in_right x xs zs back ]
]

three_parts : {X : Type 0} (xs : List X) (from n : ℕ) → take from xs ++ (take n (drop from xs) ++ drop (from + n) xs) ≡ xs
three_parts xs from n = ap (λ l. take from xs ++ (take n (drop from xs) ++ l)) (sym (drop-drop n from xs)) ∙ ap (λ l. take from xs ++ l) (take-append-drop n (drop from xs)) ∙ take-append-drop from xs

-- ---- facts of cells by their numbers

each_from : {X : Type 0} (Fact : ℕ → X → Type 0) (d : X) (xs : List X) (i : ℕ) → ((k : ℕ) → k < length xs → Fact (i + k) (get_or xs k d)) → EachAs Fact i xs
each_from Fact d [] i all = tt
each_from Fact d (x ∷ xs) i all = (
  (let same : i + 0 ≡ i = omega arith in subst (λ n. Fact n x) same (all 0 (omega arith))),
  each_from Fact d xs (suc i) (λ k within. (let same : i + suc k ≡ suc i + k = omega arith in subst (λ n. Fact n (get_or xs k d)) same (all (suc k) (omega arith)))),
)

-- those of a range
pub each_in_range : {X : Type 0} (Fact : ℕ → X → Type 0) (d : X) (xs : List X) (from n : ℕ) → from + n ≤ length xs → ((k : ℕ) → k < n → Fact k (get_or xs (from + k) d)) → EachAs Fact 0 (take n (drop from xs))
each_in_range Fact d xs from n within all = each_from Fact d (take n (drop from xs)) 0 (λ k below.
    let low : k < n = omega (arith, below, length-take-le n (drop from xs) (omega (arith, length-drop from xs))) in
    let same : 0 + k ≡ k = omega arith in
    subst (λ m. Fact m (get_or (take n (drop from xs)) k d)) (sym same) (subst (Fact k) (sym (get_or-take n (drop from xs) k d low ∙ get_or-drop from xs k d)) (all k low)))

module _ (tree : Tree) (usable : ℕ) (Fact : ℕ → Entry → Type 0) where
  says_all : (spill : Part) (cells : List (List ℕ)) (i : ℕ) → EachAs (λ k cell. HoldsAlone tree usable (Fact k) cell) i cells
      → EachAs Fact i (map (λ cell. entry_of tree usable spill (item_in (leaf_of tree) usable cell)) cells)
  says_all spill [] i all = tt
  says_all spill (cell ∷ cells) i all = (all.0.says spill, says_all spill cells (suc i) all.1)

  alone_all : (cells : List (List ℕ)) (i : ℕ) → EachAs (λ k cell. HoldsAlone tree usable (Fact k) cell) i cells
      → Each (λ x. spilled_len tree usable (body_of x) ≡ 0) (map (item_in (leaf_of tree) usable) cells)
  alone_all [] i all = tt
  alone_all (cell ∷ cells) i all = (all.0.alone, alone_all cells (suc i) all.1)

-- a row with no overflow pages links to none
no_link : (tree : Tree) (usable : ℕ) (spill : Part) (row : List ℕ) (n : ℕ) → spilled_len tree usable row ≡ 0 → IsLinkOfRow tree usable spill row n → ⊥
no_link tree usable spill row n none link = subst (λ k. IsOnChain spill usable k (first_overflow tree usable row) k n) none link

-- the tree has what is left
pub stored_trimmed : {tree : Tree} {order : Order} {usable root : ℕ} {layout : Layout} {entries : List Entry} {bytes : List ℕ} {leaf : ℕ} (Fact : ℕ → Entry → Type 0) (from n : ℕ) (before after : PageMap)
    (stored : IsStored tree order usable layout root entries) → IsTight tree usable layout root → (tree ≡ Index → IsStrict order) → IsLaidIn layout before
    → (below : IsBelow (form_of tree order usable layout.spill) layout.nodes stored.height root leaf)
    → from + n ≤ length (cells_of (form_of tree order usable layout.spill) true layout.nodes leaf)
    → (other : IsLeafOf (form_of tree order usable layout.spill) leaf bytes
    (take from (cells_of (form_of tree order usable layout.spill) true layout.nodes leaf) ++ drop (from + n) (cells_of (form_of tree order usable layout.spill) true layout.nodes leaf)))
    → EachAs (λ k cell. HoldsAlone tree usable (Fact k) cell) 0 (take n (drop from (cells_of (form_of tree order usable layout.spill) true layout.nodes leaf)))
    → ChangesOwn layout.nodes before (with_page layout.nodes leaf bytes) after
    → HasTrimmed tree order usable layout before after root entries Fact n
stored_trimmed {tree} {order} {usable} {root} {layout} {entries} {bytes} {leaf} Fact from n before after stored tight strict laid below within other facts changes =
    let form = form_of tree order usable layout.spill in
    let says = entry_of tree usable layout.spill in
    let ci = cell_item form true in
    let h = stored.height in
    let items = tree_items form layout.nodes h root in
    let cells = cells_of form true layout.nodes leaf in
    let gone = take n (drop from cells) in
    let ordered : IsOrdered form layout.nodes h root = record { order = order_of tree order usable layout.spill strict; top = stored.shape.top; ascends = stored.ascends } in
    let turned = (root_turned layout.nodes other h root ordered stored.shape below).turned in
    let F = turned.front ++ map ci (take from cells) in
    let M = map ci gone in
    let B = map ci (drop (from + n) cells) ++ turned.back in
    let was : items ≡ F ++ (M ++ B) =
    turned.was ∙ ap (λ l. turned.front ++ (map ci l ++ turned.back)) (sym (three_parts cells from n))
    ∙ ap (λ l. turned.front ++ (l ++ turned.back)) (map-append ci (take from cells) (gone ++ drop (from + n) cells) ∙ ap (λ l. map ci (take from cells) ++ l) (map-append ci gone (drop (from + n) cells)))
    ∙ grouped turned.front (map ci (take from cells)) (M ++ map ci (drop (from + n) cells)) turned.back ∙ ap (λ l. F ++ l) (append_assoc M (map ci (drop (from + n) cells)) turned.back) in
    let is : turned.front ++ (map ci (take from cells ++ drop (from + n) cells) ++ turned.back) ≡ F ++ B =
    ap (λ l. turned.front ++ (l ++ turned.back)) (map-append ci (take from cells) (drop (from + n) cells)) ∙ grouped turned.front (map ci (take from cells)) (map ci (drop (from + n) cells)) turned.back in
    let r = subst (IsRooted form layout.nodes before after h root) is (rooted_turned layout.nodes other h root before after ordered stored.shape below changes) in
    let moved = nodes_moved layout r.new before after laid stored.apart r.changes in
    let up = ascends_less form.order F M B (subst (Ascends form.order) was stored.ascends) in
    let chained = each_less (IsChained form layout) F M B (subst (Each (IsChained form layout)) was stored.chained) in
    let now = stored_rooted tree order usable h root layout before after (F ++ B) r moved.1 up
    (Each-from (IsChained form layout) (rows_of (F ++ B)) (λ x at. Each-in (IsChained form layout) (F ++ B) x chained (from_rows x (F ++ B) at).0)) in
    let whole = tight_at stored tight in
    let high : r.height ≡ now.height = one_root form r.new r.height now.height root r.shape.top now.shape.top in
    let alone : Each (λ x. spilled_len tree usable (body_of x) ≡ 0) M = alone_all tree usable Fact gone 0 facts in
    let tight_now = tight_from now
    (λ k live. subst (λ high. Reaches form r.new high root k) high (r.tight k live (elim (owned_or_not (layout.nodes k)) [ inl none ↦ inl none | inr mine ↦ inr (whole.0 k mine) ])))
    (λ k live.
    let l = whole.1 k live in
    let among = in_less l.row F M B (λ at. no_link tree usable layout.spill (body_of l.row) k (Each-in (λ x. spilled_len tree usable (body_of x) ≡ 0) M l.row alone at) l.link) (subst (IsIn l.row) was l.among) in
    let there = from_rows l.row (tree_items form r.new r.height root) (subst (IsIn l.row) (sym r.alike.rows) (in_rows l.row (F ++ B) among l.a_row)) in
    record { row = l.row; among = subst (λ high. IsIn l.row (tree_items form r.new high root)) high there.0; a_row = l.a_row; link = l.link }) in
    let shown = λ (xs : List Item). map says (rows_of xs) in
    let left : shown (F ++ B) ≡ shown F ++ shown B = ap (map says) (rows_of-append F B) ∙ map-append says (rows_of F) (rows_of B) in
    let entry = λ (cell : List ℕ). says (item_in (leaf_of tree) usable cell) in
    let out : shown M ≡ map entry gone = row_entries form layout.spill gone (map entry gone) refl in
    record {
      first = shown F;
      gone = map entry gone;
      rest = shown B;
      parts = sym stored.holds ∙ ap shown was ∙ ap (map says) (rows_of-append F (M ++ B)) ∙ map-append says (rows_of F) (rows_of (M ++ B))
          ∙ ap (λ l. shown F ++ l) (ap (map says) (rows_of-append M B) ∙ map-append says (rows_of M) (rows_of B) ∙ ap (λ l. l ++ shown B) out);
      count = length-map gone entry ∙ length-take-le n (drop from cells) (omega (arith, within, length-drop from cells));
      facts = says_all tree usable Fact layout.spill gone 0 facts;
      written = record {
        new = record layout { nodes = r.new };
        moves = moved.0;
        fact = (subst (IsStored tree order usable (record layout { nodes = r.new }) root) left now, tight_now);
      };
    }
  where
    grouped : {X : Type 0} (front xs ys back : List X) → front ++ ((xs ++ ys) ++ back) ≡ (front ++ xs) ++ (ys ++ back)
    grouped front xs ys back = ap (λ l. front ++ l) (append_assoc xs ys back) ∙ sym (append_assoc front xs (ys ++ back))

-- a call that takes nothing leaves the tree as it is
pub none_trimmed : {tree : Tree} {order : Order} {usable root : ℕ} {layout : Layout} {entries : List Entry} {before after : PageMap} (Fact : ℕ → Entry → Type 0) → after ≡ before → IsLaidIn layout before
    → IsWhole tree order usable layout root entries → HasTrimmed tree order usable layout before after root entries Fact 0
none_trimmed {tree} {order} {usable} {root} {layout} {entries} {before} {after} Fact same laid whole =
    record {
      first = entries;
      gone = [];
      rest = [];
      parts = sym (append-nil entries);
      count = refl;
      facts = tt;
      written = subst (λ pages. IsWritten layout before pages (λ new. IsWhole tree order usable new root (entries ++ []))) (sym same) (record {
        new = layout;
        moves = record { laid = laid; others = λ n free some. (refl, free); no_stray = λ n some free. (some, free) };
        fact = subst (IsWhole tree order usable layout root) (sym (append-nil entries)) whole;
      });
    }
