-- A tree whose last leaf took more cells has their items behind its own.
use Rattle.std.proofs.Common.{◌≡◌, ◌⊎◌, ℕ, zero, suc, ◌+◌, ◌<◌, true, false, List, [], ◌++◌, length, map, take, drop, refl, sym, ap, subst, ◌∙◌, inl, inr, arith, append-nil, length-append}
use Rattle.std.proofs.lemmas.Bool.{cases_eq}
use Rattle.std.proofs.lemmas.List.{append_assoc, map-append, take_all, drop_all}
use Rattle.sqlite_format.specs.Page.{page_cells}
use Rattle.sqlite_format.specs.declared.kind.Tree.{Tree}
use Rattle.sqlite_format.specs.declared.kind.Tree.TheVariants.{Index}
use Rattle.sqlite_pages.specs.PageMap.{PageMap}
use Rattle.sqlite_btree.specs.Chain.{Entry, IsChained, Layout, entry_of}
use Rattle.sqlite_btree.specs.Cut.{Ascends, Each, IsIn}
use Rattle.sqlite_btree.specs.Items.{Form, Item, cell_item, kind_at, rows_of}
use Rattle.sqlite_btree.specs.Part.{ChangesOwn, Part, with_page}
use Rattle.sqlite_btree.specs.Stored.{IsLaidIn, IsStored, IsStrict, IsTight, IsWhole, IsWritten, Order, form_of}
use Rattle.sqlite_btree.specs.Tree.{child_at, EachChild, IsNode, IsOrdered, IsPageOf, IsRoot, IsTop, IsTree, Reaches, cells_of, child_of, fan_items, header_of, items_before, items_behind, right_of, top_cells, tree_items}
use Rattle.sqlite_btree.specs.Write.{IsRooted}
use Rattle.sqlite_btree.proofs.CutLemmas.{Each-append, Each-from, Each-in, alike_same, from_rows, in_left, rows_of-append}
use Rattle.sqlite_btree.proofs.PartLemmas.{owned_or_not, with_page_other, with_page_same}
use Rattle.sqlite_btree.proofs.ParentLemmas.{apart, child_ordered}
use Rattle.sqlite_btree.proofs.StoredLemmas.{nodes_moved, order_of, stored_rooted, tight_at, tight_from}
use Rattle.sqlite_btree.proofs.TreeLemmas.{IsWithin, behind_none, child_at-last, fan_grown, items_focus, last_tree, not_both, one_root, some_last, some_map, tree_same}
use Rattle.page_files.specs.Filled.{IsFilled, last_leaf}

module _ (form : Form) (part : Part) where
  -- the last leaf is a leaf
  pub leaf_node : (h page : ℕ) → IsTree form part h page → IsNode form true part (last_leaf part h page)
  leaf_node zero page t = t.0
  leaf_node (suc h) page t = leaf_node h (right_of part page) (last_tree form part h page t.1)

  pub top_leaf : (h page : ℕ) → IsTop form part h page → IsNode form true part (last_leaf part h page)
  top_leaf zero page t = t.0
  top_leaf (suc h) page t = leaf_node h (right_of part page) (last_tree form part h page t.1)

  -- and is reached
  pub leaf_reached : (h page : ℕ) → Reaches form part h page (last_leaf part h page)
  leaf_reached zero page = refl
  leaf_reached (suc h) page = inr (some_last (λ child. Reaches form part h child (last_leaf part h (right_of part page))) (cells_of form false part page) (right_of part page) (leaf_reached h (right_of part page)))

module _ {form : Form} {part : Part} {leaf : ℕ} {bytes : List ℕ} {more : List (List ℕ)} (filled : IsFilled form part leaf bytes more) where
  abbrev pub filled_part : Part
  filled_part = with_page part leaf bytes

  abbrev news : List Item
  news = map (cell_item form true) more

  -- an interior page is not the leaf
  stays : (page : ℕ) → IsNode form false part page → IsNode form true part leaf → filled_part page ≡ part page
  stays page node is = with_page_other part leaf bytes page (λ e. not_both (subst (IsNode form true part) (sym e) is) node)

  -- children other than the last stay, and the last has more items
  fan : (h page : ℕ) (order : IsOrdered form part (suc h) page) → Reaches form part h (right_of part page) leaf
      → IsTree form filled_part h (right_of part page) × (tree_items form filled_part h (right_of part page) ≡ tree_items form part h (right_of part page) ++ news)
      → EachChild (IsTree form filled_part h) (cells_of form false part page) (right_of part page)
      × (fan_items form (tree_items form filled_part h) (cells_of form false part page) (right_of part page)
      ≡ fan_items form (tree_items form part h) (cells_of form false part page) (right_of part page) ++ news)
  fan h page order reaches grown =
      let cells = cells_of form false part page in
      let last = right_of part page in
      let old = tree_items form part h in
      let new = tree_items form filled_part h in
      let i = length cells in
      let at : i + 0 ≡ i = omega arith in
      let here : child_of form part page i ≡ last = child_at-last cells last i (omega arith) in
      let aside = λ (c : ℕ) (side : IsWithin (old c) (items_before form old cells i) ⊎ IsWithin (old c) (items_behind form old cells last (i + 0))) (t : IsTree form part h c).
      tree_same form part filled_part h c t (λ n reached. with_page_other part leaf bytes n (λ e.
      apart order i c leaf t (subst (λ k. IsWithin (old c) (items_before form old cells i) ⊎ IsWithin (old c) (items_behind form old cells last k)) at side)
      (subst (Reaches form part h c) e reached) (subst (λ p. Reaches form part h p leaf) (sym here) reaches))) in
      let r = fan_grown form (IsTree form part h) (IsTree form filled_part h) old new cells [] last i 0 order.top.1 (omega arith) aside (subst (λ k. IsTree form filled_part h (child_at cells last k)) (sym at) (subst (IsTree form filled_part h) (sym here) grown.0)) in
      let before = items_before form old cells i in
      let whole : take i cells ++ ([] ++ drop (i + 0) cells) ≡ cells = rw (take_all i cells (omega arith), drop_all (i + 0) cells (omega arith)) (append-nil cells) in
      let there : child_at cells last (i + 0) ≡ last = ap (child_at cells last) at ∙ here in
      let none : items_behind form old cells last (i + 0) ≡ [] = behind_none form old cells last (i + 0) (omega arith) in
      let was : fan_items form old cells last ≡ before ++ (old last ++ []) =
      items_focus form old cells last i ∙ ap (λ l. before ++ l) (ap (λ p. old p ++ items_behind form old cells last i) here ∙ ap (λ l. old last ++ l) (behind_none form old cells last i (omega arith))) in
      let is : before ++ (new (child_at cells last (i + 0)) ++ items_behind form old cells last (i + 0)) ≡ before ++ ((old last ++ news) ++ []) =
      ap (λ l. before ++ l) (ap (λ p. new p ++ items_behind form old cells last (i + 0)) there ∙ ap (λ l. new last ++ l) none ∙ ap (λ l. l ++ []) grown.1) in (
        subst (λ l. EachChild (IsTree form filled_part h) l last) whole r.0,
        ap (λ l. fan_items form new l last) (sym whole) ∙ r.1 ∙ is ∙ ap (λ l. before ++ l) (append-nil (old last ++ news)) ∙ sym (append_assoc before (old last) news)
            ∙ ap (λ l. (before ++ l) ++ news) (sym (append-nil (old last))) ∙ ap (λ l. l ++ news) (sym was),
      )

  -- a tree below a root
  pub tree_filled : (h page : ℕ) → IsOrdered form part h page → IsTree form part h page → last_leaf part h page ≡ leaf
      → IsTree form filled_part h page × (tree_items form filled_part h page ≡ tree_items form part h page ++ news)
  tree_filled zero page order t is =
      let here : filled_part page ≡ bytes = subst (λ p. filled_part p ≡ bytes) (sym is) (with_page_same part leaf bytes) in
      let cells : cells_of form true filled_part page ≡ cells_of form true part page ++ more =
      ap (λ b. page_cells (kind_at form true) b (header_of page)) here ∙ subst (λ p. page_cells (kind_at form true) bytes (header_of p) ≡ cells_of form true part p ++ more) (sym is) filled.cells in
      let node : IsNode form true filled_part page = subst (IsPageOf form true page) (sym here) (subst (λ p. IsPageOf form true p bytes) (sym is) filled.node) in (
        (node, tt, subst (λ l. 0 < length l) (sym cells) (omega (arith, t.2, length-append (cells_of form true part page) more)), t.3),
        ap (map (cell_item form true)) cells ∙ map-append (cell_item form true) (cells_of form true part page) more,
      )
  tree_filled (suc h) page order t is =
      let right = right_of part page in
      let below = last_tree form part h page t.1 in
      let a_leaf = subst (IsNode form true part) is (leaf_node form part h right below) in
      let same = stays page t.0 a_leaf in
      let i = length (cells_of form false part page) in
      let here : child_of form part page i ≡ right = child_at-last (cells_of form false part page) right i (omega arith) in
      let grown = tree_filled h right (subst (IsOrdered form part h) here (child_ordered order i)) below is in
      let all = fan h page order (subst (Reaches form part h right) is (leaf_reached form part h right)) grown in
      rw same ((t.0, all.0, t.2, t.3), all.1)

  -- what was reached still is
  reach_kept : (h page n : ℕ) → IsTree form part h page → IsNode form true part leaf → Reaches form part h page n → Reaches form filled_part h page n
  reach_kept zero page n t a_leaf e = e
  reach_kept (suc h) page n t a_leaf (inl e) = inl e
  reach_kept (suc h) page n t a_leaf (inr some) = rw (stays page t.0 a_leaf) (inr (some_map (IsTree form part h) (λ c. Reaches form part h c n) (λ c. Reaches form filled_part h c n) (cells_of form false part page) (right_of part page) t.1 (λ c u e. reach_kept h c n u a_leaf e) some))

  -- what holds of the root
  pub record RootFilled (h page : ℕ) : Type 0 where
    pub a_leaf : IsNode form true part leaf
    pub top : IsTop form filled_part h page
    pub full : (h ≡ 0) ⊎ ((0 < length (top_cells form filled_part h page)) ⊎ (page ≡ 1))
    pub items : tree_items form filled_part h page ≡ tree_items form part h page ++ news
    pub reached : (n : ℕ) → Reaches form part h page n → Reaches form filled_part h page n

  pub root_filled : (h page : ℕ) → IsOrdered form part h page → IsRoot form part h page → last_leaf part h page ≡ leaf → RootFilled h page
  root_filled zero page order root is =
      let here : filled_part page ≡ bytes = subst (λ p. filled_part p ≡ bytes) (sym is) (with_page_same part leaf bytes) in
      let cells : cells_of form true filled_part page ≡ cells_of form true part page ++ more =
      ap (λ b. page_cells (kind_at form true) b (header_of page)) here ∙ subst (λ p. page_cells (kind_at form true) bytes (header_of p) ≡ cells_of form true part p ++ more) (sym is) filled.cells in
      record {
        a_leaf = subst (IsNode form true part) is root.top.0;
        top = (subst (IsPageOf form true page) (sym here) (subst (λ p. IsPageOf form true p bytes) (sym is) filled.node), tt);
        full = inl refl;
        items = ap (map (cell_item form true)) cells ∙ map-append (cell_item form true) (cells_of form true part page) more;
        reached = λ n e. e;
      }
  root_filled (suc h) page order root is =
      let right = right_of part page in
      let below = last_tree form part h page root.top.1 in
      let a_leaf = subst (IsNode form true part) is (leaf_node form part h right below) in
      let same = stays page root.top.0 a_leaf in
      let i = length (cells_of form false part page) in
      let here : child_of form part page i ≡ right = child_at-last (cells_of form false part page) right i (omega arith) in
      let grown = tree_filled h right (subst (IsOrdered form part h) here (child_ordered order i)) below is in
      let all = fan h page order (subst (Reaches form part h right) is (leaf_reached form part h right)) grown in
      record {
        a_leaf = a_leaf;
        top = rw same (root.top.0, all.0);
        full = rw same root.full;
        items = rw same all.1;
        reached = λ n e. elim e [
          | inl this ↦ inl this
          | inr some ↦ rw same (inr (some_map (IsTree form part h) (λ c. Reaches form part h c n) (λ c. Reaches form filled_part h c n) (cells_of form false part page) right root.top.1 (λ c u there. reach_kept h c n u a_leaf there) some))
        ];
      }

  pub rooted_filled : (h page : ℕ) (before after : PageMap) → IsOrdered form part h page → IsRoot form part h page → last_leaf part h page ≡ leaf
      → ChangesOwn part before filled_part after → IsRooted form part before after h page (tree_items form part h page ++ news)
  rooted_filled h page before after order root is changes =
      let r = root_filled h page order root is in
      record {
        new = filled_part;
        changes = changes;
        height = h;
        shape = record { top = r.top; shallow = root.shallow; full = r.full };
        alike = alike_same form (tree_items form part h page ++ news) (tree_items form filled_part h page) r.items;
        tight = λ n live was. r.reached n (elim (cases_eq n leaf) [
          | inl e ↦ subst (Reaches form part h page) (sym e) (subst (Reaches form part h page) is (leaf_reached form part h page))
          | inr other ↦ elim was [ inl none ↦ absurd (live (with_page_other part leaf bytes n other ∙ none)) | inr reached ↦ reached ]
        ]);
      }

-- a stored tree whose last leaf took more rows has their entries behind its own
pub stored_filled : {tree : Tree} {order : Order} {usable root : ℕ} {layout : Layout} {entries : List Entry} (bytes : List ℕ) (more : List (List ℕ)) (before after : PageMap)
    (stored : IsStored tree order usable layout root entries) → IsTight tree usable layout root → (tree ≡ Index → IsStrict order) → IsLaidIn layout before
    → (leaf : ℕ) → last_leaf layout.nodes stored.height root ≡ leaf → (filled : IsFilled (form_of tree order usable layout.spill) layout.nodes leaf bytes more)
    → Ascends (form_of tree order usable layout.spill).order (tree_items (form_of tree order usable layout.spill) layout.nodes stored.height root ++ map (cell_item (form_of tree order usable layout.spill) true) more)
    → Each (IsChained (form_of tree order usable layout.spill) layout) (map (cell_item (form_of tree order usable layout.spill) true) more)
    → ChangesOwn layout.nodes before (with_page layout.nodes leaf bytes) after
    → IsWritten layout before after (λ new. IsWhole tree order usable new root (entries ++ map (entry_of tree usable layout.spill) (rows_of (map (cell_item (form_of tree order usable layout.spill) true) more))))
unfolding rooted_filled
stored_filled {tree} {order} {usable} {root} {layout} {entries} bytes more before after stored tight strict laid leaf is filled up chained changes =
    let form = form_of tree order usable layout.spill in
    let h = stored.height in
    let items = tree_items form layout.nodes h root in
    let news = map (cell_item form true) more in
    let ordered : IsOrdered form layout.nodes h root = record { order = order_of tree order usable layout.spill strict; top = stored.shape.top; ascends = stored.ascends } in
    let r = rooted_filled filled h root before after ordered stored.shape is changes in
    let moved = nodes_moved layout r.new before after laid stored.apart r.changes in
    let all_chained : Each (IsChained form layout) (items ++ news) = Each-append (IsChained form layout) items news stored.chained chained in
    let now = stored_rooted tree order usable h root layout before after (items ++ news) r moved.1 up
    (Each-from (IsChained form layout) (rows_of (items ++ news)) (λ x at. Each-in (IsChained form layout) (items ++ news) x all_chained (from_rows x (items ++ news) at).0)) in
    let shows : map (entry_of tree usable layout.spill) (rows_of (items ++ news)) ≡ entries ++ map (entry_of tree usable layout.spill) (rows_of news) =
    ap (map (entry_of tree usable layout.spill)) (rows_of-append items news) ∙ map-append (entry_of tree usable layout.spill) (rows_of items) (rows_of news) ∙ ap (λ l. l ++ map (entry_of tree usable layout.spill) (rows_of news)) stored.holds in
    let was = tight_at stored tight in
    let high : h ≡ now.height = one_root form r.new h now.height root r.shape.top now.shape.top in
    let same : items ++ news ≡ tree_items form r.new now.height root = sym (root_filled filled h root ordered stored.shape is).items ∙ ap (λ k. tree_items form r.new k root) high in
    record {
      new = record layout { nodes = r.new };
      moves = moved.0;
      fact = (
        subst (IsStored tree order usable (record layout { nodes = r.new }) root) shows now,
        tight_from now
            (λ n live. subst (λ k. Reaches form r.new k root n) high (r.tight n live (elim (owned_or_not (layout.nodes n)) [ inl none ↦ inl none | inr mine ↦ inr (was.0 n mine) ])))
            (λ n live. let l = was.1 n live in record { row = l.row; among = subst (IsIn l.row) same (in_left l.row items news l.among); a_row = l.a_row; link = l.link }),
      );
    }
