-- A tree one of whose leaves has other cells has their items in the place of its own.
use Rattle.std.proofs.Common.{◌≡◌, ◌⊎◌, ℕ, zero, suc, ◌+◌, ◌<◌, ◌≤◌, true, false, List, [], ◌++◌, length, map, take, drop, refl, sym, ap, subst, ◌∙◌, inl, inr, arith, append-nil, take-append-drop}
use Rattle.std.proofs.lemmas.Bool.{cases_eq}
use Rattle.std.proofs.lemmas.List.{append_assoc}
use Rattle.sqlite_format.specs.Page.{page_cells}
use Rattle.sqlite_pages.specs.PageMap.{PageMap}
use Rattle.sqlite_btree.specs.Items.{Form, Item, cell_item, kind_at}
use Rattle.sqlite_btree.specs.Part.{ChangesOwn, Part, with_page}
use Rattle.sqlite_btree.specs.Tree.{EachChild, IsNode, IsOrdered, IsPageOf, IsRoot, IsTop, IsTree, Reaches, cells_of, child_at, child_of, fan_items, header_of, items_before, items_behind, right_of, top_cells, tree_items}
use Rattle.sqlite_btree.specs.Write.{IsRooted}
use Rattle.sqlite_btree.proofs.CutLemmas.{alike_same}
use Rattle.sqlite_btree.proofs.PartLemmas.{with_page_other, with_page_same}
use Rattle.sqlite_btree.proofs.ParentLemmas.{apart, child_ordered}
use Rattle.sqlite_btree.proofs.TreeLemmas.{IsWithin, fan_grown, items_focus, not_both, some_map, tree_same}
use Rattle.page_files.specs.Trims.{IsBelow}
use Rattle.page_files.proofs.Ways.{below_leaf, below_reached, child_there}

-- these bytes are a leaf with these cells, of which there is one
pub record IsLeafOf (form : Form) (leaf : ℕ) (bytes : List ℕ) (cells : List (List ℕ)) : Type 0 where
  pub node : IsPageOf form true leaf bytes
  pub cells_are : page_cells (kind_at form true) bytes (header_of leaf) ≡ cells
  pub some : 0 < length cells

regroup : {X : Type 0} (before front mid back behind : List X) → before ++ ((front ++ (mid ++ back)) ++ behind) ≡ (before ++ front) ++ (mid ++ (back ++ behind))
regroup before front mid back behind =
    ap (λ l. before ++ l) (append_assoc front (mid ++ back) behind ∙ ap (λ l. front ++ l) (append_assoc mid back behind)) ∙ sym (append_assoc before front (mid ++ (back ++ behind)))

module _ {form : Form} (part : Part) {leaf : ℕ} {bytes : List ℕ} {now : List (List ℕ)} (other : IsLeafOf form leaf bytes now) where
  abbrev pub other_part : Part
  other_part = with_page part leaf bytes

  abbrev pub old_items : List Item
  old_items = map (cell_item form true) (cells_of form true part leaf)

  abbrev pub new_items : List Item
  new_items = map (cell_item form true) now

  -- the items of a page below which the leaf lies, before and after
  pub record Turned (h page : ℕ) : Type 0 where
    pub front : List Item
    pub back : List Item
    pub was : tree_items form part h page ≡ front ++ (old_items ++ back)
    pub is : tree_items form other_part h page ≡ front ++ (new_items ++ back)

  -- an interior page is not the leaf
  stays : (page : ℕ) → IsNode form false part page → IsNode form true part leaf → other_part page ≡ part page
  stays page node is = with_page_other part leaf bytes page (λ e. not_both (subst (IsNode form true part) (sym e) is) node)

  leaf_turned : (page : ℕ) → leaf ≡ page → IsNode form true other_part page × (cells_of form true other_part page ≡ now)
  leaf_turned page is =
      let here : other_part page ≡ bytes = subst (λ p. other_part p ≡ bytes) is (with_page_same part leaf bytes) in (
        subst (IsPageOf form true page) (sym here) (subst (λ p. IsPageOf form true p bytes) is other.node),
        ap (λ b. page_cells (kind_at form true) b (header_of page)) here ∙ subst (λ p. page_cells (kind_at form true) bytes (header_of p) ≡ now) is other.cells_are,
      )

  page_turned : (page : ℕ) → leaf ≡ page → Turned 0 page
  page_turned page is = record {
    front = [];
    back = [];
    was = ap (λ p. map (cell_item form true) (cells_of form true part p)) (sym is) ∙ sym (append-nil old_items);
    is = ap (map (cell_item form true)) (leaf_turned page is).1 ∙ sym (append-nil new_items);
  }

  -- children beside the one on the way stay, and that one is turned
  fan : (h page at : ℕ) → IsOrdered form part (suc h) page → at ≤ length (cells_of form false part page) → Reaches form part h (child_of form part page at) leaf
      → IsTree form other_part h (child_of form part page at) → Turned h (child_of form part page at)
      → EachChild (IsTree form other_part h) (cells_of form false part page) (right_of part page)
      × (fan_items form (tree_items form other_part h) (cells_of form false part page) (right_of part page)
      ≡ items_before form (tree_items form part h) (cells_of form false part page) at ++ (tree_items form other_part h (child_of form part page at) ++ items_behind form (tree_items form part h) (cells_of form false part page) (right_of part page) at))
  fan h page at order within reaches tree turned =
      let cells = cells_of form false part page in
      let last = right_of part page in
      let old = tree_items form part h in
      let new = tree_items form other_part h in
      let same : at + 0 ≡ at = omega arith in
      let aside = λ (c : ℕ) (side : IsWithin (old c) (items_before form old cells at) ⊎ IsWithin (old c) (items_behind form old cells last (at + 0))) (t : IsTree form part h c).
      tree_same form part other_part h c t (λ n reached. with_page_other part leaf bytes n (λ e.
      apart order at c leaf t (subst (λ k. IsWithin (old c) (items_before form old cells at) ⊎ IsWithin (old c) (items_behind form old cells last k)) same side)
      (subst (Reaches form part h c) e reached) reaches)) in
      let r = fan_grown form (IsTree form part h) (IsTree form other_part h) old new cells [] last at 0 order.top.1 (omega (arith, within)) aside (subst (λ k. IsTree form other_part h (child_at cells last k)) (sym same) tree) in
      let whole : take at cells ++ ([] ++ drop (at + 0) cells) ≡ cells = ap (λ k. take at cells ++ drop k cells) same ∙ take-append-drop at cells in (
        subst (λ l. EachChild (IsTree form other_part h) l last) whole r.0,
        ap (λ l. fan_items form new l last) (sym whole) ∙ r.1 ∙ ap (λ k. items_before form old cells at ++ (new (child_at cells last k) ++ items_behind form old cells last k)) same,
      )

  -- the items of a page whose child at a place is turned
  above : (h page at : ℕ) → (turned : Turned h (child_of form part page at))
      → tree_items form other_part (suc h) page
      ≡ items_before form (tree_items form part h) (cells_of form false part page) at ++ (tree_items form other_part h (child_of form part page at) ++ items_behind form (tree_items form part h) (cells_of form false part page) (right_of part page) at)
      → Turned (suc h) page
  above h page at turned all =
      let cells = cells_of form false part page in
      let last = right_of part page in
      let old = tree_items form part h in
      let before = items_before form old cells at in
      let behind = items_behind form old cells last at in
      record {
        front = before ++ turned.front;
        back = turned.back ++ behind;
        was = items_focus form old cells last at ∙ ap (λ l. before ++ (l ++ behind)) turned.was ∙ regroup before turned.front old_items turned.back behind;
        is = all ∙ ap (λ l. before ++ (l ++ behind)) turned.is ∙ regroup before turned.front new_items turned.back behind;
      }

  -- a tree below a root
  tree_turned : (h page : ℕ) → IsOrdered form part h page → IsTree form part h page → IsBelow form part h page leaf → IsTree form other_part h page × Turned h page
  tree_turned zero page order t is =
      let l = leaf_turned page is in
      ((l.0, tt, subst (λ cells. 0 < length cells) (sym l.1) other.some, t.3), page_turned page is)
  tree_turned (suc h) page order t (at, within, below) =
      let child = child_of form part page at in
      let t_child = child_there (IsTree form part h) (cells_of form false part page) (right_of part page) at t.1 in
      let same = stays page t.0 (below_leaf form part h child leaf t_child below) in
      let r = tree_turned h child (child_ordered order at) t_child below in
      let all = fan h page at order within (below_reached form part h child leaf below) r.0 r.1 in
      (rw same (t.0, all.0, t.2, t.3), above h page at r.1 (rw same all.1))

  -- what was reached still is
  reach_kept : (h page n : ℕ) → IsTree form part h page → IsNode form true part leaf → Reaches form part h page n → Reaches form other_part h page n
  reach_kept zero page n t a_leaf e = e
  reach_kept (suc h) page n t a_leaf (inl e) = inl e
  reach_kept (suc h) page n t a_leaf (inr some) = rw (stays page t.0 a_leaf) (inr (some_map (IsTree form part h) (λ c. Reaches form part h c n) (λ c. Reaches form other_part h c n) (cells_of form false part page) (right_of part page) t.1 (λ c u e. reach_kept h c n u a_leaf e) some))

  -- what holds of the root
  pub record RootTurned (h page : ℕ) : Type 0 where
    pub top : IsTop form other_part h page
    pub full : (h ≡ 0) ⊎ ((0 < length (top_cells form other_part h page)) ⊎ (page ≡ 1))
    pub turned : Turned h page
    pub reached : (n : ℕ) → Reaches form part h page n → Reaches form other_part h page n

  pub root_turned : (h page : ℕ) → IsOrdered form part h page → IsRoot form part h page → IsBelow form part h page leaf → RootTurned h page
  root_turned zero page order root is =
      record { top = ((leaf_turned page is).0, tt); full = inl refl; turned = page_turned page is; reached = λ n e. e }
  root_turned (suc h) page order root (at, within, below) =
      let child = child_of form part page at in
      let t_child = child_there (IsTree form part h) (cells_of form false part page) (right_of part page) at root.top.1 in
      let a_leaf = below_leaf form part h child leaf t_child below in
      let same = stays page root.top.0 a_leaf in
      let r = tree_turned h child (child_ordered order at) t_child below in
      let all = fan h page at order within (below_reached form part h child leaf below) r.0 r.1 in
      record {
        top = rw same (root.top.0, all.0);
        full = rw same root.full;
        turned = above h page at r.1 (rw same all.1);
        reached = λ n e. elim e [
          | inl this ↦ inl this
          | inr some ↦ rw same (inr (some_map (IsTree form part h) (λ c. Reaches form part h c n) (λ c. Reaches form other_part h c n) (cells_of form false part page) (right_of part page) root.top.1 (λ c u there. reach_kept h c n u a_leaf there) some))
        ];
      }

  -- the root heads the items with the others in their place
  pub rooted_turned : (h page : ℕ) (before after : PageMap) (order : IsOrdered form part h page) (root : IsRoot form part h page) (below : IsBelow form part h page leaf) → ChangesOwn part before other_part after
      → IsRooted form part before after h page ((root_turned h page order root below).turned.front ++ (new_items ++ (root_turned h page order root below).turned.back))
  rooted_turned h page before after order root below changes =
      let r = root_turned h page order root below in
      record {
        new = other_part;
        changes = changes;
        height = h;
        shape = record { top = r.top; shallow = root.shallow; full = r.full };
        alike = alike_same form (r.turned.front ++ (new_items ++ r.turned.back)) (tree_items form other_part h page) r.turned.is;
        tight = λ n live was. r.reached n (elim (cases_eq n leaf) [
          | inl e ↦ subst (Reaches form part h page) (sym e) (below_reached form part h page leaf below)
          | inr away ↦ elim was [ inl none ↦ absurd (live (with_page_other part leaf bytes n away ∙ none)) | inr reached ↦ reached ]
        ]);
      }
