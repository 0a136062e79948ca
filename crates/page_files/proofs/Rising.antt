-- What comes after the last row of a tree comes after all that the tree holds.
use Rattle.std.proofs.Common.{◌≡◌, ℕ, zero, suc, ◌+◌, ◌-◌, ◌<◌, ◌≤◌, Bool, true, false, List, [], ◌∷◌, ◌++◌, length, map, take, get_or, refl, sym, ap, subst, ◌∙◌, inl, inr, arith, append-nil, take_all, ltb}
use Rattle.std.proofs.lemmas.Bool.Decides.{nat_tests}
use Rattle.std.proofs.lemmas.List.{append_assoc, map-append, take_more, length-map}
use Rattle.sqlite_format.specs.declared.kind.Tree.{Tree}
use Rattle.sqlite_format.specs.declared.kind.Tree.TheVariants.{Table, Index}
use Rattle.sqlite_btree.specs.Chain.{Entry, Layout, entry_of}
use Rattle.sqlite_btree.specs.Cut.{Ascends, Each, IsIn}
use Rattle.sqlite_btree.specs.Items.{Form, Item, IsOrder, cell_item}
use Rattle.sqlite_btree.specs.Part.{Part}
use Rattle.sqlite_btree.specs.Stored.{IsStored, IsStrict, Order, form_of, precedes, rank}
use Rattle.sqlite_btree.specs.Tree.{IsTree, IsTop, cells_of, child_at, items_before, items_behind, right_of, tree_items}
use Rattle.sqlite_btree.proofs.CutLemmas.{Ascends-across, Ascends-append, in_either}
use Rattle.sqlite_btree.proofs.StoredLemmas.{order_of}
use Rattle.sqlite_btree.proofs.TreeLemmas.{behind_none, child_at-last, items_focus, last_tree}
use Rattle.page_files.specs.Filled.{last_leaf}
use Rattle.page_files.specs.Leaves.{HoldRows}
use Rattle.page_files.specs.Rows.{NewRow, entry_from, entries_of, row_at, Rise, ComesAfter}
use Rattle.page_files.proofs.NewCells.{one_more_suc}

record EndsWith {X : Type 0} (xs : List X) (last : X) : Type 0 where
  front : List X
  is : xs ≡ front ++ last ∷ []

abbrev last_cell : List (List ℕ) → List ℕ
last_cell cells = get_or cells (length cells - 1) []

cells_end : (cells : List (List ℕ)) → 0 < length cells → EndsWith cells (last_cell cells)
cells_end cells some =
    let i = length cells - 1 in
    record { front = take i cells; is = sym (take_all (i + 1) cells (omega arith)) ∙ take_more cells i [] (omega arith) }

module _ (form : Form) (part : Part) where
  abbrev last_item : ℕ → ℕ → Item
  last_item h page = cell_item form true (last_cell (cells_of form true part (last_leaf part h page)))

  leaf_end : (page : ℕ) → 0 < length (cells_of form true part page) → EndsWith (map (cell_item form true) (cells_of form true part page)) (last_item 0 page)
  leaf_end page some =
      let e = cells_end (cells_of form true part page) some in
      record { front = map (cell_item form true) e.front; is = ap (map (cell_item form true)) e.is ∙ map-append (cell_item form true) e.front _ }

  fan_end : (h page : ℕ) → EndsWith (tree_items form part h (right_of part page)) (last_item h (right_of part page)) → EndsWith (tree_items form part (suc h) page) (last_item (suc h) page)
  fan_end h page r =
      let cells = cells_of form false part page in
      let last = right_of part page in
      let old = tree_items form part h in
      let i = length cells in
      let before = items_before form old cells i in
      let here : child_at cells last i ≡ last = child_at-last cells last i (omega arith) in
      let was : tree_items form part (suc h) page ≡ before ++ (old last ++ []) =
      items_focus form old cells last i ∙ ap (λ l. before ++ l) (ap (λ p. old p ++ items_behind form old cells last i) here ∙ ap (λ l. old last ++ l) (behind_none form old cells last i (omega arith))) in
      record {
        front = before ++ r.front;
        is = was ∙ ap (λ l. before ++ l) (append-nil (old last) ∙ r.is) ∙ sym (append_assoc before r.front (last_item h last ∷ []));
      }

  tree_end : (h page : ℕ) → IsTree form part h page → EndsWith (tree_items form part h page) (last_item h page)
  tree_end zero page t = leaf_end page t.2
  tree_end (suc h) page t = fan_end h page (tree_end h (right_of part page) (last_tree form part h page t.1))

  below_end : IsOrder form → (items : List Item) (last : Item) → EndsWith items last → Ascends form.order items → (y : Item) → form.order last y ≡ true
      → (x : Item) → IsIn x items → form.order x y ≡ true
  below_end order items last r up y below x at =
      elim (in_either x r.front (last ∷ []) (subst (IsIn x) r.is at)) [
        | inl early ↦ order.trans x last y (Ascends-across form.order r.front (last ∷ []) x last (subst (Ascends form.order) r.is up) early (inl refl)) below
        | inr late ↦ elim late [ inl e ↦ subst (λ v. form.order v y ≡ true) (sym e) below | inr none ↦ absurd none ]
      ]

  -- what comes after the last cell of the last leaf, if it has one
  pub below_last : IsOrder form → (h page : ℕ) → IsTop form part h page → Ascends form.order (tree_items form part h page) → (y : Item)
      → (0 < length (cells_of form true part (last_leaf part h page)) → form.order (last_item h page) y ≡ true) → (x : Item) → IsIn x (tree_items form part h page) → form.order x y ≡ true
  below_last order zero page top up y below x at =
      let some : 0 < length (cells_of form true part page) = omega (arith, some_in x (tree_items form part zero page) at, length-map (cells_of form true part page) (cell_item form true)) in
      below_end order (tree_items form part zero page) (last_item zero page) (leaf_end page some) up y (below some) x at
    where
      some_in : (z : Item) (zs : List Item) → IsIn z zs → 0 < length zs
      some_in z [] none = absurd none
      some_in z (w ∷ ws) there = omega arith
  below_last order (suc h) page top up y below x at =
      let right = right_of part page in
      let t = last_tree form part h page top.1 in
      below_end order (tree_items form part (suc h) page) (last_item (suc h) page) (fan_end h page (tree_end h right t)) up y (below (leaf_some h right t)) x at
    where
      leaf_some : (k p : ℕ) → IsTree form part k p → 0 < length (cells_of form true part (last_leaf part k p))
      leaf_some zero p u = u.2
      leaf_some (suc k) p u = leaf_some k (right_of part p) (last_tree form part k p u.1)

rank_trans : (a b c : ℕ) → ltb a b ≡ true → ltb b c ≡ true → ltb a c ≡ true
rank_trans a b c p q = grind (arith, nat_tests)

precedes_trans : (tree : Tree) (order : Order) → (tree ≡ Index → IsStrict order) → (x y z : Entry) → precedes tree order x y ≡ true → precedes tree order y z ≡ true → precedes tree order x z ≡ true
precedes_trans Table order strict x y z p q = rank_trans (rank x.row x.key) (rank y.row y.key) (rank z.row z.key) p q
precedes_trans Index order strict x y z p q = (strict refl).trans x.payload y.payload z.payload p q

module _ (tree : Tree) (order : Order) (strict : tree ≡ Index → IsStrict order) (rows : List NewRow) where
  abbrev entry : ℕ → Entry
  entry i = entry_from tree (row_at rows i)

  abbrev firsts : ℕ → List Entry
  firsts n = entries_of tree (take n rows)

  earlier : (n : ℕ) → n < length rows → Rise tree order rows (suc n) → (y : Entry) → IsIn y (firsts n) → precedes tree order y (entry n) ≡ true
  earlier zero within rise y at = absurd at
  earlier (suc n) within rise y at =
      let last : precedes tree order (entry n) (entry (suc n)) ≡ true = rise n (omega arith) in
      elim (in_either y (firsts n) (entry n ∷ []) (subst (IsIn y) (one_more_suc tree rows n (omega arith)) at)) [
        | inl early ↦ precedes_trans tree order strict y (entry n) (entry (suc n)) (earlier n (omega arith) (λ i below. rise i (omega arith)) y early) last
        | inr late ↦ elim late [ inl e ↦ subst (λ v. precedes tree order v (entry (suc n)) ≡ true) (sym e) last | inr none ↦ absurd none ]
      ]

  -- rows of which each comes after the one before it
  pub firsts_ascend : (n : ℕ) → n ≤ length rows → Rise tree order rows n → Ascends (precedes tree order) (firsts n)
  firsts_ascend zero within rise = tt
  firsts_ascend (suc n) within rise =
      subst (Ascends (precedes tree order)) (sym (one_more_suc tree rows n (omega arith)))
      (Ascends-append (precedes tree order) (firsts n) (entry n ∷ []) (firsts_ascend n (omega arith) (λ i below. rise i (omega arith))) (tt, tt)
      (λ x y a b. elim b [ inl e ↦ subst (λ v. precedes tree order x v ≡ true) (sym e) (earlier n (omega arith) rise x a) | inr none ↦ absurd none ]))

  -- come after what the first comes after
  pub firsts_follow : (n : ℕ) → n ≤ length rows → Rise tree order rows n → (x : Entry) → (0 < n → precedes tree order x (entry 0) ≡ true)
      → (y : Entry) → IsIn y (firsts n) → precedes tree order x y ≡ true
  firsts_follow zero within rise x first y at = absurd at
  firsts_follow (suc n) within rise x first y at =
      elim (in_either y (firsts n) (entry n ∷ []) (subst (IsIn y) (one_more_suc tree rows n (omega arith)) at)) [
        | inl early ↦ firsts_follow n (omega arith) (λ i below. rise i (omega arith)) x (λ some. first (omega arith)) y early
        | inr late ↦ elim late [ inl e ↦ subst (λ v. precedes tree order x v ≡ true) (sym e) (reach n within rise first) | inr none ↦ absurd none ]
      ]
    where
      reach : (k : ℕ) → suc k ≤ length rows → Rise tree order rows (suc k) → (0 < suc k → precedes tree order x (entry 0) ≡ true) → precedes tree order x (entry k) ≡ true
      reach zero w r f = f (omega arith)
      reach (suc k) w r f = precedes_trans tree order strict x (entry k) (entry (suc k)) (reach k (omega arith) (λ i below. r i (omega arith)) (λ some. f (omega arith))) (r k (omega arith))

in_map : {X Y : Type 0} (f : X → Y) (x : X) (xs : List X) → IsIn x xs → IsIn (f x) (map f xs)
in_map f x [] at = absurd at
in_map f x (y ∷ ys) (inl e) = inl (ap f e)
in_map f x (y ∷ ys) (inr at) = inr (in_map f x ys at)

Each-unmap : {X Y : Type 0} (f : X → Y) (P : Y → Type 0) (xs : List X) → Each P (map f xs) → Each (λ x. P (f x)) xs
Each-unmap f P [] all = tt
Each-unmap f P (x ∷ xs) all = (all.0, Each-unmap f P xs all.1)

Ascends-unmap : {X Y : Type 0} (f : X → Y) (order : Y → Y → Bool) (xs : List X) → Ascends order (map f xs) → Ascends (λ a b. order (f a) (f b)) xs
Ascends-unmap f order [] up = tt
Ascends-unmap f order (x ∷ xs) up = (Each-unmap f (λ y. order (f x) y ≡ true) xs up.0, Ascends-unmap f order xs up.1)

map-map : {X Y Z : Type 0} (f : Y → Z) (g : X → Y) (xs : List X) → map f (map g xs) ≡ map (λ x. f (g x)) xs
map-map f g [] = refl
map-map f g (x ∷ xs) = ap (λ l. f (g x) ∷ l) (map-map f g xs)

-- cells of new rows, of which the first comes after the last row of a stored tree
pub rows_rise : {tree : Tree} {order : Order} {usable root : ℕ} {layout : Layout} {entries : List Entry} (stored : IsStored tree order usable layout root entries) → (tree ≡ Index → IsStrict order)
    → (rows : List NewRow) (n : ℕ) (cells : List (List ℕ)) → n ≤ length rows → Rise tree order rows n → HoldRows tree usable cells (entries_of tree (take n rows))
    → ComesAfter tree order usable (cells_of (form_of tree order usable layout.spill) true layout.nodes (last_leaf layout.nodes stored.height root)) (row_at rows 0)
    → Ascends (form_of tree order usable layout.spill).order
    (tree_items (form_of tree order usable layout.spill) layout.nodes stored.height root ++ map (cell_item (form_of tree order usable layout.spill) true) cells)
rows_rise {tree} {order} {usable} {root} {layout} {entries} stored strict rows n cells within rise hold after =
    let form = form_of tree order usable layout.spill in
    let says = entry_of tree usable layout.spill in
    let items = tree_items form layout.nodes stored.height root in
    let more = map (cell_item form true) cells in
    let shown : map says more ≡ entries_of tree (take n rows) = map-map says (cell_item form true) cells ∙ hold.says layout.spill in
    Ascends-append form.order items more stored.ascends (Ascends-unmap says (precedes tree order) more (subst (Ascends (precedes tree order)) (sym shown) (firsts_ascend tree order strict rows n within rise)))
    (λ x y a b. below_last form layout.nodes (order_of tree order usable layout.spill strict) stored.height root stored.shape.top stored.ascends y
    (λ some. firsts_follow tree order strict rows n within rise (says (last_item form layout.nodes stored.height root)) (λ _. after layout.spill some) (says y) (subst (IsIn (says y)) shown (in_map says y more b))) x a)
