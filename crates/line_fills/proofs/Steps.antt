-- Rows placed in a tree one batch after another.
use Rattle.std.proofs.Common.{◌≡◌, ℕ, List, [], ◌++◌, Result, Ok, Err, OnOk, refl, sym, ap, subst, ◌∙◌, inl, inr, eq-eqb, ne_eqb}
use Rattle.std.proofs.Math.Path.{fun_ext}
use Rattle.std.proofs.lemmas.Bool.{cases_eq}
use Rattle.sqlite_disk.specs.declared.Disk.{Ghosts}
use Rattle.sqlite_pool.specs.Pool.{state}
use Rattle.sqlite_pool.specs.Stored.{Keeps}
use Rattle.sqlite_store.specs.declared.catalog.Wanted.{Wanted}
use Rattle.sqlite_record.proofs.AffinityLemmas.{widen-zero}
use Rattle.sqlite_store.specs.Catalog.{reals_at}
use Rattle.sqlite_store.specs.Db.{shown}
use Rattle.sqlite_trees.specs.declared.store.Shape.TheVariants.{Index}
use Rattle.sqlite_value.specs.Keys.{plain}
use Rattle.sqlite_trees.specs.declared.store.Shape.{Shape}
use Rattle.sqlite_trees.specs.Tree.{Trees, with_tree}
use Rattle.sqlite_value.specs.Order.{Row}
use Rattle.page_files.specs.Places.{Place, place_all}
use Rattle.page_files.proofs.Placing.{place_all-append}
use Rattle.page_files.specs.declared.files.PageFile.{PageFile}
use Rattle.page_files.specs.Held.{Writes}
use Rattle.page_files.specs.Writes.{AtTree}
use Rattle.page_places.proofs.Changed.{with_same}

pub on_ok : {T E : Type 0} (r : Result T E) {P Q : Type 0} → (P → Q) → OnOk r P → OnOk r Q
on_ok (Ok x) so p = so p
on_ok (Err e) so p = tt

-- a tree that is set to what it is
with_itself : (now : Trees) (t : ℕ) → with_tree now t (now t) ≡ now
with_itself now t = fun_ext (λ u. elim (cases_eq u t) [
  | inl same ↦ rw (eq-eqb u t same) (ap now (sym same))
  | inr other ↦ rw (ne_eqb u t other) refl
])

with_twice : (now : Trees) (t : ℕ) (rows more : List Row) → with_tree (with_tree now t rows) t more ≡ with_tree now t more
with_twice now t rows more = fun_ext (λ u. elim (cases_eq u t) [
  | inl same ↦ rw (eq-eqb u t same) refl
  | inr other ↦ rw (ne_eqb u t other) refl
])

-- an entry is shown as it is given where no column is REAL
pub entry_as_given : (wanted : List Wanted) (t : ℕ) (entry : Row) → reals_at wanted t ≡ 0 → shown (Index plain) (reals_at wanted t) entry ≡ entry
entry_as_given wanted t entry none = subst (λ n. shown (Index plain) n entry ≡ entry) (sym none) (widen-zero entry)

-- how far a loop over batches has come
pub record HasCome (W K U P : Type 0) : Type 0 where
  pub within : W
  pub keeps : K
  pub usable : U
  pub placed : P

module _ {D : Type 0} {g : Ghosts D} (shape : Shape) (root : ℕ) (place : Place) where
  -- within a transaction these rows were placed
  abbrev pub HasPlaced : PageFile D g → PageFile D g → List Row → Type 0
  HasPlaced old new news =
      AtTree old new shape root (λ wanted roots was now t. reals_at wanted t ≡ 0 → Writes wanted roots was (with_tree now t (place_all place news (now t))) new)

  pub none_placed : (file : PageFile D g) → HasPlaced file file []
  none_placed file faithful wanted roots was now t w is none = subst (λ trees. Writes wanted roots was trees file) (sym (with_itself now t)) w

  module _ (old mid new : PageFile D g) (k : Keeps (state mid.pool) (state new.pool)) (front : List Row) (first : HasPlaced old mid front) where
    -- what then comes of any trees
    pub after_placed : (Fact : Type 0) → AtTree mid new shape root (λ wanted roots was now t. reals_at wanted t ≡ 0 → Fact) → AtTree old new shape root (λ wanted roots was now t. reals_at wanted t ≡ 0 → Fact)
    after_placed Fact so faithful wanted roots was now t w is none =
        so faithful wanted roots was (with_tree now t (place_all place front (now t))) t (first (k.stays.clean faithful) wanted roots was now t w is none) is none

    -- and then more of them
    pub more_placed : (back : List Row) → HasPlaced mid new back → HasPlaced old new (front ++ back)
    more_placed back second faithful wanted roots was now t w is none =
        let middle = with_tree now t (place_all place front (now t)) in
        let there : middle t ≡ place_all place front (now t) = with_same now t (place_all place front (now t)) in
        let rows : place_all place back (middle t) ≡ place_all place (front ++ back) (now t) = ap (place_all place back) there ∙ sym (place_all-append place front back (now t)) in
        let same : with_tree middle t (place_all place back (middle t)) ≡ with_tree now t (place_all place (front ++ back) (now t)) =
        with_twice now t (place_all place front (now t)) (place_all place back (middle t)) ∙ ap (with_tree now t) rows in
        subst (λ trees. Writes wanted roots was trees new) same (second faithful wanted roots was middle t (first (k.stays.clean faithful) wanted roots was now t w is none) is none)
