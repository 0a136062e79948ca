-- One row of a table, known by its rowid: it alone has its key; to put a row over it replaces it.
use Rattle.std.proofs.Common.{◌≡◌, ℕ, ℤ, List, [], ◌∷◌, map, Bool, true, false, ◌&&◌, if◌then◌else◌, is_eq, Ordering, Less, Equal, Greater, Some, refl, sym, ap, ap₂, inl, inr, ◌∙◌}
use Rattle.std.specs.List.{AllByRecursion}
use Rattle.std.specs.Ordering.{is_ne, match_ordering}
use Rattle.std.proofs.lemmas.Bool.{and_from, both_ways}
use Rattle.std.proofs.lemmas.Cmp.{alike_right, tied_back}
use Rattle.sqlite_value.specs.declared.value.Value.TheVariants.{Int}
use Rattle.sqlite_value.specs.Keys.{plain}
use Rattle.sqlite_value.specs.Order.{Row, value_cmp}
use Rattle.sqlite_value.proofs.OrderLemmas.{value_cmp_total}
use Rattle.sqlite_trees.specs.Tree.{IsTable, has_rowid, put_row, rowid}
use Rattle.sqlite_trees.specs.View.{IsShaped}
use Rattle.sqlite_trees.specs.declared.store.Shape.TheVariants as shape
use Rattle.sqlite_sql.specs.Ops.{binary, from_truth, is_true}
use Rattle.sqlite_schema.specs.Rules.{agree, clashes, differ}
use Rattle.sqlite_rules.specs.Lists.{Has}
use Rattle.sqlite_rules.proofs.ListLemmas.{all_has, some_from}
use Rattle.sqlite_rules.proofs.PlaceLemmas.{row_at_is}
use Rattle.sql_tables.proofs.Rows.{Numbered, id_is, id_of, own_id}

pub same_truth : (a b : Bool) → (a ≡ true → b ≡ true) → (b ≡ true → a ≡ true) → a ≡ b
same_truth true true h k = refl
same_truth true false h k = sym (h refl)
same_truth false true h k = k refl
same_truth false false h k = refl

-- numbers that do not differ are equal
same_numbers : (a b : ℤ) → differ (Int a) (Int b) ≡ false → is_eq (value_cmp (Int a) (Int b)) ≡ true
unfolding binary
same_numbers a b h = go (value_cmp (Int a) (Int b)) h
  where
    go : (o : Ordering) → is_true (from_truth (Some (is_ne o))) ≡ false → is_eq o ≡ true
    go Less h = absurd cc
    go Equal h = refl
    go Greater h = absurd cc

module _ (rows : List Row) (shaped : IsShaped shape.Table rows) where
  -- rows of one rowid are one
  pub one_row : (r q : Row) → Has rows r → Has rows q → has_rowid (id_of r) q ≡ true → q ≡ r
  one_row r q has_r has_q same = sym (row_at_is rows (id_of r) q shaped.0 has_q same) ∙ row_at_is rows (id_of r) r shaped.0 has_r (own_id r (all_has Numbered rows r shaped.1 has_r))

  -- rows of one key have one rowid, where none clashes
  pub one_key : (places : List ℕ) (r q : Row) → Has rows r → Has rows q → clashes plain places rows r ≡ false → agree plain places q places r ≡ true → has_rowid (id_of r) q ≡ true
  one_key places r q has_r has_q alone same =
      let is_r = id_is r (all_has Numbered rows r shaped.1 has_r) in
      let is_q = id_is q (all_has Numbered rows q shaped.1 has_q) in
      ap (λ v. is_eq (value_cmp v (Int (id_of r)))) is_q ∙ same_numbers (id_of q) (id_of r) (sym (ap₂ differ is_q is_r) ∙ go (differ (rowid q) (rowid r)) refl)
    where
      go : (b : Bool) → differ (rowid q) (rowid r) ≡ b → b ≡ false
      go false e = refl
      go true e = absurd (both_ways _ alone (some_from (λ o. agree plain places o places r && differ (rowid o) (rowid r)) rows q has_q (and_from _ _ same e)))

-- the row, or the one that is put over it
abbrev pub put_over : ℤ → Row → Row → Row
put_over id columns r = if has_rowid id r then Int id ∷ columns else r

above_kept : (id : ℤ) (columns : Row) (r : Row) (rows : List Row) → value_cmp (rowid r) (Int id) ≡ Equal → AllByRecursion (λ q. value_cmp (rowid r) (rowid q) ≡ Less) rows → rows ≡ map (put_over id columns) rows
above_kept id columns r [] same up = refl
above_kept id columns r (q ∷ rows) same up =
    ap₂ ◌∷◌ (sym (ap (λ b. if b then Int id ∷ columns else q) (go (value_cmp (rowid q) (Int id)) refl))) (above_kept id columns r rows same up.1)
  where
    go : (o : Ordering) → value_cmp (rowid q) (Int id) ≡ o → is_eq o ≡ false
    go Less e = refl
    go Greater e = refl
    go Equal e =
        let lower : value_cmp (rowid r) (rowid q) ≡ Equal = value_cmp_total.congr (rowid r) (Int id) (rowid q) same ∙ tied_back value_cmp_total (rowid q) (Int id) e in
        absurd (let bad : Equal ≡ Less = sym lower ∙ up.0 in cc)

tied : (o : Ordering) → is_eq o ≡ true → o ≡ Equal
tied Less h = absurd cc
tied Equal h = refl
tied Greater h = absurd cc

pub put_replaces : (id : ℤ) (columns : Row) (rows : List Row) (r : Row) → IsTable rows → Has rows r → has_rowid id r ≡ true → put_row (Int id ∷ columns) rows ≡ map (put_over id columns) rows
put_replaces id columns [] r up there same = absurd there
put_replaces id columns (q ∷ rows) r up there same = go (value_cmp (rowid q) (Int id)) refl there (λ later. put_replaces id columns rows r up.1 later same)
  where
    go : (o : Ordering) → value_cmp (rowid q) (Int id) ≡ o → Has (q ∷ rows) r → (Has rows r → put_row (Int id ∷ columns) rows ≡ map (put_over id columns) rows)
        → match_ordering o (q ∷ put_row (Int id ∷ columns) rows) ((Int id ∷ columns) ∷ rows) ((Int id ∷ columns) ∷ q ∷ rows) ≡ (if is_eq o then Int id ∷ columns else q) ∷ map (put_over id columns) rows
    go Less e (inl first) more = absurd (let bad : false ≡ true = sym (ap is_eq e) ∙ ap (λ x. has_rowid id x) (sym first) ∙ same in cc)
    go Less e (inr later) more = ap (λ l. q ∷ l) (more later)
    go Equal e at more = ap (λ l. (Int id ∷ columns) ∷ l) (above_kept id columns q rows e up.0)
    go Greater e (inl first) more = absurd (let bad : false ≡ true = sym (ap is_eq e) ∙ ap (λ x. has_rowid id x) (sym first) ∙ same in cc)
    go Greater e (inr later) more =
        let tie : value_cmp (rowid r) (Int id) ≡ Equal = tied (value_cmp (rowid r) (Int id)) same in
        let above : value_cmp (rowid q) (rowid r) ≡ Greater = alike_right value_cmp_total (rowid r) (Int id) (rowid q) tie ∙ e in
        absurd (let bad : Greater ≡ Less = sym above ∙ all_has (λ x. value_cmp (rowid q) (rowid x) ≡ Less) rows r up.0 later in cc)
