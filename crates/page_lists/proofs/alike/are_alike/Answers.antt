use Rattle.std.proofs.Common.{◌≡◌, ℕ, true, false, eqb, Decides, Option, None, Some, refl, sym, ap, ◌∙◌}
use Rattle.std.specs.Option.{option_eq}
use Rattle.std.proofs.lemmas.Bool.Decides.{Decides-eqb}
use Rattle.std.proofs.lemmas.Slice.Eq.{slice_eq-Decides}
use Rattle.sqlite_value.specs.declared.keys.Order.{Order}
use Rattle.page_lists.proofs.alike.are_alike.Goals.{then-have_same_columns, else-have_same_columns, then-eq, else-eq}
use Rattle.page_lists.proofs.alike.are_alike.Goals as goal

same_key : (a b : Option ℕ) → option_eq eqb a b ≡ true → a ≡ b
same_key None None same = refl
same_key None (Some n) same = absurd (cc)
same_key (Some m) None same = absurd (cc)
same_key (Some m) (Some n) same = ap Some ((Decides-eqb m n).0 same)

same_order : (a b : Order) → Decides (eqb a.digits b.digits) (a ≡ b)
same_order a b = (λ same. ap (λ n. record { digits = n }) ((Decides-eqb a.digits b.digits).0 same), λ same. (Decides-eqb a.digits b.digits).1 (ap (λ (o : Order). o.digits) same))

pub returns-then-are_same_keys : goal.returns-then-are_same_keys
returns-then-are_same_keys c holds =
    let orders = slice_eq-Decides {E = λ (a b : Order). eqb a.digits b.digits} same_order _ _ _ c.eq-then-are_same_keys.ensures in
    elim c.if-eq.branch [
      | then-eq u ↦ elim c.if-have_same_columns.branch [
        | then-have_same_columns w ↦ record {
          columns = c.have_same_columns.ensures w.if-have_same_columns.true;
          key = same_key _ _ (sym w.eq.ensures ∙ sym w.value-is ∙ u.if-eq.true);
          uniques = u.are_same_keys.ensures (sym u.value-is ∙ c.if-are_same_keys.true);
          orders = sym c.as_slice.ensures ∙ orders.0 holds ∙ c.as_slice-then-are_same_keys.ensures;
        }
        | else-have_same_columns w ↦ absurd (let both : false ≡ true = sym w.if-have_same_columns.false ∙ sym w.value-is ∙ u.if-eq.true in cc)
      ]
      | else-eq u ↦ absurd (let both : false ≡ true = sym u.if-eq.false ∙ sym u.value-is ∙ c.if-are_same_keys.true in cc)
    ]
