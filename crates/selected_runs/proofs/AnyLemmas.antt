-- One of a list of which a test holds.
use Rattle.std.proofs.Common.{◌≡◌, Bool, true, false, ◌||◌, List, [], ◌∷◌, inl, inr, refl, sym, ap, ◌∙◌}
use Rattle.std.specs.List.{list_any}
use Rattle.plain_tables.specs.Lists.{Has}

pub any_of : {X : Type 0} (p : X → Bool) (xs : List X) (x : X) → Has xs x → p x ≡ true → list_any p xs ≡ true
any_of p [] x there is = absurd there
any_of p (y ∷ xs) x (inl same) is = ap (λ z. p z || list_any p xs) (sym same) ∙ ap (λ b. b || list_any p xs) is
any_of p (y ∷ xs) x (inr later) is = ap (λ b. p y || b) (any_of p xs x later is) ∙ or_true (p y)
  where
    or_true : (b : Bool) → b || true ≡ true
    or_true true = refl
    or_true false = refl
