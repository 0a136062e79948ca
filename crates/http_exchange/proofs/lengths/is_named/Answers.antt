use Rattle.std.proofs.Common.{◌≡◌, ◌↔◌, ℕ, List, Bool, true, false, IsTrue, bytes_eq, refl, rules, sym, ap, ◌∙◌}
use Rattle.cost_rows.proofs.NamingLemmas.{bytes-same, same_bytes}
use Rattle.http_exchange.specs.Lengths.{same_name}
use Rattle.http_exchange.proofs.lengths.is_named.Goals as goal

apart : false ≡ true → ⊥
apart e = search rules

unsame : (found : Bool) → (found ≡ true → ⊥) → false ≡ found
unsame true wrong = absurd (wrong refl)
unsame false wrong = refl

decided : (found : Bool) (a b : List ℕ) → (IsTrue found ↔ (a ≡ b)) → found ≡ bytes_eq a b
decided true a b is = sym (bytes-same a b (is.0 refl))
decided false a b is = unsame (bytes_eq a b) (λ e. apart (is.1 (same_bytes a b e)))

pub returns : goal.returns
returns c =
    decided c.eq_ignore_ascii_case.result _ _ c.eq_ignore_ascii_case.ensures.test
    ∙ ap (λ l. same_name l c.as_bytes.result.now) c.of.ensures ∙ ap (same_name _) c.as_bytes.ensures.value
