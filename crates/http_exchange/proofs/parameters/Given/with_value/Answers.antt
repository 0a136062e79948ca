use Rattle.std.proofs.Common.{◌≡◌, ℕ, List, set, map, Option, Some, None, is_some, true, false, refl, sym, ap, ◌∙◌, Bor}
use Rattle.std.proofs.lemmas.List.{map-set}
use Rattle.http_exchange.specs.Texts.{shown}
use Rattle.http_exchange.specs.Parameters.{index_of, value_of}
use Rattle.http_exchange.proofs.parameters.Given.with_value.Goals as goal

shown_some : (value : Option (Bor (List ℕ))) → is_some (shown value) ≡ is_some value
shown_some None = refl
shown_some (Some value) = refl

pub returns-then-is_some : goal.returns-then-is_some
returns-then-is_some c =
    let given : is_some (value_of c.args.name c.args.self) ≡ true = ap is_some (sym c.value.ensures) ∙ shown_some c.value.result ∙ sym c.is_some.ensures ∙ c.if-is_some.true in
    rw given refl

pub returns : goal.returns
returns c =
    let none : is_some (value_of c.args.name c.args.self) ≡ false = ap is_some (sym c.value.ensures) ∙ shown_some c.value.result ∙ sym c.is_some.ensures ∙ c.if-is_some.false in
    rw none
    (ap Some (ap (λ i. map shown (set c.self.inside.values i (Some c.args.value))) c.index.ensures.index
    ∙ map-set shown c.self.inside.values (index_of c.args.name) (Some c.args.value)
    ∙ ap (λ l. set l (index_of c.args.name) (Some c.args.value.now)) c.self.view_is))
