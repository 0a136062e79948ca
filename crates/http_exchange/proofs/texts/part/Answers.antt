use Rattle.std.proofs.Common.{◌≡◌, ℕ, suc, ◌+◌, ◌-◌, ◌<◌, List, [], get_or, Option, sym, ap, ◌∙◌, refl, arith}
use Rattle.http_exchange.specs.Texts.{front_of, rest_of, parts_of, parts_after, shown}
use Rattle.http_exchange.proofs.TextsLemmas.{parts_cut}
use Rattle.http_exchange.proofs.texts.part.Goals as goal

-- a part that is not the first is one of what follows
later : (text : List ℕ) (n : ℕ) → get_or (parts_of 47 text) (suc n) [] ≡ get_or (parts_after 47 (rest_of 47 text)) n []
later text n = rw (parts_cut 47 text) refl

first_of : (text : List ℕ) (n : ℕ) → n ≡ 0 → get_or (parts_of 47 text) n [] ≡ front_of 47 text
first_of text n none = rw (none, parts_cut 47 text) refl

next : (text : List ℕ) (rest : Option (List ℕ)) (number step : ℕ) → step < number → rest ≡ rest_of 47 text
    → get_or (parts_of 47 text) (number - step) [] ≡ get_or (parts_after 47 rest) (number - (step + 1)) []
next text rest number step below e =
    let is : number - step ≡ suc (number - (step + 1)) = omega (arith, below) in
    rw (is, e) (later text (number - (step + 1)))

pub slashes-preserved : goal.slashes-preserved
slashes-preserved c = c.slashes.invariant ∙ next c.slashes.rest.now _ c.args.number c.slashes.step c.slashes-test.true (ap shown (sym c.in-Some.is) ∙ c.cut.ensures.rest)

pub returns-in-None : goal.returns-in-None
returns-in-None c = sym (c.slashes.invariant ∙ next c.slashes.rest.now _ c.args.number c.slashes.step c.slashes-test.true (ap shown (sym c.in-None.is) ∙ c.cut.ensures.rest))

pub returns : goal.returns
returns c = c.cut-2.ensures.front ∙ sym (first_of c.slashes.rest.now (c.args.number - c.slashes.step) (omega (arith, c.slashes-test.false))) ∙ sym c.slashes.invariant
