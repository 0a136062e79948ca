use Rattle.std.proofs.Common.{◌≡◌, ℕ, ◌+◌, ◌<◌, List, [], ◌∷◌, length, Option, Some, None, IfSome, refl, sym, ap, ◌∙◌, arith, Bor}
use Rattle.http_exchange.specs.Texts.{front_of, rest_of, parts_after, shown}
use Rattle.http_exchange.specs.Parameters.{Given, with_part, with_parts}
use Rattle.http_exchange.specs.declared.names.Name.{Name}
use Rattle.http_exchange.proofs.TextsLemmas.{parts_cut}
use Rattle.http_exchange.proofs.parameters.read_query.Invariants.{left}
use Rattle.http_exchange.proofs.parameters.read_query.Goals as goal

stops : (names : List Name) (parts : List (List ℕ)) → with_parts names parts None ≡ None
stops names [] = refl
stops names (part ∷ more) = refl

step : (names : List Name) (rest : Option (List ℕ)) (text front : List ℕ) (more : Option (List ℕ)) (given : Given) (next : Option Given)
    → rest ≡ Some text → front ≡ front_of 38 text → more ≡ rest_of 38 text → next ≡ with_part names front given
    → with_parts names (parts_after 38 rest) (Some given) ≡ with_parts names (parts_after 38 more) next
step names rest text front more given next is a b e = rw (is, parts_cut 38 text, e, a, b) refl

smaller : (rest : Option (Bor (List ℕ))) (n : ℕ) → IfSome rest (λ r. length r.now < n) → left rest < 1 + n
smaller None n e = omega arith
smaller (Some r) n e = omega (arith, e)

pub returns-in_err-given : goal.returns-in_err-given
returns-in_err-given c =
    let all = step c.args.names.now (shown c.parts.rest) c.in-Some-rest.text.now _ _ c.parts.given c.with_part.result (ap shown c.in-Some-rest.is) c.cut.ensures.front c.cut.ensures.rest c.with_part.ensures in
    c.from_residual.ensures ∙ sym (c.parts.invariant ∙ all ∙ ap (with_parts c.args.names.now (parts_after 38 (shown c.cut.result.1))) c.in_err-given.was ∙ stops c.args.names.now _)

pub parts-smaller : goal.parts-smaller
parts-smaller c = rw c.in-Some-rest.is (smaller c.cut.result.1 (length c.in-Some-rest.text.now) c.cut.ensures.shorter)

pub parts-preserved : goal.parts-preserved
parts-preserved c =
    let all = step c.args.names.now (shown c.parts.rest) c.in-Some-rest.text.now _ _ c.parts.given c.with_part.result (ap shown c.in-Some-rest.is) c.cut.ensures.front c.cut.ensures.rest c.with_part.ensures in
    c.parts.invariant ∙ all ∙ ap (with_parts c.args.names.now (parts_after 38 (shown c.cut.result.1))) c.in_ok-given.was
