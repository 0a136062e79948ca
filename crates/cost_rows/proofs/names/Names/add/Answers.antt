use Rattle.std.proofs.Common.{◌≡◌, ◌<◌, ◌^◌, ◌++◌, ◌∷◌, [], List, ℕ, None, Some, length, sym, ◌∙◌, ap, subst, arith}
use Rattle.cost_rows.specs.Naming.{place_of}
use Rattle.cost_rows.specs.Numbered.{IsFoundAt, IsNumbered}
use Rattle.cost_rows.proofs.NumberedLemmas.{kept-numbered, one-numbered}
use Rattle.cost_rows.proofs.NamingLemmas.{place-new, with-new}
use Rattle.cost_rows.proofs.names.Names.add.Goals as goal

pub invariant_of-self : goal.invariant_of-self
invariant_of-self c =
    let absent : place_of c.args.name.now c.self.inside.names ≡ None = ap (place_of c.args.name.now) c.self.view_is ∙ c.requires.new in
    kept-numbered c.self.inside.names c.args.name.now c.self.inside.hashes c.self.inside.others c.index.new.hashes c.index.new.others c.self.invariant absent c.index.ensures.kept

pub invariant_of-self-in_err-push : goal.invariant_of-self-in_err-push
invariant_of-self-in_err-push c =
    let absent : place_of c.args.name.now c.self.inside.names ≡ None = ap (place_of c.args.name.now) c.self.view_is ∙ c.requires.new in
    subst (λ names. IsNumbered names c.index.new.hashes c.index.new.others) (sym c.in_err-push.ensures.err)
    (kept-numbered c.self.inside.names c.args.name.now c.self.inside.hashes c.self.inside.others c.index.new.hashes c.index.new.others c.self.invariant absent c.index.ensures.kept)

pub invariant_of-self-2 : goal.invariant_of-self-2
invariant_of-self-2 c =
    let name : List ℕ = c.args.name.now in
    let absent : place_of name c.self.inside.names ≡ None = ap (place_of name) c.self.view_is ∙ c.requires.new in
    let small : length c.self.inside.names < 2 ^ 32 = omega (arith, ap length c.self.view_is, c.len.ensures.len, c.in-Ok.ensures.0, c.in-Ok.ensures.1) in
    let last : c.in-Ok.number ≡ length c.self.inside.names = omega (arith, ap length c.self.view_is, c.len.ensures.len, c.in-Ok.ensures.1) in
    let found : IsFoundAt name (length c.self.inside.names) c.index.new.hashes c.index.new.others = subst (λ n. IsFoundAt name n c.index.new.hashes c.index.new.others) last c.in_ok-index.ensures.found in
    subst (λ names. IsNumbered names c.index.new.hashes c.index.new.others) (sym c.in_ok-push.ensures.ok)
    (one-numbered c.self.inside.names name c.index.new.hashes c.index.new.others
    (kept-numbered c.self.inside.names name c.self.inside.hashes c.self.inside.others c.index.new.hashes c.index.new.others c.self.invariant absent c.index.ensures.kept)
    absent small found)

pub returns : goal.returns
returns c =
    let name : List ℕ = c.args.name.now in
    let pushed : c.push.new.self ≡ c.args.self.now ++ name ∷ [] = c.in_ok-push.ensures.ok ∙ ap (λ ns. ns ++ name ∷ []) c.self.view_is in
    let last : length c.args.self.now ≡ c.in-Ok.number = omega (arith, c.len.ensures.len, c.in-Ok.ensures.1) in (
      ap (place_of name) pushed ∙ place-new c.args.self.now name c.requires.new ∙ ap Some last,
      pushed ∙ sym (with-new c.args.self.now name c.requires.new),
    )
