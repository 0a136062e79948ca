use Rattle.std.specs.Fmt.{decimal}
use Rattle.std.proofs.Common.{◌≡◌, Ok, true, false, sym, ap, ◌∙◌, arith}
use Rattle.std.proofs.lemmas.Fmt.{parse-decimal_wide}
use Rattle.std.proofs.lemmas.Slice.Eq.{bytes_eq-Decides}
use Rattle.run_lists.proofs.heads_held.decimal_in.Goals as goal

pub returns-in_default-clause-serves : goal.returns-in_default-clause-serves
returns-in_default-clause-serves c = λ number small is.
    let read : c.parse.result ≡ Ok number = parse-decimal_wide 128 number c.args.text.now c.parse.result small (omega (arith, small)) (sym is) c.parse.ensures.value.0 in
    absurd (c.in_default.not-Ok number read)

pub returns-clause-serves : goal.returns-clause-serves
returns-clause-serves c = λ number small is.
    let read : c.parse.result ≡ Ok number = parse-decimal_wide 128 number c.args.text.now c.parse.result small (omega (arith, small)) (sym is) c.parse.ensures.value.0 in
    let both = sym c.in-Ok.is ∙ read in
    let same : c.in-Ok.number ≡ number = cc in
    let again = c.as_str.ensures.value ∙ c.in-Ok-format.ensures.ok ∙ ap decimal same ∙ is in
    let never : false ≡ true = c.if-eq.ensures ∙ (bytes_eq-Decides c.as_str.result.now c.args.text.now).1 again in
    absurd cc
