use Rattle.std.proofs.Common.{◌≡◌, ◌≤◌, length, sum, Some, None, sym, ap, ◌∙◌}
use Rattle.std.specs.Str.{bytes_eq}
use Rattle.cg_formulas.proofs.FlatLemmas.{lookup-has, value-event, value-derived}
use Rattle.cg_formulas.proofs.flats.Flat.value.Goals as goal

pub returns-in-Some : goal.returns-in-Some
returns-in-Some c = ap Some c.from.ensures ∙ value-event c.args.self.now c.args.name.now c.args.costs.now c.in-Some.at c.args.self.now.distinct (sym c.event_at.ensures ∙ c.in-Some.is) c.requires.one_each

pub returns-in_err-coefficients : goal.returns-in_err-coefficients
returns-in_err-coefficients c = c.from_residual.ensures ∙ value-derived c.args.self.now c.args.name.now c.args.costs.now None (sym c.event_at.ensures ∙ c.in_default.is) (sym c.in_err-coefficients.ensures)

pub weighed-requires-clause-one_each : goal.weighed-requires-clause-one_each
weighed-requires-clause-one_each c =
    lookup-has c.args.self.now.derived (bytes_eq c.args.name.now) (λ row. length row ≡ length c.args.self.now.events) c.in_ok-coefficients.coefficients.now c.args.self.now.shape (sym c.in_ok-coefficients.ensures)
    ∙ sym c.requires.one_each

pub weighed-requires-clause-few : goal.weighed-requires-clause-few
weighed-requires-clause-few c = lookup-has c.args.self.now.derived (bytes_eq c.args.name.now) (λ row. sum row ≤ 1000000) c.in_ok-coefficients.coefficients.now c.args.self.now.small (sym c.in_ok-coefficients.ensures)

pub returns : goal.returns
returns c = ap Some c.weighed.ensures ∙ value-derived c.args.self.now c.args.name.now c.args.costs.now (Some c.in_ok-coefficients.coefficients.now) (sym c.event_at.ensures ∙ c.in_default.is) (sym c.in_ok-coefficients.ensures)
