use Rattle.std.proofs.Common.{rules, ◌≡◌, [], Some, sym, ap, ◌∙◌}
use Rattle.cg_formulas.specs.Formulas.{coefficients}
use Rattle.cg_formulas.proofs.FlatLemmas.{row-other, row-own}
use Rattle.cg_formulas.proofs.flats.Flat.row.Goals as goal

pub returns-in-Some : goal.returns-in-Some
returns-in-Some c =
    let own : c.in_ok-own_row.field-0 ≡ coefficients c.args.self.now.events c.args.name.now [] = search rules in
    ap Some own ∙ sym (row-own c.args.self.now c.args.name.now c.in-Some._at (sym c.event_at.ensures ∙ c.in-Some.is))

pub returns-in_ok-to_vec-in-Some-coefficients : goal.returns-in_ok-to_vec-in-Some-coefficients
returns-in_ok-to_vec-in-Some-coefficients c =
    let copied : c.from_vec.result ≡ c.in-Some-coefficients.row.now = search rules in
    let other = row-other c.args.self.now c.args.name.now (sym c.event_at.ensures ∙ c.in_default.is) in
    ap Some copied ∙ sym (other ∙ sym (rw c.in-Some-coefficients.is at c.coefficients.ensures))

pub returns-in-None : goal.returns-in-None
returns-in-None c =
    let other = row-other c.args.self.now c.args.name.now (sym c.event_at.ensures ∙ c.in_default.is) in
    sym (other ∙ sym (rw c.in-None.is at c.coefficients.ensures))
