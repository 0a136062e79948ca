use Rattle.std.proofs.Common.{rules, ◌≡◌, ◌+◌, length, sym, ◌∙◌, slice_index}
use Rattle.std.specs.Str.{bytes_eq}
use Rattle.std.proofs.lemmas.Bool.{or_left, or_right, or_from}
use Rattle.cg_formulas.specs.Rows.{capped}
use Rattle.cg_formulas.proofs.FlatLemmas.{lookup-has, found-any, found-none, derived-some, derived-none, row-event, row-derived}
use Rattle.cg_formulas.proofs.flats.Flat.add_term.Goals as goal

pub returns-in-Some-clause-known : goal.returns-in-Some-clause-known
returns-in-Some-clause-known c back flattens = sym (or_left _ _ (found-any c.args.name.now c.args.self.now.events c.in-Some.at (sym c.event_at.ensures ∙ c.in-Some.is)))

pub returns-in-Some-clause-counts : goal.returns-in-Some-clause-counts
returns-in-Some-clause-counts c known back count flattens row =
    let value : c.saturating_add.result ≡ capped (slice_index c.args.row.now c.in-Some.at + c.args.number) = search rules in
    row-event c.args.self.now back flattens c.args.row.now count row c.args.name.now c.in-Some.at c.args.number c.saturating_add.result (sym c.event_at.ensures ∙ c.in-Some.is) value c.args.self.now.distinct

pub returns-in_default-coefficients-clause-known :
    goal.returns-in_default-coefficients-clause-known
returns-in_default-coefficients-clause-known c back flattens =
    sym (or_from _ _ (found-none c.args.name.now c.args.self.now.events (sym c.event_at.ensures ∙ c.in_default.is)) (derived-none c.args.self.now back flattens c.args.name.now (sym c.in_default-coefficients.ensures)))

pub add_times-requires : goal.add_times-requires
add_times-requires c = lookup-has c.args.self.now.derived (bytes_eq c.args.name.now) (λ row. length row ≡ length c.args.self.now.events) c.in-Some-coefficients.coefficients.now c.args.self.now.shape (sym c.in-Some-coefficients.ensures) ∙ sym c.requires

pub returns-clause-known : goal.returns-clause-known
returns-clause-known c back flattens =
    sym (or_right _ _ (derived-some c.args.self.now back flattens c.args.name.now c.in-Some-coefficients.coefficients.now (sym c.in-Some-coefficients.ensures)).0)

pub returns-clause-counts : goal.returns-clause-counts
returns-clause-counts c known back count flattens row =
    let found = derived-some c.args.self.now back flattens c.args.name.now c.in-Some-coefficients.coefficients.now (sym c.in-Some-coefficients.ensures) in
    row-derived c.args.self.now back c.args.row.now c.add_times.new.row c.in-Some-coefficients.coefficients.now count row c.args.name.now c.args.number found.1 c.add_times.ensures.wide c.add_times.ensures.sums
