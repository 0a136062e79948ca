use Rattle.std.proofs.Common.{◌≡◌, Some, sym, ◌∙◌, ap}
use Rattle.cost_rows.specs.Naming.{place_of}
use Rattle.cost_rows.proofs.NamingLemmas.{place_at, with-held, same_bytes}
use Rattle.cost_rows.proofs.numbering.number.Goals as goal

found : (c : goal.Then-eq) → place_of c.args.name.now c.args.names.now ≡ Some c.args.guess
found c =
    place_at c.args.names.now c.args.name.now c.args.guess c.len.ensures.distinct
    (c.name.ensures ∙ ap Some (same_bytes c.name.result.now c.args.name.now (sym c.if-eq.ensures)))

pub returns-then-eq : goal.returns-then-eq
returns-then-eq c = (found c, sym (with-held c.args.names.now c.args.name.now c.args.guess (found c)))
