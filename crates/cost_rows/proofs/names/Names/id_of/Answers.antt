use Rattle.std.proofs.Common.{◌≡◌, true, Some, sym, ◌∙◌, ap}
use Rattle.cg_text.specs.Distinct.{are_distinct}
use Rattle.cost_rows.specs.Naming.{place_of}
use Rattle.cost_rows.proofs.NamingLemmas.{with-held, distinct-after}
use Rattle.cost_rows.proofs.names.Names.id_of.Goals as goal

pub returns-in-Some-clause-number : goal.returns-in-Some-clause-number
returns-in-Some-clause-number c =
    let found : place_of c.args.name.now c.args.self.now ≡ Some c.in-Some.number = sym c.find_by.ensures ∙ c.in-Some.is in
    (found, sym (with-held c.args.self.now c.args.name.now c.in-Some.number found))

pub returns-clause-distinct : goal.returns-clause-distinct
returns-clause-distinct c =
    let distinct : are_distinct c.args.self.now ≡ true = ap are_distinct (sym c.self.view_is) ∙ c.self.invariant.distinct in
    distinct-after c.add.result c.args.self.now c.add.new.self c.args.name.now distinct c.add.ensures
