use Rattle.std.proofs.Common.{subst, sym}
use Rattle.cost_rows.specs.Numbered.{IsNumbered}
use Rattle.cost_rows.proofs.NumberedLemmas.{first-numbered}
use Rattle.cost_rows.proofs.names.Names.truncate.Goals as goal

pub invariant_of-self : goal.invariant_of-self
invariant_of-self c =
    subst (λ names. IsNumbered names c.self.inside.hashes c.self.inside.others) (sym c.truncate.ensures)
    (first-numbered c.self.inside.names c.args.len c.self.inside.hashes c.self.inside.others c.self.invariant)
