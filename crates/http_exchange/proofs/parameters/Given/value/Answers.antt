use Rattle.std.proofs.Common.{None, sym}
use Rattle.std.proofs.Math.ListN.{get_or-map}
use Rattle.http_exchange.specs.Texts.{shown}
use Rattle.http_exchange.proofs.parameters.Given.value.Goals as goal

pub returns : goal.returns
returns c = rw (c.index.ensures.index, ← c.self.view_is) (sym (get_or-map shown c.self.inside.values _ None))
