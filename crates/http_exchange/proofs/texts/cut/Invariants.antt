use Rattle.std.proofs.Common.{◌≡◌, ◌++◌, take, drop}
use Rattle.http_exchange.specs.Texts.{front_of, rest_of}
use Rattle.http_exchange.proofs.texts.cut.Given as goal

abbrev pub invariant-loop-index : goal.invariant-loop-index
invariant-loop-index l = (front_of l.mark l.text ≡ take l.index l.text ++ front_of l.mark (drop l.index l.text)) × (rest_of l.mark l.text ≡ rest_of l.mark (drop l.index l.text))
