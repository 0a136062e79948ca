use Rattle.std.proofs.Common.{arith}
use Rattle.callgrind_reader.proofs.reader.Reader.new.Goals as goal

pub returns-clause-takes : goal.returns-clause-takes
returns-clause-takes c = λ last known first nothing. (
  omega (arith, first),
  tt,
  record { still = λ space mark text is. absurd (nothing space mark text is) },
)
