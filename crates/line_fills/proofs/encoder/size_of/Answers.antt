use Rattle.std.proofs.Common.{arith}
use Rattle.std.proofs.lemmas.Bool.Decides.{nat_tests}
use Rattle.sqlite_record.specs.Serial.{serial_size}
use Rattle.line_fills.proofs.encoder.size_of.Goals as goal

pub returns-in-5-clause-size : goal.returns-in-5-clause-size
unfolding serial_size
returns-in-5-clause-size c = grind (arith, nat_tests)

pub returns-in-0-to-4-clause-size : goal.returns-in-0-to-4-clause-size
unfolding serial_size
returns-in-0-to-4-clause-size c = grind (arith, nat_tests)

pub returns-in-6-clause-size : goal.returns-in-6-clause-size
unfolding serial_size
returns-in-6-clause-size c = grind (arith, nat_tests)

pub returns-in_default-clause-size : goal.returns-in_default-clause-size
unfolding serial_size
returns-in_default-clause-size c = grind (arith, nat_tests)
