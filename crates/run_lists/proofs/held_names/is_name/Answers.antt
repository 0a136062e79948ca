use Rattle.std.proofs.Common.{arith}
use Rattle.run_lists.proofs.NumbersOfNames.{bytes_name}
use Rattle.run_lists.proofs.held_names.is_name.Goals as goal

pub returns : goal.returns
returns c = bytes_name c.args.bytes.now (λ i. let fits = (c.type_inv.bytes i).fits in omega (arith, fits))
