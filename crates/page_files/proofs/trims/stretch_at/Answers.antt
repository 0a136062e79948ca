use Rattle.std.proofs.Common.{arith}
use Rattle.page_files.proofs.trims.stretch_at.Goals as goal

pub loop-i-init : goal.loop-i-init
loop-i-init g c = record { few = omega arith; going = λ form part page tree is k below. absurd (omega arith) }
