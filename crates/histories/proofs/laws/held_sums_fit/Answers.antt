use Rattle.histories.proofs.Fits.{sums_fit}
use Rattle.histories.proofs.laws.held_sums_fit.Goals as goal

pub returns : goal.returns
returns c = sums_fit
