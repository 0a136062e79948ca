use Rattle.std.proofs.Common.{arith, refl}
use Rattle.page_rows.specs.LoadLaws.{Asks-refl}
use Rattle.page_rows.proofs.bounded.BoundedPages.write.Goals as goal

pub returns-clause-steps : goal.returns-clause-steps
returns-clause-steps g c =
    record { same_size = refl; more_faults = omega arith; clean = omega arith; in_order = (refl, refl, Asks-refl _ _, g.met.P.Pages.follows_refl _) }
