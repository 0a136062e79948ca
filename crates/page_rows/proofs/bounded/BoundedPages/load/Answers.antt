use Rattle.std.proofs.Common.{arith, refl, ◌∙◌}
use Rattle.page_rows.specs.LoadLaws.{asks_nothing, asks_once}
use Rattle.page_rows.proofs.bounded.BoundedPages.load.Goals as goal

pub returns-in_err-begin-clause-steps : goal.returns-in_err-begin-clause-steps
returns-in_err-begin-clause-steps g c =
    record { same_size = refl; more_faults = omega arith; clean = omega arith; in_order = (refl, refl, asks_nothing _ _ _ c.in_err-begin.ensures.refused.1, g.met.P.Pages.follows_refl _) }

pub returns-in_err-load-clause-steps : goal.returns-in_err-load-clause-steps
returns-in_err-load-clause-steps g c =
    let steps = c.load.ensures.steps in
    record {
      same_size = steps.same_size;
      more_faults = steps.more_faults;
      clean = steps.clean;
      in_order = (refl, refl, asks_once _ _ _ _ c.begin.ensures.bounds.0 c.begin.ensures.bounds.1 c.in_ok-begin.ensures.begun.1, steps.in_order);
    }

pub returns-clause-steps : goal.returns-clause-steps
returns-clause-steps g c =
    let steps = c.load.ensures.steps in
    record {
      same_size = steps.same_size;
      more_faults = steps.more_faults;
      clean = steps.clean;
      in_order = (
        refl,
        refl,
        asks_once _ _ _ _ (c.count.ensures.bounds.0 ∙ c.begin.ensures.bounds.0) (c.count.ensures.bounds.1 ∙ c.begin.ensures.bounds.1)
            (c.count.ensures.asked ∙ c.in_ok-begin.ensures.begun.1),
        steps.in_order,
      );
    }
