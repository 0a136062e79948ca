use Rattle.std.proofs.Common.{refl, true, false, ◌≡◌}
use Rattle.page_runs.proofs.States.{StaysSame, asked_same}
use Rattle.page_runs.proofs.store.PageRuns.checkpoint.Goals as goal

pub returns-in-Ok : goal.returns-in-Ok
returns-in-Ok g c =
    let same : StaysSame _ _ = record {
      keeps = c.checkpoint.ensures.leaves.keeps;
      pages = λ faithful usable. c.checkpoint.ensures.pages faithful usable;
      rests = λ faithful usable wanted known db was. c.checkpoint.ensures.rests faithful usable wanted known db was;
    } in
    asked_same _ _ same refl refl refl true (λ _. c.in-Ok.ensures.leaves.usable)

pub returns-in-Err : goal.returns-in-Err
returns-in-Err g c =
    let same : StaysSame _ _ = record {
      keeps = c.checkpoint.ensures.leaves.keeps;
      pages = λ faithful usable. c.checkpoint.ensures.pages faithful usable;
      rests = λ faithful usable wanted known db was. c.checkpoint.ensures.rests faithful usable wanted known db was;
    } in
    asked_same _ _ same refl refl refl false (λ (none : false ≡ true). absurd cc)
