use Rattle.std.proofs.Common.{Option, Some, None, IfSome}
use Rattle.page_runs.proofs.Begins.{earlier_found}
use Rattle.page_lists.proofs.RunRows.{earlier_from_least}
use Rattle.page_lists.proofs.Shows.{all_from_least}
use Rattle.page_runs.proofs.places.proved_place.Goals as goal

if_some : {T : Type 0} (o : Option T) (P R : T → Type 0) → ((x : T) → P x → R x) → IfSome o P → IfSome o R
if_some (Some x) P R so p = so x p
if_some None P R so p = tt

pub returns-in_default-clause-earlier : goal.returns-in_default-clause-earlier
returns-in_default-clause-earlier g c faithful = λ rows is order. earlier_from_least _ _ rows (all_from_least _ _ rows is)

pub returns-clause-earlier : goal.returns-clause-earlier
returns-clause-earlier g c faithful = λ rows is order.
    if_some c.behind_earlier.result _ _ (λ next behind. earlier_found _ _ rows is c.args.run _ next _ order (c.in_ok-found.ensures.found faithful rows is) behind) c.behind_earlier.ensures.behind
