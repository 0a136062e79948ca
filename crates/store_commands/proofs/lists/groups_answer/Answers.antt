use Rattle.std.proofs.Common.{refl}
use Rattle.histories.proofs.Questions.{asked_once}
use Rattle.store_commands.proofs.ListLemmas.{groups_are_expected}
use Rattle.store_commands.proofs.lists.groups_answer.Goals as goal

pub returns : goal.returns
returns g c clean = asked_once g.S.StoreState _ _ groups_are_expected _ _ _ refl (c.in_ok-text.ensures.asks clean) (λ t represents. (c.in_ok-text.text, c.in_ok-text.ensures.told clean t represents, refl))
