use Rattle.histories.proofs.Invariants.{members_held, baseline_held, groups_named}
use Rattle.histories.proofs.laws.members_and_baselines_are_held.Goals as goal

pub returns : goal.returns
returns c = λ h is. record { members = members_held h is; baselines = baseline_held h is; names = (groups_named h is).form }
