use Rattle.histories.proofs.Left.{left_after, left_standing}
use Rattle.warehouse.proofs.laws.crashes_leave_a_history.Goals as goal

pub returns-clause-represents : goal.returns-clause-represents
returns-clause-represents g c limits h store represents = left_standing g.S.StoreState limits g.met.S.RunStore.survives h store represents

pub returns-clause-goes_on : goal.returns-clause-goes_on
returns-clause-goes_on g c limits h steps old new has was links = left_after g.S.StoreState limits g.met.S.RunStore.survives h steps old new has was links
