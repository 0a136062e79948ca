use Rattle.store_calls.specs.KeptCalls.{kept_of}
use Rattle.store_calls.proofs.KeptLemmas.{calls_kept}
use Rattle.store_calls.proofs.calling.CallsOfRunsRunFold.add.Goals as goal

pub returns-clause-told : goal.returns-clause-told
returns-clause-told g c clean t represents is =
    calls_kept t c.args.self.now.asked.now c.args.run.now c.event_counts.result.now (kept_of c.args.calls) _ c.event_counts.ensures is (c.in_ok-all.ensures.told clean t represents)
