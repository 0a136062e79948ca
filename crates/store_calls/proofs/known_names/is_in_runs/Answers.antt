use Rattle.std.proofs.Common.{false}
use Rattle.histories.proofs.Questions.{if_ok_so}
use Rattle.store_calls.specs.FunctionCalls.{is_in_rows}
use Rattle.store_calls.specs.KeptCalls.{spot_asked}
use Rattle.store_calls.proofs.FunctionLemmas.{seen_added}
use Rattle.store_calls.proofs.known_names.is_in_runs.Goals as goal

pub returns-clause-told : goal.returns-clause-told
returns-clause-told g c clean t represents =
    let is_in = is_in_rows t (spot_asked c.args.asked.now) in
    if_ok_so c.fold_runs.result (λ found added is. seen_added is_in is c.args.runs.now false found added) (c.fold_runs.ensures.told clean t represents)
