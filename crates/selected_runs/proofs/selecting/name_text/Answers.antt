use Rattle.histories.proofs.Names.{group_utf8}
use Rattle.selected_runs.proofs.selecting.name_text.Goals as goal

pub returns-in-Err-clause-named : goal.returns-in-Err-clause-named
returns-in-Err-clause-named c named = absurd (c.in-Err.ensures.cases.0 (group_utf8 c.args.name.now named))
