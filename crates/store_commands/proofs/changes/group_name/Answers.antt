use Rattle.histories.proofs.Names.{group_utf8}
use Rattle.store_commands.proofs.changes.group_name.Goals as goal

pub returns-in-Err : goal.returns-in-Err
returns-in-Err c named = c.in-Err.ensures.cases.0 (group_utf8 c.args.bytes.now named)
