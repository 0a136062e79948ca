use Rattle.std.proofs.Common.{[]}
use Rattle.file_reading.specs.Running.{HasTaken}
use Rattle.file_reading.proofs.total.total_text.Goals as goal

pub finish-requires : goal.finish-requires
finish-requires c = let took : HasTaken c.feed.new.self c.args.bytes.now = c.in-Ok.ensures tt [] c.in_ok-total.ensures in took.ready

pub returns-in-Ok : goal.returns-in-Ok
returns-in-Ok c = let took : HasTaken c.feed.new.self c.args.bytes.now = c.in-Ok.ensures tt [] c.in_ok-total.ensures in c.finish.ensures c.args.bytes.now took.sums
