use Rattle.std.proofs.Common.{◌++◌}
use Rattle.http_exchange.proofs.Steps.{wrote_join, cut_first, went_join}
use Rattle.http_exchange.proofs.sending.write_two.Goals as goal

pub returns-then-not-write_all : goal.returns-then-not-write_all
returns-then-not-write_all g c =
    let one = c.if-not-write_all.ensures in (one.0, one.1, cut_first c.args.first.now c.args.second.now one.0 one.2)

pub returns : goal.returns
returns g c =
    let one = c.if-not-write_all.ensures in
    let two = c.write_all-2.ensures in (
      one.0 ++ two.0,
      wrote_join g.T.Stream.writes c.args.stream.now c.write_all.new.stream c.write_all-2.new.stream one.0 two.0 one.1 two.1,
      went_join c.write_all-2.result c.args.first.now c.args.second.now one.0 two.0 one.2 two.2,
    )
