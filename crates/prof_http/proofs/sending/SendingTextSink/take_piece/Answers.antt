use Rattle.std.proofs.Common.{true, false, refl}
use Rattle.http_exchange.proofs.Steps.{cut_first}
use Rattle.prof_http.proofs.SendingLemmas.{join}
use Rattle.prof_http.proofs.sending.SendingTextSink.take_piece.Goals as goal

pub returns-then-not-write_all : goal.returns-then-not-write_all
returns-then-not-write_all g c = let one = c.if-not-write_all.ensures in (one.0, one.1, cut_first c.args.self.now.head.now c.args.piece.now one.0 one.2)

pub returns-then-not-write_all-2 : goal.returns-then-not-write_all-2
returns-then-not-write_all-2 g c = join g.T.Stream.writes false c.args.self.now.stream c.write_all.new.stream c.write_all-2.new.stream c.args.self.now.head.now c.args.piece.now c.if-not-write_all.ensures c.if-not-write_all-2.ensures

pub returns : goal.returns
returns g c = (join g.T.Stream.writes true c.args.self.now.stream c.write_all.new.stream c.write_all-2.new.stream c.args.self.now.head.now c.args.piece.now c.if-not-write_all.ensures c.if-not-write_all-2.ensures, refl)
