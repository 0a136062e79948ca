use Rattle.callgrind_reader.proofs.TotalsLemmas.{stated_refused}
use Rattle.callgrind_reader.proofs.header.Header.stated_line.Goals as goal

pub returns-else-is_none-clause-takes : goal.returns-else-is_none-clause-takes
returns-else-is_none-clause-takes c = λ line. stated_refused line c.args.key c.args.value.now c.push_amounts.new.row.items c.clear.new.self.items c.args.self.now _ c.in_ok-fault.fault c.in_ok-fault.ensures.value c.if-is_none.ensures
