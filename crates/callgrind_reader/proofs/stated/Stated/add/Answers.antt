use Rattle.std.proofs.Common.{Ok, ◌∷◌, sym, subst}
use Rattle.cg_text.specs.Kinds.{Header}
use Rattle.callgrind_reader.specs.Totals.{header_key}
use Rattle.callgrind_reader.specs.Stated.{StatedIs}
use Rattle.callgrind_reader.proofs.TotalsLemmas.{added_totals, added_summary}
use Rattle.callgrind_reader.proofs.stated.Stated.add.Goals as goal

pub returns-in-Totals-clause-stated : goal.returns-in-Totals-clause-stated
returns-in-Totals-clause-stated c = λ back value said is.
    subst (λ key. StatedIs (record { totals = c.add.new.self; summary = c.args.self.now.summary }) (Ok (Header (header_key key) value) ∷ back)) (sym c.in-Totals.is)
    (added_totals back value c.args.amounts.now said c.args.self.now.totals c.add.new.self c.args.self.now.summary (record { sums = c.add.ensures.sums; lines = c.add.ensures.lines }) is)

pub returns-in-Summary-clause-stated : goal.returns-in-Summary-clause-stated
returns-in-Summary-clause-stated c = λ back value said is.
    subst (λ key. StatedIs (record { totals = c.args.self.now.totals; summary = c.add-in-Summary.new.self }) (Ok (Header (header_key key) value) ∷ back)) (sym c.in-Summary.is)
    (added_summary back value c.args.amounts.now said c.args.self.now.totals c.args.self.now.summary c.add-in-Summary.new.self (record { sums = c.add-in-Summary.ensures.sums; lines = c.add-in-Summary.ensures.lines }) is)
