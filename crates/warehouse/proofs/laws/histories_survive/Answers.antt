use Rattle.histories.proofs.Steps.{tell_nothing}
use Rattle.plain_tables.specs.Tables.{new_tables}
use Rattle.warehouse.proofs.laws.histories_survive.Goals as goal

pub returns-clause-new : goal.returns-clause-new
returns-clause-new g c store represents = record {
  legal = tt;
  represents = λ usable. record { t = new_tables; represents = represents; agrees = tell_nothing };
}

pub returns-clause-opened : goal.returns-clause-opened
returns-clause-opened g c h t store agrees represents = record {
  legal = agrees.legal;
  represents = λ usable. record { t = t; represents = represents; agrees = agrees };
}

pub returns-clause-survives : goal.returns-clause-survives
returns-clause-survives g c h store has usable left may = let is = has.represents usable in record { t = is.t; holds = is.agrees; is = g.met.S.RunStore.survives is.t store left is.represents may }

pub returns-clause-durable : goal.returns-clause-durable
returns-clause-durable g c limits command answer h old new answered accepted has left may =
    let is = (answered.answered h has).after.represents (answered.stepped.stays.is_usable accepted) in record { t = is.t; holds = is.agrees; is = g.met.S.RunStore.survives is.t new left is.represents may }
