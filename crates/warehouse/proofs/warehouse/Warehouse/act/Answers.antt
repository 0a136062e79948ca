use Rattle.std.proofs.Common.{[], sym, subst}
use Rattle.run_stores.specs.Calls.{IsFaithful}
use Rattle.histories.specs.Requests.{command_read}
use Rattle.histories.specs.Answered.{Answers}
use Rattle.requests.specs.Plain.{plain_command}
use Rattle.warehouse.specs.Answered.{IsShortFor}
use Rattle.warehouse.specs.FromTables.{IsFoundOf}
use Rattle.warehouse.proofs.warehouse.Warehouse.act.Goals as goal

pub returns-in-Remove-clause-answered : goal.returns-in-Remove-clause-answered
returns-in-Remove-clause-answered g c =
    subst (λ k. IsFaithful g.S.StoreState c.remove_in.new.store → Answers g.S.StoreState c.args.self.now.limits (command_read (plain_command k) []) c.remove_in.result c.args.self.now.store c.remove_in.new.store) (sym c.in-Remove.is) (c.remove_in.ensures.answered c.args.self.now.limits)

pub returns-in-Remove-clause-found : goal.returns-in-Remove-clause-found
returns-in-Remove-clause-found g c = subst (λ k. IsFoundOf g.S.StoreState c.args.self.now.limits (plain_command k) c.remove_in.result c.args.self.now.store c.remove_in.new.store) (sym c.in-Remove.is) c.remove_in.ensures.found

pub returns-in-Remove-clause-short : goal.returns-in-Remove-clause-short
returns-in-Remove-clause-short g c = subst (λ k. IsShortFor c.args.self.now.most k c.remove_in.result) (sym c.in-Remove.is) tt

pub returns-in-MakeGroup-clause-answered : goal.returns-in-MakeGroup-clause-answered
returns-in-MakeGroup-clause-answered g c =
    subst (λ k. IsFaithful g.S.StoreState c.change_in.new.store → Answers g.S.StoreState c.args.self.now.limits (command_read (plain_command k) []) c.change_in.result c.args.self.now.store c.change_in.new.store) (sym c.in-MakeGroup.is) c.change_in.ensures.answered

pub returns-in-MakeGroup-clause-found : goal.returns-in-MakeGroup-clause-found
returns-in-MakeGroup-clause-found g c = subst (λ k. IsFoundOf g.S.StoreState c.args.self.now.limits (plain_command k) c.change_in.result c.args.self.now.store c.change_in.new.store) (sym c.in-MakeGroup.is) c.change_in.ensures.found

pub returns-in-MakeGroup-clause-short : goal.returns-in-MakeGroup-clause-short
returns-in-MakeGroup-clause-short g c = subst (λ k. IsShortFor c.args.self.now.most k c.change_in.result) (sym c.in-MakeGroup.is) tt

pub returns-in-DropGroup-clause-answered : goal.returns-in-DropGroup-clause-answered
returns-in-DropGroup-clause-answered g c =
    subst (λ k. IsFaithful g.S.StoreState c.change_in-in-DropGroup.new.store → Answers g.S.StoreState c.args.self.now.limits (command_read (plain_command k) []) c.change_in-in-DropGroup.result c.args.self.now.store c.change_in-in-DropGroup.new.store) (sym c.in-DropGroup.is) c.change_in-in-DropGroup.ensures.answered

pub returns-in-DropGroup-clause-found : goal.returns-in-DropGroup-clause-found
returns-in-DropGroup-clause-found g c = subst (λ k. IsFoundOf g.S.StoreState c.args.self.now.limits (plain_command k) c.change_in-in-DropGroup.result c.args.self.now.store c.change_in-in-DropGroup.new.store) (sym c.in-DropGroup.is) c.change_in-in-DropGroup.ensures.found

pub returns-in-DropGroup-clause-short : goal.returns-in-DropGroup-clause-short
returns-in-DropGroup-clause-short g c = subst (λ k. IsShortFor c.args.self.now.most k c.change_in-in-DropGroup.result) (sym c.in-DropGroup.is) tt

pub returns-in-Join-clause-answered : goal.returns-in-Join-clause-answered
returns-in-Join-clause-answered g c =
    subst (λ k. IsFaithful g.S.StoreState c.change_in-in-Join.new.store → Answers g.S.StoreState c.args.self.now.limits (command_read (plain_command k) []) c.change_in-in-Join.result c.args.self.now.store c.change_in-in-Join.new.store) (sym c.in-Join.is) c.change_in-in-Join.ensures.answered

pub returns-in-Join-clause-found : goal.returns-in-Join-clause-found
returns-in-Join-clause-found g c = subst (λ k. IsFoundOf g.S.StoreState c.args.self.now.limits (plain_command k) c.change_in-in-Join.result c.args.self.now.store c.change_in-in-Join.new.store) (sym c.in-Join.is) c.change_in-in-Join.ensures.found

pub returns-in-Join-clause-short : goal.returns-in-Join-clause-short
returns-in-Join-clause-short g c = subst (λ k. IsShortFor c.args.self.now.most k c.change_in-in-Join.result) (sym c.in-Join.is) tt

pub returns-in-Leave-clause-answered : goal.returns-in-Leave-clause-answered
returns-in-Leave-clause-answered g c =
    subst (λ k. IsFaithful g.S.StoreState c.change_in-in-Leave.new.store → Answers g.S.StoreState c.args.self.now.limits (command_read (plain_command k) []) c.change_in-in-Leave.result c.args.self.now.store c.change_in-in-Leave.new.store) (sym c.in-Leave.is) c.change_in-in-Leave.ensures.answered

pub returns-in-Leave-clause-found : goal.returns-in-Leave-clause-found
returns-in-Leave-clause-found g c = subst (λ k. IsFoundOf g.S.StoreState c.args.self.now.limits (plain_command k) c.change_in-in-Leave.result c.args.self.now.store c.change_in-in-Leave.new.store) (sym c.in-Leave.is) c.change_in-in-Leave.ensures.found

pub returns-in-Leave-clause-short : goal.returns-in-Leave-clause-short
returns-in-Leave-clause-short g c = subst (λ k. IsShortFor c.args.self.now.most k c.change_in-in-Leave.result) (sym c.in-Leave.is) tt

pub returns-in-SetBaseline-clause-answered : goal.returns-in-SetBaseline-clause-answered
returns-in-SetBaseline-clause-answered g c =
    subst (λ k. IsFaithful g.S.StoreState c.change_in-in-SetBaseline.new.store → Answers g.S.StoreState c.args.self.now.limits (command_read (plain_command k) []) c.change_in-in-SetBaseline.result c.args.self.now.store c.change_in-in-SetBaseline.new.store) (sym c.in-SetBaseline.is) c.change_in-in-SetBaseline.ensures.answered

pub returns-in-SetBaseline-clause-found : goal.returns-in-SetBaseline-clause-found
returns-in-SetBaseline-clause-found g c = subst (λ k. IsFoundOf g.S.StoreState c.args.self.now.limits (plain_command k) c.change_in-in-SetBaseline.result c.args.self.now.store c.change_in-in-SetBaseline.new.store) (sym c.in-SetBaseline.is) c.change_in-in-SetBaseline.ensures.found

pub returns-in-SetBaseline-clause-short : goal.returns-in-SetBaseline-clause-short
returns-in-SetBaseline-clause-short g c = subst (λ k. IsShortFor c.args.self.now.most k c.change_in-in-SetBaseline.result) (sym c.in-SetBaseline.is) tt

pub returns-in-Ask-clause-answered : goal.returns-in-Ask-clause-answered
returns-in-Ask-clause-answered g c =
    subst (λ k. IsFaithful g.S.StoreState c.ask.new.self.store → Answers g.S.StoreState c.args.self.now.limits (command_read (plain_command k) []) c.ask.result c.args.self.now.store c.ask.new.self.store) (sym c.in-Ask.is) (c.ask.ensures.answered)

pub returns-in-Ask-clause-found : goal.returns-in-Ask-clause-found
returns-in-Ask-clause-found g c = subst (λ k. IsFoundOf g.S.StoreState c.args.self.now.limits (plain_command k) c.ask.result c.args.self.now.store c.ask.new.self.store) (sym c.in-Ask.is) c.ask.ensures.found

pub returns-in-Ask-clause-short : goal.returns-in-Ask-clause-short
returns-in-Ask-clause-short g c = subst (λ k. IsShortFor c.args.self.now.most k c.ask.result) (sym c.in-Ask.is) c.ask.ensures.short
