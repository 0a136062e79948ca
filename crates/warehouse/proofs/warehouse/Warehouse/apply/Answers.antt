use Rattle.std.proofs.Common.{[], refl, rules, sym, subst}
use Rattle.histories.specs.Requests.{command_read}
use Rattle.run_stores.specs.Calls.{IsFaithful}
use Rattle.histories.specs.Answered.{Answers}
use Rattle.requests.specs.Plain.{plain_command}
use Rattle.warehouse.specs.Answered.{IsShortFor, ReadsNone, Says}
use Rattle.warehouse.specs.FromTables.{IsFoundWithSource}
use Rattle.warehouse.proofs.NoneLemmas.{found_in, says_none}
use Rattle.warehouse.proofs.warehouse.Warehouse.apply.Goals as goal

pub returns-in-Import-clause-answered : goal.returns-in-Import-clause-answered
returns-in-Import-clause-answered g c =
    let it = c.import.ensures.answered in record {
      command = command_read (plain_command c.args.command) it.outcomes;
      says = subst (λ k. Says g.R.Source.reads k (command_read (plain_command k) it.outcomes)) (sym c.in-Import.is) (it.outcomes, c.import.new.source, it.came, refl);
      answers = subst (λ k. IsFaithful g.S.StoreState c.import.new.self.store → Answers g.S.StoreState c.args.self.now.limits (command_read (plain_command k) it.outcomes) c.import.result c.args.self.now.store c.import.new.self.store) (sym c.in-Import.is) it.answers;
    }

pub returns-in-Import-clause-found : goal.returns-in-Import-clause-found
returns-in-Import-clause-found g c =
    subst (λ k. IsFoundWithSource g.S.StoreState g.R.Source.reads c.args.self.now.limits k c.import.result c.args.self.now.store c.import.new.self.store) (sym c.in-Import.is) (c.import.new.source, c.import.ensures.found)

pub returns-in-Import-clause-short : goal.returns-in-Import-clause-short
returns-in-Import-clause-short g c = subst (λ k. IsShortFor c.args.self.now.most k c.import.result) (sym c.in-Import.is) tt

pub returns-in-Annotate-clause-answered : goal.returns-in-Annotate-clause-answered
returns-in-Annotate-clause-answered g c =
    let it = c.annotate_in.ensures.answered c.args.self.now.limits in record {
      command = command_read (plain_command c.args.command) it.outcomes;
      says = subst (λ k. Says g.R.Source.reads k (command_read (plain_command k) it.outcomes)) (sym c.in-Annotate.is) (it.outcomes, c.annotate_in.new.source, it.came, refl);
      answers = subst (λ k. IsFaithful g.S.StoreState c.annotate_in.new.store → Answers g.S.StoreState c.args.self.now.limits (command_read (plain_command k) it.outcomes) c.annotate_in.result c.args.self.now.store c.annotate_in.new.store) (sym c.in-Annotate.is) it.answers;
    }

pub returns-in-Annotate-clause-found : goal.returns-in-Annotate-clause-found
returns-in-Annotate-clause-found g c =
    subst (λ k. IsFoundWithSource g.S.StoreState g.R.Source.reads c.args.self.now.limits k c.annotate_in.result c.args.self.now.store c.annotate_in.new.store) (sym c.in-Annotate.is) (c.annotate_in.new.source, c.annotate_in.ensures.found)

pub returns-in-Annotate-clause-short : goal.returns-in-Annotate-clause-short
returns-in-Annotate-clause-short g c = subst (λ k. IsShortFor c.args.self.now.most k c.annotate_in.result) (sym c.in-Annotate.is) c.annotate_in.ensures.short

pub returns-in_default : goal.returns-in_default
returns-in_default g c =
    let command = c.args.command in
    let none : ReadsNone command = search rules in
    record {
      limits = c.act.ensures.limits;
      short = c.act.ensures.short;
      answered = record {
        command = command_read (plain_command command) [];
        says = says_none g.R.Source.reads command none;
        answers = c.act.ensures.answered;
      };
      found = found_in g.S.StoreState g.R.Source.reads c.args.self.now.limits command c.act.result c.args.self.now.store c.act.new.self.store none c.act.ensures.found;
    }
