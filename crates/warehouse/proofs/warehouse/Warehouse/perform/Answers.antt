use Rattle.std.proofs.Common.{[], refl, rules, sym, subst}
use Rattle.histories.specs.Requests.{command_read}
use Rattle.requests.specs.Plain.{plain_command}
use Rattle.warehouse.specs.Answered.{IsShortFor, ReadsNone, WasAnsweredOver}
use Rattle.warehouse.specs.FromTables.{IsFoundOver}
use Rattle.warehouse.proofs.NoneLemmas.{found_over}
use Rattle.warehouse.proofs.warehouse.Warehouse.perform.Goals as goal

pub returns-in-Import-clause-answered : goal.returns-in-Import-clause-answered
returns-in-Import-clause-answered g c =
    subst (λ k. WasAnsweredOver g.S.StoreState g.R.Source.reads c.args.self.now.limits (command_read (plain_command k)) c.args.source.now c.import.new.source c.import.result c.args.self.now.store c.import.new.self.store) (sym c.in-Import.is) (c.import.ensures.answered)

pub returns-in-Import-clause-found : goal.returns-in-Import-clause-found
returns-in-Import-clause-found g c =
    subst (λ k. IsFoundOver g.S.StoreState g.R.Source.reads c.args.self.now.limits (plain_command k) c.args.source.now c.import.new.source c.import.result c.args.self.now.store c.import.new.self.store) (sym c.in-Import.is) c.import.ensures.found

pub returns-in-Import-clause-short : goal.returns-in-Import-clause-short
returns-in-Import-clause-short g c = subst (λ k. IsShortFor c.args.self.now.most k c.import.result) (sym c.in-Import.is) tt

pub returns-in-Annotate-clause-answered : goal.returns-in-Annotate-clause-answered
returns-in-Annotate-clause-answered g c =
    subst (λ k. WasAnsweredOver g.S.StoreState g.R.Source.reads c.args.self.now.limits (command_read (plain_command k)) c.args.source.now c.annotate_in.new.source c.annotate_in.result c.args.self.now.store c.annotate_in.new.store) (sym c.in-Annotate.is) (c.annotate_in.ensures.answered c.args.self.now.limits)

pub returns-in-Annotate-clause-found : goal.returns-in-Annotate-clause-found
returns-in-Annotate-clause-found g c =
    subst (λ k. IsFoundOver g.S.StoreState g.R.Source.reads c.args.self.now.limits (plain_command k) c.args.source.now c.annotate_in.new.source c.annotate_in.result c.args.self.now.store c.annotate_in.new.store) (sym c.in-Annotate.is) c.annotate_in.ensures.found

pub returns-in-Annotate-clause-short : goal.returns-in-Annotate-clause-short
returns-in-Annotate-clause-short g c = subst (λ k. IsShortFor c.args.self.now.most k c.annotate_in.result) (sym c.in-Annotate.is) c.annotate_in.ensures.short

pub returns-in-Import-clause-unread : goal.returns-in-Import-clause-unread
returns-in-Import-clause-unread g c none = absurd (subst ReadsNone c.in-Import.is none)

pub returns-in-Annotate-clause-unread : goal.returns-in-Annotate-clause-unread
returns-in-Annotate-clause-unread g c none = absurd (subst ReadsNone c.in-Annotate.is none)

pub returns-in_default : goal.returns-in_default
returns-in_default g c =
    let command = c.args.command.now in
    let none : ReadsNone command = search rules in
    record {
      limits = c.act.ensures.limits;
      short = c.act.ensures.short;
      unread = λ _. refl;
      answered = record { outcomes = []; came = refl; answers = c.act.ensures.answered };
      found = found_over g.S.StoreState g.R.Source.reads c.args.self.now.limits command c.args.source.now c.args.source.now c.act.result c.args.self.now.store c.act.new.self.store none c.act.ensures.found;
    }
