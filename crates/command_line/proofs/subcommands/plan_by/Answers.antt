use Rattle.std.proofs.Common.{map, subst, sym}
use Rattle.std.proofs.lemmas.Result.{err_from_is_err_and}
use Rattle.std.specs.Prelude.{string_bytes}
use Rattle.clap.specs.Words.{app_of, subcommand_rows_of}
use Rattle.command_line.specs.Plans.{IsEndFound, IsPlannedFor}
use Rattle.command_line.proofs.CommandLemmas.{both_named, fault_kept, no_plan, plan_for}
use Rattle.command_line.proofs.subcommands.plan_by.Goals as goal

pub returns-in_err-matches-clause-end : goal.returns-in_err-matches-clause-end
returns-in_err-matches-clause-end c =
    let end = err_from_is_err_and c.from_residual.result c.from_residual.ensures.1 in
    rw end.1 (fault_kept (app_of c.args.grammar.now) (map string_bytes c.args.words.now) c.in_err-matches.field-0.0 end.0 c.requires.grammar c.in_err-matches.ensures.kinds end.2)

pub returns-in_err-plan-clause-end : goal.returns-in_err-plan-clause-end
returns-in_err-plan-clause-end c =
    let matches = c.in_ok-matches.matches in
    let end = err_from_is_err_and c.from_residual-in_err-plan.result c.from_residual-in_err-plan.ensures.1 in
    let found : IsEndFound (subcommand_rows_of matches) end.0 = subst (IsEndFound (subcommand_rows_of matches)) (sym end.2) c.in_err-plan.ensures.end in
    rw end.1 (both_named (app_of c.args.grammar.now) matches (map string_bytes c.args.words.now) end.0 c.requires.grammar c.in_ok-matches.ensures.ok.2 c.in_ok-matches.ensures.kinds found)

pub returns-in-Some-clause-plan : goal.returns-in-Some-clause-plan
returns-in-Some-clause-plan c =
    let matches = c.in_ok-matches.matches in
    let given : IsPlannedFor (subcommand_rows_of matches) c.in-Some.plan = rw c.in-Some.is at c.in_ok-plan.ensures.planned in
    plan_for (app_of c.args.grammar.now) matches (map string_bytes c.args.words.now) c.in-Some.plan c.requires.grammar c.in_ok-matches.ensures.ok.2 c.in_ok-matches.ensures.kinds given

pub returns-clause-end : goal.returns-clause-end
returns-clause-end c =
    let matches = c.in_ok-matches.matches in
    let nothing = rw c.in_default.is at c.in_ok-plan.ensures.none in
    no_plan (app_of c.args.grammar.now) matches (map string_bytes c.args.words.now) c.in_ok-error.error c.requires.grammar c.in_ok-matches.ensures.ok.2 c.in_ok-matches.ensures.kinds
    c.in_ok-plan.ensures.apart nothing
