use Rattle.clap.specs.Words.{found_of, rows_of}
use Rattle.command_line.proofs.NoPlanLemmas.{no_member}
use Rattle.command_line.proofs.PlansLemmas.{on_none}
use Rattle.command_line.proofs.subcommands.member.Goals as goal

pub returns-in_err-name-clause-none : goal.returns-in_err-name-clause-none
returns-in_err-name-clause-none c =
    on_none c.from_residual.result _ c.from_residual.ensures (no_member (rows_of (found_of c.args.words.now)) c.args.subcommand.now (λ needs. c.in_err-name.ensures.none needs.0 needs.1))
