use Rattle.std.proofs.Common.{codes}
use Rattle.clap.specs.Words.{found_of, rows_of}
use Rattle.command_line.proofs.NoPlanLemmas.{without}
use Rattle.command_line.proofs.subcommands.import.Goals as goal

pub returns-in_default-clause-none : goal.returns-in_default-clause-none
returns-in_default-clause-none c =
    let none = rw c.in_default.is at c.in_ok-files.ensures.none in
    without (rows_of (found_of c.args.words.now)) (codes "import") (λ needs. none needs.0 needs.1)
