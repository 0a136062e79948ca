use Rattle.std.proofs.Common.{arith}
use Rattle.std.proofs.lemmas.Grind.{common_steps}
use Rattle.std.proofs.lemmas.Bool.Decides.{nat_tests}
use Rattle.sqlite_btree.specs.Tree.{header_of}
use Rattle.page_files.proofs.store.header.Goals as goal

pub returns-then-page-eq1-clause-value : goal.returns-then-page-eq1-clause-value
unfolding header_of
returns-then-page-eq1-clause-value c =
    grind (arith, common_steps, nat_tests)

pub returns-else-page-eq1-clause-value : goal.returns-else-page-eq1-clause-value
unfolding header_of
returns-else-page-eq1-clause-value c =
    grind (arith, common_steps, nat_tests)
