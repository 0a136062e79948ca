use Rattle.std.proofs.Common.{sym, subst}
use Rattle.std.specs.contracts.fs.FileRead.TheImpl as file_read
use Rattle.program_stores.specs.Theorem.{WasDone}
use Rattle.program_stores.proofs.works.work_at.Goals as goal

pub returns-in-Ok-done_beside : goal.returns-in-Ok-done_beside
returns-in-Ok-done_beside g c =
    subst (λ job. WasDone file_read.ghosts.remaining g.O.Out.Write.contents g.S.StoreState g.P.Opener.held job g.O.Outputs.fresh c.in-Ok-done_beside.done)
    (sym c.in-Some.ensures) (c.in-Ok-done_beside.ensures c.in-Ok.ensures)

pub returns : goal.returns
returns g c = c.done_alone.ensures c.in_ok-store.ensures
