use Rattle.std.proofs.Common.{ap, ◌∙◌}
use Rattle.std.specs.contracts.fs.FileRead.TheImpl as file_read
use Rattle.program_stores.proofs.OverFiles.{ran_over}
use Rattle.program_stores.proofs.beside.done_beside.Goals as goal

pub returns-then-has_stood : goal.returns-then-has_stood
returns-then-has_stood g c = λ is.
    ran_over file_read.ghosts.remaining g.O.Out.Write.contents g.S.StoreState g.met.S.RunStore.survives g.P.Opener.held (λ it. it.out) c.args.commands g.O.Outputs.fresh
    c.work_over-came_to.result.0 c.new-out.result c.work_over-came_to.result.1 c.into_out.result c.args.store c.work_over-came_to.result.2
    (ap g.O.Out.Write.contents c.new-out.ensures ∙ c.next.ensures) (c.into_out.ensures ∙ c.has_stood.ensures) is c.work_over-came_to.ensures
