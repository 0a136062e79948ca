use Rattle.std.proofs.Common.{ap, sym, subst, ◌∙◌}
use Rattle.std.specs.Result.{is_ok}
use Rattle.std.specs.contracts.fs.FileRead.TheImpl as file_read
use Rattle.program_stores.specs.Jobs.{Tells}
use Rattle.program_stores.specs.Theorem.{Works}
use Rattle.program_stores.specs.declared.jobs.Job.TheVariants as jobs
use Rattle.program_stores.proofs.OverFiles.{ran_over, served_over, works_asked}
use Rattle.program_stores.proofs.works.done_alone.Goals as goal
use Rattle.program_stores.proofs.works.done_alone.Goals.{in-Run, in-Serve}

pub returns : goal.returns
returns g c = λ is.
    let remaining = file_read.ghosts.remaining in
    let contents = g.O.Out.Write.contents in
    let s = g.S.StoreState in
    let held = g.P.Opener.held in
    let fresh = g.O.Outputs.fresh in
    let survives = g.met.S.RunStore.survives in
    let it = c.match-job.came_to in
    works_asked s held (Tells remaining contents s c.args.job fresh it.0 it.1) (is_ok c.checkpoint-copied.result) it.2 c.checkpoint-copied.new.store
    (elim c.match-job.branch [
      | in-Run w ↦
          let came = w.work_over-came_to in
          subst (λ job. Works s held (Tells remaining contents s job fresh it.0 it.1) it.2) (sym w.in-Run.is)
          (subst (λ m. Works s held (Tells remaining contents s (jobs.Run w.in-Run.commands) fresh m.0 m.1) m.2) (sym w.came_to-is)
          (ran_over remaining contents s survives held (λ v. v.out) w.in-Run.commands fresh came.result.0 w.new-out.result came.result.1 w.into_out.result c.args.store came.result.2
          (ap contents w.new-out.ensures ∙ w.next.ensures) w.into_out.ensures is came.ensures))
      | in-Serve w ↦
          let came = w.serve_over-came_to in
          subst (λ job. Works s held (Tells remaining contents s job fresh it.0 it.1) it.2) (sym w.in-Serve.is)
          (subst (λ m. Works s held (Tells remaining contents s (jobs.Serve w.in-Serve.service) fresh m.0 m.1) m.2) (sym w.came_to-is)
          (served_over remaining contents s survives held w.in-Serve.service fresh came.result.0 w.next-in-Serve.result c.args.store came.result.1 is came.ensures))
    ])
    c.checkpoint-copied.ensures
