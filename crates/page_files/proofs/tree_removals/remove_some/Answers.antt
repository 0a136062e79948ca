use Rattle.std.proofs.Common.{arith}
use Rattle.page_files.specs.Removals.{has_prefix, FailsToThin, LosesUntil}
use Rattle.page_files.proofs.Losing.{loses_more, where_ok}
use Rattle.page_files.proofs.Thinning.{part_next}
use Rattle.page_files.proofs.tree_removals.remove_some.Goals as goal

pub returns-clause-done : goal.returns-clause-done
returns-clause-done g c = λ clean schema t db names.
    let pages = g.P.Pages.pages in
    let size = g.P.Pages.size c.args.store.now in
    let new = c.remove_first.new.store in
    let picks = has_prefix c.args.order c.args.prefix.now in
    let was = c.in_ok-trim_under.ensures.done (omega (arith, clean, c.remove_first.ensures.kept.clean)) schema t db names in
    where_ok c.remove_first.result (LosesUntil picks size schema (pages c.trim_under.new.store) (pages new) t) (LosesUntil picks size schema (pages c.args.store.now) (pages new) t) (FailsToThin g.P.Pages c.args.store.now new c.args.root)
    (λ more until. loses_more was until)
    (part_next g.P.Pages new c.trim_under.ensures.kept names clean g.met.P.Pages.follows_trans was.edit was.edits (LosesUntil picks) c.remove_first.result c.remove_first.ensures.done)
