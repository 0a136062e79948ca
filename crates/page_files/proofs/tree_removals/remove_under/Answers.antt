use Rattle.std.proofs.Common.{Bool, Ok, Err, Result, subst, arith}
use Rattle.std.proofs.lemmas.Result.{err_from_is_err_and}
use Rattle.sqlite_pages.specs.declared.error.Error.{Error}
use Rattle.sqlite_btree.proofs.Results.{steps_none, steps_on}
use Rattle.page_files.specs.Removals.{has_prefix, LosesUntil}
use Rattle.page_files.proofs.Losing.{loses_all, loses_more, loses_none}
use Rattle.page_files.proofs.Thinning.{part_next}
use Rattle.page_files.proofs.tree_removals.remove_under.Goals as goal

pub entries-init : goal.entries-init
entries-init g c = record { kept = steps_none g.met.P.Pages.follows_refl; loses = λ clean schema t db names. loses_none db }

pub returns-in_err-remove_some-clause-done : goal.returns-in_err-remove_some-clause-done
returns-in_err-remove_some-clause-done g c = λ clean schema t db names.
    let picks = has_prefix c.args.order c.args.prefix.now in
    let was = c.entries.invariant.loses (omega (arith, clean, c.remove_some.ensures.kept.clean)) schema t db names in
    let p = err_from_is_err_and c.from_residual.result c.from_residual.ensures.1 in
    let failed : Result Bool Error = Err c.in_err-remove_some.field-0.0 in
    rw (p.1, p.2) (part_next g.P.Pages c.remove_some.new.store c.entries.invariant.kept names clean g.met.P.Pages.follows_trans was.edit was.edits (LosesUntil picks) failed c.in_err-remove_some.ensures.done)

pub entries-preserved : goal.entries-preserved
entries-preserved g c =
    let picks = has_prefix c.args.order c.args.prefix.now in
    record {
      kept = steps_on g.met.P.Pages.follows_trans c.entries.invariant.kept c.remove_some.ensures.kept;
      loses = λ clean schema t db names.
          let was = c.entries.invariant.loses (omega (arith, clean, c.remove_some.ensures.kept.clean)) schema t db names in
          let done : Result Bool Error = Ok c.in_ok-remove_some.field-0 in
          (loses_more was (part_next g.P.Pages c.remove_some.new.store c.entries.invariant.kept names clean g.met.P.Pages.follows_trans was.edit was.edits (LosesUntil picks) done c.in_ok-remove_some.ensures.done)).loses;
    }

pub returns-then-not-branch-clause-done : goal.returns-then-not-branch-clause-done
returns-then-not-branch-clause-done g c = λ clean schema t db names.
    let picks = has_prefix c.args.order c.args.prefix.now in
    let was = c.entries.invariant.loses (omega (arith, clean, c.remove_some.ensures.kept.clean)) schema t db names in
    let done : Result Bool Error = Ok c.in_ok-remove_some.field-0 in
    let now = loses_more was (part_next g.P.Pages c.remove_some.new.store c.entries.invariant.kept names clean g.met.P.Pages.follows_trans was.edit was.edits (LosesUntil picks) done c.in_ok-remove_some.ensures.done) in
    loses_all (subst (LosesUntil picks _ schema _ _ t) c.if-not-branch.true now)
