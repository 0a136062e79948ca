use Rattle.std.proofs.Common.{arith, subst, sym, ◌∙◌, to_z-of_z}
use Rattle.page_lists.specs.Walks.{AllEarlier}
use Rattle.page_files.proofs.Reading.{OnlyReads-trans}
use Rattle.page_runs.proofs.Begins.{earlier_found}
use Rattle.page_lists.proofs.RunRows.{earlier_from_least}
use Rattle.page_lists.proofs.Shows.{all_from_least, shows_after}
use Rattle.page_runs.proofs.places.place_of.Goals as goal
use Rattle.page_runs.proofs.places.place_of.Goals.{in-Some, in-None}

pub halves-init : goal.halves-init
halves-init g c = (
  λ faithful rows is order. earlier_from_least _ _ rows (all_from_least _ _ rows is),
  c.above_last.ensures.reads,
  c.in_ok-high.ensures.fits,
)

pub returns-in_err-found-clause-reads : goal.returns-in_err-found-clause-reads
returns-in_err-found-clause-reads g c = OnlyReads-trans _ _ _ c.halves.invariant.1 c.first_from.ensures.reads

pub halves-preserved : goal.halves-preserved
halves-preserved g c = (
  (λ faithful rows is order.
      let here = shows_after _ _ _ rows c.halves.invariant.1 is in
      let was = c.halves.invariant.0 (c.first_from.ensures.reads.keeps.stays.clean faithful) rows is order in
      let found = c.in_ok-found.ensures.found faithful rows here in
      elim c.match-behind_earlier.branch [
        | in-Some w ↦
            subst (λ n. AllEarlier c.args.run n rows) (sym (w.from-is ∙ to_z-of_z w.in-Some.ensures.fits)) (earlier_found _ _ rows here c.args.run _ _ _ order found w.in-Some.ensures.behind)
        | in-None w ↦ subst (λ n. AllEarlier c.args.run n rows) (sym w.from-is) was
      ]),
  OnlyReads-trans _ _ _ c.halves.invariant.1 c.first_from.ensures.reads,
  elim c.match-behind_earlier.branch [
    | in-Some w ↦ (let top = c.halves.invariant.2 in let is = w.high-is in omega (arith, top, is))
    | in-None w ↦ (let top = c.halves.invariant.2 in let is = w.high-is in let low = c.if-low-high.false in omega (arith, top, is, low))
  ],
)
