use Rattle.std.proofs.Common.{map, refl, subst, ap, ◌∙◌}
use Rattle.report_texts.specs.Inclusive.{OfStack}
use Rattle.run_stores.specs.Book.{stacks_held}
use Rattle.store_calls.specs.InclusiveParts.{Counting, AreHeld, costs_named, sums_in}
use Rattle.store_calls.proofs.InclusiveLemmas.{stacks_taken}
use Rattle.store_calls.proofs.including.add_folded.Goals as goal

pub returns-clause-told : goal.returns-clause-told
returns-clause-told g c clean t represents apart held =
    let stacks = stacks_held c.args.run.now.number t in
    let start : Counting = record { counts = c.args.counts.now; sums = sums_in c.args.parts } in
    let came = ap (λ (m : Counting). m.sums) (c.in_ok-all.ensures.told clean t represents) in
    let taken = stacks_taken t.names start stacks (subst (AreHeld t.names) came held) in
    (taken.0, (map OfStack stacks, refl, ap (costs_named t.names) came ∙ taken.1))
