use Rattle.std.proofs.Common.{◌≡◌, ℕ, ◌+◌, ◌++◌, List, length, take, slice_index, refl, ◌∙◌, ap, arith}
use Rattle.std.proofs.lemmas.List.{take_all, take_at}
use Rattle.profile_records.specs.Columns.{added}
use Rattle.cost_rows.specs.Stretches.{sums_at}
use Rattle.cost_rows.proofs.StretchLemmas.{length-sums, length-added_to, column-put}
use Rattle.cost_rows.proofs.stretches.put_behind.Goals as goal

pub loop-k-preserved : goal.loop-k-preserved
loop-k-preserved c =
    let held = c.args.held in
    let column = c.sum_in-sum.ensures ∙ ap (λ xs. slice_index xs c.loop-k.k) (c.of.ensures ∙ ap (λ xs. sums_at xs held) c.as_slice.ensures.value) in
    column-put c.args.sums.now.items c.args.costs.now c.loop-k.sums.items c.push.new.self.items held c.loop-k.k (c.sum_in-sum.result + c.from.result)
    c.requires.within c.requires.short c.loop-k-test.true c.loop-k.invariant (ap (λ n. n + c.from.result) column ∙ ap (λ n. slice_index (sums_at c.loop-k.sums.items held) c.loop-k.k + n) c.from.ensures) c.in_ok-push.ensures.items

pub returns-clause-sums : goal.returns-clause-sums
returns-clause-sums c =
    let old : List ℕ = c.args.sums.now.items in
    let more : List ℕ = added (sums_at old c.args.held) c.args.costs.now in
    let size : length more ≡ length c.args.costs.now =
    length-added_to (sums_at old c.args.held) c.args.costs.now (omega (arith, c.requires.short, length-sums old c.args.held c.requires.within)) in
    c.loop-k.invariant ∙ ap (λ xs. old ++ xs) (take_all c.loop-k.k more (omega (arith, size)))

pub returns-clause-stretch : goal.returns-clause-stretch
returns-clause-stretch c =
    let old : List ℕ = c.args.sums.now.items in
    let more : List ℕ = added (sums_at old c.args.held) c.args.costs.now in
    let size : length more ≡ length c.args.costs.now =
    length-added_to (sums_at old c.args.held) c.args.costs.now (omega (arith, c.requires.short, length-sums old c.args.held c.requires.within)) in
    (omega (arith, c.in_ok-stretch.ensures.0, c.len.ensures, c.args.sums.now.ok.0), omega (arith, c.in_ok-stretch.ensures.1, size))

pub returns-in_err-push-clause-others : goal.returns-in_err-push-clause-others
returns-in_err-push-clause-others c =
    let old : List ℕ = c.args.sums.now.items in
    ap (take (length old)) (c.in_err-push.ensures.items ∙ c.loop-k.invariant) ∙ take_at old (take c.loop-k.k (added (sums_at old c.args.held) c.args.costs.now)) (length old) refl

pub returns-clause-others : goal.returns-clause-others
returns-clause-others c =
    let old : List ℕ = c.args.sums.now.items in
    ap (take (length old)) c.loop-k.invariant ∙ take_at old (take c.loop-k.k (added (sums_at old c.args.held) c.args.costs.now)) (length old) refl
