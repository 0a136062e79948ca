use Rattle.std.proofs.Common.{◌≡◌, ℕ, ◌+◌, ◌-◌, List, length, take, drop, ◌∙◌, ap, arith}
use Rattle.profile_records.specs.Columns.{added}
use Rattle.cost_rows.proofs.StretchLemmas.{length-sums, length-written, sums-written, sums-apart}
use Rattle.cost_rows.proofs.stretches.raise_at.Goals as goal

pub returns : goal.returns
returns c =
    let held = c.args.held in
    let sums : List ℕ = c.args.sums.now in
    let new : List ℕ = c.raise_each.new.sums in
    let k : ℕ = held.start + c.len.result - held.start in
    let is : k ≡ held.len = omega (arith, c.len.ensures) in
    let part = ap (λ n. take n (drop held.start sums)) is in
    let size : length new ≡ held.len = c.raise_each.ensures.same ∙ ap length part ∙ length-sums sums held c.requires.within in
    record {
      same = length-written sums new held k c.requires.within is (omega (arith, size, is));
      sums = sums-written sums new held k c.requires.within size ∙ c.raise_each.ensures.sums ∙ ap (λ xs. added xs c.args.costs.now) part;
      others = λ s inside apart. sums-apart sums new held s k c.requires.within is (omega (arith, size, is)) inside apart;
    }
