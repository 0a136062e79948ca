use Rattle.std.proofs.Common.{suc, vec_len, sym, ◌∙◌, arith}
use Rattle.page_runs.proofs.Changes.{is_done}
use Rattle.page_runs.proofs.Keeping.{sum_with}
use Rattle.page_runs.proofs.kept.KeptCells.keep.Goals as goal

-- src/kept.rt:125:13
pub invariant_of-self : goal.invariant_of-self
invariant_of-self c =
    let kept = c.args.self.now in
    let entries = is_done c.insert.result (sym c.is_ok.ensures.value ∙ c.if-is_ok.true) c.insert.ensures.entries in
    let sums = sum_with kept.runs c.insert.new.self c.args.run c.shrink_to_fit.new.self (λ cells. suc (vec_len cells)) entries c.insert.ensures.was_ordered in
    record { within = omega (arith, sums, kept.within, c.shrink_to_fit.ensures.len, c.len-size.ensures, c.if-size-self.false) }
