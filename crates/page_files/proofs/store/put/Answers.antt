use Rattle.std.proofs.Common.{length, ap, arith}
use Rattle.sqlite_btree.proofs.PartLemmas.{some_of, page_written}
use Rattle.sqlite_btree.proofs.Results.{both_ways, both_ok}
use Rattle.page_files.proofs.store.put.Goals as goal

pub returns-clause-done : goal.returns-clause-done
returns-clause-done g c =
    λ clean part is_part live.
    let there = some_of (is_part c.args.page live) in
    both_ways c.write.result _ _ _ (both_ok c.write.result _ _ (c.write.ensures.ok (omega arith)) (c.write.ensures.others (omega arith))) ((c.write.ensures.err (omega arith)) there) (λ ok.
    page_written part _ _ c.args.page c.args.bytes.now is_part (λ none _. live none) (ok.0 there) (λ e. omega (arith, ap length e)) ok.1)
