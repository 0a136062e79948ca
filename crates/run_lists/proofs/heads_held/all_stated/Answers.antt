use Rattle.std.specs.Fmt.{decimal}
use Rattle.std.proofs.Common.{◌≡◌, ◌<◌, ◌^◌, Some, get_or, sym, ap, ◌∙◌, arith, option_map, string_bytes}
use Rattle.std.proofs.lemmas.List.Elements.{All-get_or}
use Rattle.std.proofs.lemmas.Result.{err_from_is_err_and}
use Rattle.run_lists.specs.HeadLines.{event_total}
use Rattle.run_lists.proofs.HeadServed.{many_totals, total_at}
use Rattle.run_lists.proofs.heads_held.all_stated.Goals as goal

pub returns-in_default-clause-serves : goal.returns-in_default-clause-serves
returns-in_default-clause-serves c = λ sums small are.
    let total = total_at c.args.lines.now sums are c.lines.line-index c.line-item.result c.lines-test.true c.line-item.is in
    let none = sym (ap (option_map string_bytes) c.in_default.is) ∙ total in
    absurd cc

pub returns-in_err-sum-clause-serves : goal.returns-in_err-sum-clause-serves
returns-in_err-sum-clause-serves c = λ sums small are.
    let p = err_from_is_err_and c.from_residual.result c.from_residual.ensures.1 in
    let lines = c.args.lines.now in
    let at = c.lines.line-index in
    let total : event_total c.line-item.result ≡ Some (decimal (get_or sums at 0)) = total_at lines sums are at c.line-item.result c.lines-test.true c.line-item.is in
    let sum = All-get_or (λ n. n < 2 ^ 128) sums at 0 (omega (arith, many_totals lines sums are, c.lines-test.true)) small in
    let text = sym (ap (option_map string_bytes) c.in-Some.is) ∙ total in
    let same : string_bytes c.in-Some.text ≡ decimal (get_or sums at 0) = cc in
    rw (p.1, p.2) (c.in_err-sum.ensures.serves (get_or sums at 0) sum (sym (c.as_str.ensures.value ∙ same)))
