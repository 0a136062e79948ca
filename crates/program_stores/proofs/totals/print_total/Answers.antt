use Rattle.std.proofs.Common.{◌≡◌, ℕ, take, refl, sym, subst}
use Rattle.std.specs.Io.KnownBytes.{Appends}
use Rattle.std.proofs.lemmas.Result.{err_from_is_err_and}
use Rattle.program_stores.specs.Works.{TotalPrinted, total_printed, total_status}
use Rattle.program_stores.proofs.totals.print_total.Goals as goal

pub returns-in_ok-write_text-in-Err : goal.returns-in_ok-write_text-in-Err
returns-in_ok-write_text-in-Err g c =
    let old = g.W.Write.contents c.args.out.now in
    let new = g.W.Write.contents c.write_text-in-Err.new.out in
    subst (λ total. (1 ≡ total_status total) × Appends old new (total_printed total)) (sym c.in-Err.is) (refl, c.in_ok-write_text-in-Err.ensures.whole)

pub returns-in_err-write_text-in-Err : goal.returns-in_err-write_text-in-Err
returns-in_err-write_text-in-Err g c =
    let old = g.W.Write.contents c.args.out.now in
    let new = g.W.Write.contents c.write_text-in-Err.new.out in
    let p = err_from_is_err_and c.from_residual-in_err-write_text-in-Err.result c.from_residual-in_err-write_text-in-Err.ensures.1 in
    subst (λ r. TotalPrinted c.args.total r old new) (sym p.1) (subst (λ total. (n : ℕ) × Appends old new (take n (total_printed total))) (sym c.in-Err.is) c.in_err-write_text-in-Err.ensures.part)
