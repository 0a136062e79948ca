use Rattle.std.proofs.Common.{arith, drop, refl, sym, subst, inl, inr}
use Rattle.std.proofs.lemmas.List.{length-drop}
use Rattle.sqlite_record.proofs.StrictLemmas.{IsRecord-written}
use Rattle.page_places.specs.Causes.{IsRefused}
use Rattle.row_writes.proofs.records.write_record.Goals as goal

pub returns-in-Ok-clause-strict : goal.returns-in-Ok-clause-strict
returns-in-Ok-clause-strict c =
    let left = length-drop c.args.skip c.args.row.now in
    IsRecord-written c.encode.new.out.items (drop c.args.skip c.args.row.now) c.in-Ok.ensures.layout (omega arith) (omega arith)

pub returns-in-Err-clause-cause : goal.returns-in-Err-clause-cause
returns-in-Err-clause-cause c =
    elim (c.in-Err.ensures.err 0) [
      | inl memory ↦ subst (IsRefused _) (sym (c.refusal.ensures.memory memory)) refl
      | inr unstorable ↦ subst (IsRefused _) (sym (c.refusal.ensures.row unstorable.0)) (λ both. unstorable.1 both.0)
    ]
