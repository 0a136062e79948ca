use Rattle.std.proofs.Common.{◌≡◌, [], ◌∷◌, Ok, Err, if◌then◌else◌, sym, ap, ◌∙◌, rules}
use Rattle.histories.specs.declared.answers.Refusal.TheVariants.{NoSuchRun}
use Rattle.selected_runs.proofs.selecting.one_run.Goals as goal

pub returns-then-not-branch-clause-told : goal.returns-then-not-branch-clause-told
returns-then-not-branch-clause-told g c clean t represents =
    ap (λ b. if b then Ok (c.args.number ∷ []) else Err NoSuchRun) (sym (sym (c.in_ok-has_run.ensures.told clean t represents) ∙ c.if-not-branch.true))

pub returns-clause-told : goal.returns-clause-told
returns-clause-told g c clean t represents =
    let one : c.push.new.self ≡ c.args.number ∷ [] = search rules in
    ap Ok one ∙ ap (λ b. if b then Ok (c.args.number ∷ []) else Err NoSuchRun) (sym (sym (c.in_ok-has_run.ensures.told clean t represents) ∙ c.if-not-branch.false))
