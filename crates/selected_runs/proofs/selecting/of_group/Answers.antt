use Rattle.std.proofs.Common.{Ok, Err, if◌then◌else◌, sym, ap, ◌∙◌}
use Rattle.run_stores.proofs.Calls.{asked_reads}
use Rattle.run_stores.specs.Lookups.{members_in_tables}
use Rattle.histories.specs.declared.answers.Refusal.TheVariants.{NoSuchGroup}
use Rattle.selected_runs.proofs.selecting.of_group.Goals as goal

pub returns-then-not-branch-clause-told : goal.returns-then-not-branch-clause-told
returns-then-not-branch-clause-told g c clean t represents =
    let text = c.name_text-name.result.now in (
      text,
      record { named = c.name_text-name.ensures.named; other = c.name_text-name.ensures.other },
      ap (λ b. if b then Ok (members_in_tables text t) else Err NoSuchGroup) (sym (sym (c.in_ok-has_group.ensures.told clean t represents) ∙ c.if-not-branch.true)),
    )

pub returns-clause-told : goal.returns-clause-told
returns-clause-told g c clean t represents =
    let text = c.name_text-name.result.now in
    let early = (c.in_ok-numbers.ensures.asks clean).stays.was_faithful in
    let mid = asked_reads g.S.StoreState t _ _ (c.in_ok-has_group.ensures.asks early) represents in (
      text,
      record { named = c.name_text-name.ensures.named; other = c.name_text-name.ensures.other },
      ap Ok (c.in_ok-numbers.ensures.told clean t mid)
          ∙ ap (λ b. if b then Ok (members_in_tables text t) else Err NoSuchGroup) (sym (sym (c.in_ok-has_group.ensures.told early t represents) ∙ c.if-not-branch.false)),
    )
