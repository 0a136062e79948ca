use Rattle.std.proofs.Common.{◌≡◌, ◌∙◌, true, false, map, sym, ap, subst}
use Rattle.run_lists.specs.HeldRuns.{name_some}
use Rattle.run_lists.specs.declared.listed.ListedRun.{ListedRun}
use Rattle.run_lists.proofs.HeldRuns.{Rise, do_not_fall, found_told, held_told, rise_told}
use Rattle.run_lists.proofs.listed.RunLists.check_runs.Goals as goal
use Rattle.run_lists.proofs.listed.RunLists.check_runs.Goals.{else-numbers_rise-via-then-numbers_rise+else-name_runs, else-numbers_rise-via-else-numbers_rise}

pub returns-then-name_runs-clause-held : goal.returns-then-name_runs-clause-held
returns-then-name_runs-clause-held c t was =
    let lists = c.args.self.now in
    let runs = c.in_ok-runs.runs.items in
    let read = c.in_ok-runs.ensures.read ∙ ap (map (λ (r : ListedRun). r.entry.number)) c.deref.ensures.value in
    let up = subst Rise c.deref-2.ensures.value (c.numbers_rise.ensures.0 c.if-numbers_rise.true) in
    let named = c.name_runs.ensures (do_not_fall _ (subst Rise (sym c.deref-then-numbers_rise.ensures.value) up)) in
    held_told t lists was runs read up (ap (λ l. name_some l lists) (sym c.deref-then-numbers_rise.ensures.value) ∙ sym named ∙ c.if-name_runs.true)

pub returns-clause-refused : goal.returns-clause-refused
returns-clause-refused c t was is =
    let lists = c.args.self.now in
    let runs = c.in_ok-runs.runs.items in
    let read = c.in_ok-runs.ensures.read ∙ ap (map (λ (r : ListedRun). r.entry.number)) c.deref.ensures.value in
    let up = rise_told t lists was runs read is in
    absurd
    (elim c.else-numbers_rise.branch [
      | else-numbers_rise-via-then-numbers_rise+else-name_runs w ↦
          let value = w.deref-then-numbers_rise.ensures.value in
          let named = w.name_runs.ensures (do_not_fall _ (subst Rise (sym value) up)) in
          let bad : true ≡ false = sym (named ∙ ap (λ l. name_some l lists) value ∙ found_told t lists was runs read is) ∙ w.if-name_runs.false in
          cc
      | else-numbers_rise-via-else-numbers_rise w ↦
          let bad : true ≡ false = sym (c.numbers_rise.ensures.1 (subst Rise (sym c.deref-2.ensures.value) up)) ∙ w.if-numbers_rise.false in
          cc
    ])
