use Rattle.std.proofs.Common.{◌≡◌, Ok, inl, sym, subst, rules}
use Rattle.requests.specs.Plain.{plain_selection}
use Rattle.run_stores.proofs.Calls.{asked_reads}
use Rattle.selected_runs.specs.Counted.{AreCounted}
use Rattle.selected_runs.specs.EventRuns.{AreEventRunsIn}
use Rattle.selected_runs.proofs.EventLemmas.{runs_found, runs_lacking}
use Rattle.selected_runs.proofs.runs_asked.event_runs.Goals as goal

pub returns-in-Err-clause-told : goal.returns-in-Err-clause-told
returns-in-Err-clause-told g c clean t represents = inl (rw c.in-Err.is at (c.in_ok-numbers.ensures.told clean t represents))

pub returns-then-not-have_event-clause-told : goal.returns-then-not-have_event-clause-told
returns-then-not-have_event-clause-told g c clean t represents =
    let event = c.args.event.now in
    let early = (c.in_ok-runs.ensures.asks clean).stays.was_faithful in
    let found = rw c.in-Ok.is at (c.in_ok-numbers.ensures.told early t represents) in
    let mid = asked_reads g.S.StoreState t _ _ (c.in_ok-numbers.ensures.asks early) represents in
    let numbers : c.as_slice.result.now ≡ c.in-Ok.numbers = search rules in
    let runs : c.deref.result.now ≡ c.in_ok-runs.runs.items = search rules in
    let counted = subst (λ ns. AreCounted t event ns c.in_ok-runs.runs.items) numbers (c.in_ok-runs.ensures.told clean t mid) in
    runs_lacking t (plain_selection c.args.selection.now) event c.in-Ok.numbers c.in_ok-runs.runs.items found counted (search rules)

pub returns-clause-told : goal.returns-clause-told
returns-clause-told g c clean t represents =
    let event = c.args.event.now in
    let early = (c.in_ok-runs.ensures.asks clean).stays.was_faithful in
    let found = rw c.in-Ok.is at (c.in_ok-numbers.ensures.told early t represents) in
    let mid = asked_reads g.S.StoreState t _ _ (c.in_ok-numbers.ensures.asks early) represents in
    let numbers : c.as_slice.result.now ≡ c.in-Ok.numbers = search rules in
    let counted = subst (λ ns. AreCounted t event ns c.in_ok-runs.runs.items) numbers (c.in_ok-runs.ensures.told clean t mid) in
    let same : c.from_vec.result ≡ c.in_ok-runs.runs.items = search rules in
    subst (λ rs. AreEventRunsIn t (plain_selection c.args.selection.now) event (Ok rs)) (sym same) (runs_found t (plain_selection c.args.selection.now) event c.in-Ok.numbers c.in_ok-runs.runs.items found counted (search rules))
