use Rattle.std.proofs.Common.{inr, refl, sym, ◌∙◌, true≢false}
use Rattle.std.proofs.lemmas.Result.{IfOk-from_err, err_from_is_err_and}
use Rattle.sqlite_pool.specs.StoredLaws.{Keeps-trans, Keeps-refl}
use Rattle.page_files.proofs.Reading.{rests_after}
use Rattle.page_files.proofs.Steps.{begins}
use Rattle.page_places.proofs.Outcomes.{match_result}
use Rattle.page_places.proofs.Failing.{reading_fails, store_fails_later}
use Rattle.page_places.proofs.Rooting.{store_resting}
use Rattle.page_changes.specs.Removed.{CanDrop}
use Rattle.page_changes.proofs.Results.{so_by, so_by_parts}
use Rattle.page_changes.proofs.runs.drop_run.Goals as goal

pub returns-in_err-drop_events-clause-leaves : goal.returns-in_err-drop_events-clause-leaves
returns-in_err-drop_events-clause-leaves g c = record { usable = IfOk-from_err c.from_residual-in_err-drop_events.result _ c.from_residual-in_err-drop_events.ensures.0; keeps = Keeps-trans _ _ _ c.find_roots.ensures.reads.keeps c.drop_events.ensures.leaves.keeps }

pub returns-in_err-drop_costs-clause-leaves : goal.returns-in_err-drop_costs-clause-leaves
returns-in_err-drop_costs-clause-leaves g c = record { usable = IfOk-from_err c.from_residual-in_err-drop_costs.result _ c.from_residual-in_err-drop_costs.ensures.0; keeps = Keeps-trans _ _ _ (Keeps-trans _ _ _ c.find_roots.ensures.reads.keeps c.drop_events.ensures.leaves.keeps) c.drop_costs.ensures.leaves.keeps }

pub returns-in_err-drop_members-clause-leaves : goal.returns-in_err-drop_members-clause-leaves
returns-in_err-drop_members-clause-leaves g c = record { usable = IfOk-from_err c.from_residual-in_err-drop_members.result _ c.from_residual-in_err-drop_members.ensures.0; keeps = Keeps-trans _ _ _ (Keeps-trans _ _ _ (Keeps-trans _ _ _ c.find_roots.ensures.reads.keeps c.drop_events.ensures.leaves.keeps) c.drop_costs.ensures.leaves.keeps) c.drop_members.ensures.leaves.keeps }

pub returns-in_err-clear_baselines-clause-leaves : goal.returns-in_err-clear_baselines-clause-leaves
returns-in_err-clear_baselines-clause-leaves g c = record { usable = IfOk-from_err c.from_residual-in_err-clear_baselines.result _ c.from_residual-in_err-clear_baselines.ensures.0; keeps = Keeps-trans _ _ _ (Keeps-trans _ _ _ (Keeps-trans _ _ _ (Keeps-trans _ _ _ c.find_roots.ensures.reads.keeps c.drop_events.ensures.leaves.keeps) c.drop_costs.ensures.leaves.keeps) c.drop_members.ensures.leaves.keeps) c.clear_baselines.ensures.leaves.keeps }

pub returns-clause-leaves : goal.returns-clause-leaves
returns-clause-leaves g c = record { usable = c.drop_its_row.ensures.leaves.usable; keeps = Keeps-trans _ _ _ (Keeps-trans _ _ _ (Keeps-trans _ _ _ (Keeps-trans _ _ _ (Keeps-trans _ _ _ c.find_roots.ensures.reads.keeps c.drop_events.ensures.leaves.keeps) c.drop_costs.ensures.leaves.keeps) c.drop_members.ensures.leaves.keeps) c.clear_baselines.ensures.leaves.keeps) c.drop_its_row.ensures.leaves.keeps }

pub returns-then-not-has_run-clause-done : goal.returns-then-not-has_run-clause-done
returns-then-not-has_run-clause-done g c faithful = λ wanted known db t rests holds listed.
    inr (refl, λ can. true≢false (sym can.held ∙ sym (c.if-not-has_run.ensures.told t listed)))

pub returns-in_err-roots-clause-done : goal.returns-in_err-roots-clause-done
returns-in_err-roots-clause-done g c faithful = λ wanted known db t rests holds listed.
    let old = c.args.file.now in
    let new = c.find_roots.new.file in
    let p = err_from_is_err_and c.from_residual.result c.from_residual.ensures.1 in
    let why = c.in_err-roots.ensures.failed faithful db known (store_resting old db known wanted rests holds.contain.sound) in
    rw (p.1, p.2) (reading_fails old new why.0 _ why.2 c.find_roots.ensures.reads.keeps rests.clean.is_open faithful why.1)

pub returns-in_err-drop_events-clause-done : goal.returns-in_err-drop_events-clause-done
returns-in_err-drop_events-clause-done g c faithful = λ wanted known db t rests holds listed.
    let old = c.args.file.now in
    let read = c.find_roots.new.file in
    let before = c.drop_events.ensures.leaves.keeps.stays.clean faithful in
    let roots = c.in_ok-roots.ensures.found before db known (store_resting old db known wanted rests holds.contain.sound) in
    let w = begins read (rests_after old read c.find_roots.ensures.reads before c.in_ok-roots.ensures.usable rests) in
    let p = err_from_is_err_and c.from_residual-in_err-drop_events.result c.from_residual-in_err-drop_events.ensures.1 in
    rw (p.1, p.2) (store_fails_later old read c.drop_events.new.file _ c.find_roots.ensures.reads.keeps (λ _. tt) (c.in_err-drop_events.ensures.done faithful wanted known db db t w holds roots tt))

pub returns-in_err-drop_costs-clause-done : goal.returns-in_err-drop_costs-clause-done
returns-in_err-drop_costs-clause-done g c faithful = λ wanted known db t rests holds listed.
    let old = c.args.file.now in
    let read = c.find_roots.new.file in
    let after_one = c.drop_costs.ensures.leaves.keeps.stays.clean faithful in
    let before = c.drop_events.ensures.leaves.keeps.stays.clean after_one in
    let keeps = Keeps-trans _ _ _ c.find_roots.ensures.reads.keeps c.drop_events.ensures.leaves.keeps in
    let p = err_from_is_err_and c.from_residual-in_err-drop_costs.result c.from_residual-in_err-drop_costs.ensures.1 in
    rw (p.1, p.2) (so_by (c.in_ok-roots.ensures.found before db known (store_resting old db known wanted rests holds.contain.sound)) (λ roots.
    so_by_parts (c.in_ok-drop_events.ensures.done after_one wanted known db db t (begins read (rests_after old read c.find_roots.ensures.reads before c.in_ok-roots.ensures.usable rests)) holds roots tt) (λ now_0 writes_0 holds_0.
    store_fails_later old c.drop_events.new.file c.drop_costs.new.file _ keeps (λ _. tt) (c.in_err-drop_costs.ensures.done faithful wanted known db now_0 _ writes_0 holds_0 roots tt))))

pub returns-in_err-drop_members-clause-done : goal.returns-in_err-drop_members-clause-done
returns-in_err-drop_members-clause-done g c faithful = λ wanted known db t rests holds listed.
    let old = c.args.file.now in
    let read = c.find_roots.new.file in
    let after_two = c.drop_members.ensures.leaves.keeps.stays.clean faithful in
    let after_one = c.drop_costs.ensures.leaves.keeps.stays.clean after_two in
    let before = c.drop_events.ensures.leaves.keeps.stays.clean after_one in
    let keeps = Keeps-trans _ _ _ (Keeps-trans _ _ _ c.find_roots.ensures.reads.keeps c.drop_events.ensures.leaves.keeps) c.drop_costs.ensures.leaves.keeps in
    let p = err_from_is_err_and c.from_residual-in_err-drop_members.result c.from_residual-in_err-drop_members.ensures.1 in
    rw (p.1, p.2) (so_by (c.in_ok-roots.ensures.found before db known (store_resting old db known wanted rests holds.contain.sound)) (λ roots.
    so_by_parts (c.in_ok-drop_events.ensures.done after_one wanted known db db t (begins read (rests_after old read c.find_roots.ensures.reads before c.in_ok-roots.ensures.usable rests)) holds roots tt) (λ now_0 writes_0 holds_0.
    so_by_parts (c.in_ok-drop_costs.ensures.done after_two wanted known db now_0 _ writes_0 holds_0 roots tt) (λ now_1 writes_1 holds_1.
    store_fails_later old c.drop_costs.new.file c.drop_members.new.file _ keeps (λ _. tt) (c.in_err-drop_members.ensures.done faithful wanted known db now_1 _ writes_1 holds_1 roots tt)))))

pub returns-in_err-clear_baselines-clause-done : goal.returns-in_err-clear_baselines-clause-done
returns-in_err-clear_baselines-clause-done g c faithful = λ wanted known db t rests holds listed.
    let old = c.args.file.now in
    let read = c.find_roots.new.file in
    let after_three = c.clear_baselines.ensures.leaves.keeps.stays.clean faithful in
    let after_two = c.drop_members.ensures.leaves.keeps.stays.clean after_three in
    let after_one = c.drop_costs.ensures.leaves.keeps.stays.clean after_two in
    let before = c.drop_events.ensures.leaves.keeps.stays.clean after_one in
    let keeps = Keeps-trans _ _ _ (Keeps-trans _ _ _ (Keeps-trans _ _ _ c.find_roots.ensures.reads.keeps c.drop_events.ensures.leaves.keeps) c.drop_costs.ensures.leaves.keeps) c.drop_members.ensures.leaves.keeps in
    let p = err_from_is_err_and c.from_residual-in_err-clear_baselines.result c.from_residual-in_err-clear_baselines.ensures.1 in
    rw (p.1, p.2) (so_by (c.in_ok-roots.ensures.found before db known (store_resting old db known wanted rests holds.contain.sound)) (λ roots.
    so_by_parts (c.in_ok-drop_events.ensures.done after_one wanted known db db t (begins read (rests_after old read c.find_roots.ensures.reads before c.in_ok-roots.ensures.usable rests)) holds roots tt) (λ now_0 writes_0 holds_0.
    so_by_parts (c.in_ok-drop_costs.ensures.done after_two wanted known db now_0 _ writes_0 holds_0 roots tt) (λ now_1 writes_1 holds_1.
    so_by_parts (c.in_ok-drop_members.ensures.done after_three wanted known db now_1 _ writes_1 holds_1 roots tt) (λ now_2 writes_2 holds_2.
    store_fails_later old c.drop_members.new.file c.clear_baselines.new.file _ keeps (λ (can : CanDrop c.args.run t). can.unbased) (c.in_err-clear_baselines.ensures.done faithful wanted known db now_2 _ writes_2 holds_2 roots tt))))))

pub returns-clause-done : goal.returns-clause-done
returns-clause-done g c faithful = λ wanted known db t rests holds listed.
    let old = c.args.file.now in
    let read = c.find_roots.new.file in
    let after_four = c.drop_its_row.ensures.leaves.keeps.stays.clean faithful in
    let after_three = c.clear_baselines.ensures.leaves.keeps.stays.clean after_four in
    let after_two = c.drop_members.ensures.leaves.keeps.stays.clean after_three in
    let after_one = c.drop_costs.ensures.leaves.keeps.stays.clean after_two in
    let before = c.drop_events.ensures.leaves.keeps.stays.clean after_one in
    let keeps = Keeps-trans _ _ _ (Keeps-trans _ _ _ (Keeps-trans _ _ _ (Keeps-trans _ _ _ c.find_roots.ensures.reads.keeps c.drop_events.ensures.leaves.keeps) c.drop_costs.ensures.leaves.keeps) c.drop_members.ensures.leaves.keeps) c.clear_baselines.ensures.leaves.keeps in
    so_by (c.in_ok-roots.ensures.found before db known (store_resting old db known wanted rests holds.contain.sound)) (λ roots.
    so_by_parts (c.in_ok-drop_events.ensures.done after_one wanted known db db t (begins read (rests_after old read c.find_roots.ensures.reads before c.in_ok-roots.ensures.usable rests)) holds roots tt) (λ now_0 writes_0 holds_0.
    so_by_parts (c.in_ok-drop_costs.ensures.done after_two wanted known db now_0 _ writes_0 holds_0 roots tt) (λ now_1 writes_1 holds_1.
    so_by_parts (c.in_ok-drop_members.ensures.done after_three wanted known db now_1 _ writes_1 holds_1 roots tt) (λ now_2 writes_2 holds_2.
    so_by_parts (c.in_ok-clear_baselines.ensures.done after_four wanted known db now_2 _ writes_2 holds_2 roots tt) (λ now_3 writes_3 holds_3.
    match_result c.drop_its_row.result (λ made. made) (λ e. store_fails_later old c.clear_baselines.new.file c.drop_its_row.new.file e keeps (λ _. tt))
    (c.drop_its_row.ensures.done faithful wanted known db now_3 t writes_3 holds_3 roots))))))

pub returns-then-not-has_run-clause-leaves : goal.returns-then-not-has_run-clause-leaves
returns-then-not-has_run-clause-leaves g c = record { usable = tt; keeps = Keeps-refl _ }

pub returns-in_err-roots-clause-leaves : goal.returns-in_err-roots-clause-leaves
returns-in_err-roots-clause-leaves g c = record { usable = IfOk-from_err c.from_residual.result _ c.from_residual.ensures.0; keeps = c.find_roots.ensures.reads.keeps }
