use Rattle.std.proofs.Common.{◌≡◌, ℕ, List, [], ◌∷◌, Result, MatchResult, map, refl, ap, ap₂, subst, sym, ◌∙◌}
use Rattle.std.proofs.lemmas.Result.{IfOk-from_err, err_from_is_err_and}
use Rattle.cost_rows.specs.Content.{Content}
use Rattle.cost_rows.specs.Rows.{content_of}
use Rattle.sqlite_disk.specs.declared.Disk.{Ghosts}
use Rattle.sqlite_pool.specs.Pool.{state}
use Rattle.sqlite_pool.specs.Stored.{Keeps}
use Rattle.sqlite_pool.specs.StoredLaws.{Keeps-trans}
use Rattle.sqlite_rules.proofs.ListLemmas.{has_got}
use Rattle.sqlite_store.specs.declared.catalog.Wanted.{Wanted}
use Rattle.sqlite_trees.specs.Tree.{Trees}
use Rattle.page_files.specs.declared.files.PageFile.{PageFile}
use Rattle.page_places.specs.Failures.{FailsToStore}
use Rattle.page_places.proofs.Failing.{store_fails_later}
use Rattle.plain_tables.specs.Changes.{with_calls, with_cells, with_stacks}
use Rattle.plain_tables.specs.Files.{all_named, numbers_in}
use Rattle.plain_tables.specs.Tables.{Tables}
use Rattle.plain_tables.specs.declared.errors.StoreError.{StoreError}
use Rattle.run_stores.specs.Files.{call_rows, cell_rows, stack_rows, with_rows}
use Rattle.run_stores.proofs.BookNames.{all_grown}
use Rattle.page_places.proofs.Outcomes.{match_result}
use Rattle.prof_store.specs.Tables.{Holds, stack_columns}
use Rattle.prof_store.specs.Schema.{schema_two, name_at, arc_at, stack_at, thread_cell_at}
use Rattle.page_imports.specs.Causes.{CanBeNumbered, CanPutRows, CanPutStacks}
use Rattle.page_imports.specs.Needs.{HasNoCall, HasNoCell, HasNoRow, HasNoStack}
use Rattle.page_imports.specs.Steps.{HasMade, row_tables}
use Rattle.page_imports.proofs.Carried.{calls_still, cells_still, put_still, stacks_still}
use Rattle.page_imports.proofs.Failing.{fails_for}
use Rattle.page_imports.proofs.Kept.{kept_then}
use Rattle.page_imports.proofs.Made.{made_then, makes_then}
use Rattle.page_imports.proofs.rows.put_rows.Goals as goal

pub returns-in_err-numbers-clause-done : goal.returns-in_err-numbers-clause-done
returns-in_err-numbers-clause-done g c clean = λ wanted known was t shows are can.
    let after_0 = clean in
    let file = c.args.file.now in
    let run = c.args.run in
    let content = content_of c.args.rows.now in
    let names = c.names.result.now in
    let one = c.in_err-numbers.ensures.done after_0 wanted known was t shows are in
    let p = err_from_is_err_and c.from_residual.result c.from_residual.ensures.1 in
    rw (p.1, p.2) (fails_for file c.number_names.new.file _ (λ (fits : CanPutRows run content t shows.next). subst (λ l. CanBeNumbered l t shows.next) (sym c.names.ensures) fits.names) one)

pub returns-in_err-put_cells-clause-done : goal.returns-in_err-put_cells-clause-done
returns-in_err-put_cells-clause-done g c clean = λ wanted known was t shows are can.
    let after_1 = clean in
    let after_0 = c.put_cells.ensures.leaves.keeps.stays.clean after_1 in
    let file = c.args.file.now in
    let run = c.args.run in
    let content = content_of c.args.rows.now in
    let names = c.names.result.now in
    let named = all_named names t in
    let grown = all_grown names t in
    let needs = subst (HasNoRow run) (sym grown.1) (record {
      cells = record { held = can.cells.held; none = can.cells.none };
      calls = record { held = can.calls.held; none = can.calls.none };
      stacks = record { held = can.stacks.held; none = can.stacks.none };
    }) in
    let one = c.in_ok-numbers.ensures.done after_0 wanted known was t shows are in
    let two = c.in_err-put_cells.ensures.done after_1 wanted known was named one.0.shows are needs.cells in
    let numbers = c.deref.ensures.value ∙ one.1 ∙ ap (λ (l : List (List ℕ)). numbers_in (all_named l t) l) c.names.ensures in
    let same = one.0.kept thread_cell_at (has_got schema_two.tables 10 thread_cell_at refl) refl in
    let p = err_from_is_err_and c.from_residual-in_err-put_cells.result c.from_residual-in_err-put_cells.ensures.1 in
    rw (p.1, p.2) (store_fails_later file c.number_names.new.file c.put_cells.new.file _ c.number_names.ensures.leaves.keeps
    (λ (fits : CanPutRows run content t shows.next). cells_still run content t c.deref.result.now numbers fits same) two)

pub returns-in_err-put_calls-clause-done : goal.returns-in_err-put_calls-clause-done
returns-in_err-put_calls-clause-done g c clean = λ wanted known was t shows are can.
    let after_2 = clean in
    let after_1 = c.put_calls.ensures.leaves.keeps.stays.clean after_2 in
    let after_0 = c.put_cells.ensures.leaves.keeps.stays.clean after_1 in
    let file = c.args.file.now in
    let run = c.args.run in
    let content = content_of c.args.rows.now in
    let names = c.names.result.now in
    let named = all_named names t in
    let grown = all_grown names t in
    let needs = subst (HasNoRow run) (sym grown.1) (record {
      cells = record { held = can.cells.held; none = can.cells.none };
      calls = record { held = can.calls.held; none = can.calls.none };
      stacks = record { held = can.stacks.held; none = can.stacks.none };
    }) in
    let one = c.in_ok-numbers.ensures.done after_0 wanted known was t shows are in
    let two = c.in_ok-put_cells.ensures.done after_1 wanted known was named one.0.shows are needs.cells in
    let cells = with_cells (cell_rows run c.deref.result.now content.cells) in
    let three = c.in_err-put_calls.ensures.done after_2 wanted known was (cells named) two.shows are (record { held = needs.calls.held; none = needs.calls.none }) in
    let numbers = c.deref-2.ensures.value ∙ one.1 ∙ ap (λ (l : List (List ℕ)). numbers_in (all_named l t) l) c.names.ensures in
    let same = two.kept arc_at (has_got schema_two.tables 6 arc_at refl) refl ∙ one.0.kept arc_at (has_got schema_two.tables 6 arc_at refl) refl in
    let p = err_from_is_err_and c.from_residual-in_err-put_calls.result c.from_residual-in_err-put_calls.ensures.1 in
    rw (p.1, p.2) (store_fails_later file c.put_cells.new.file c.put_calls.new.file _ (Keeps-trans _ _ _ c.number_names.ensures.leaves.keeps c.put_cells.ensures.leaves.keeps)
    (λ (fits : CanPutRows run content t shows.next). calls_still run content t c.deref-2.result.now numbers fits same) three)

-- the names were numbered, and then the rows put in under these numbers
numbered_then : {D : Type 0} {g : Ghosts D} (run : ℕ) (content : Content) (names : List (List ℕ)) (t : Tables) (ns ms : List ℕ) → ns ≡ numbers_in (all_named names t) names → ms ≡ numbers_in (all_named names t) names
    → names ≡ content.names → (file numbered last : PageFile D g) (wanted : List Wanted) (known : List ℕ) (was now : Trees) (r : Result Unit StoreError) → Keeps (state file.pool) (state numbered.pool)
    → (one : HasMade (name_at ∷ []) wanted known was now (all_named names t) numbered)
    → MatchResult r (λ _. HasMade (thread_cell_at ∷ arc_at ∷ stack_at ∷ []) wanted known was one.shows.next
    (with_stacks (stack_rows run content.stacks) (with_calls (call_rows run ms content.calls) (with_cells (cell_rows run ns content.cells) (all_named names t)))) last)
    (FailsToStore numbered last (CanPutStacks run content.stacks one.shows.next))
    → MatchResult r (λ _. HasMade row_tables wanted known was now (with_rows run content t) last) (FailsToStore file last (CanPutRows run content t now))
numbered_then run content names t ns ms n m are file numbered last wanted known was now r keeps one =
    match_result r (λ (made : HasMade (thread_cell_at ∷ arc_at ∷ stack_at ∷ []) wanted known was one.shows.next _ last). record {
      shows = record { next = made.shows.next; writes = made.shows.writes; holds = subst (λ u. Holds u made.shows.next) same made.shows.holds };
      kept = kept_then (name_at ∷ []) (thread_cell_at ∷ arc_at ∷ stack_at ∷ []) now one.shows.next made.shows.next one.kept made.kept;
    })
    (λ e. store_fails_later file numbered last e keeps (λ (fits : CanPutRows run content t now). stacks_still run content t fits (one.kept stack_at (has_got schema_two.tables 7 stack_at refl) refl)))
  where
    stacks : Tables → Tables
    stacks = with_stacks (stack_rows run content.stacks)

    same : stacks (with_calls (call_rows run ms content.calls) (with_cells (cell_rows run ns content.cells) (all_named names t))) ≡ with_rows run content t
    same =
        ap₂ (λ (a b : List ℕ). stacks (with_calls (call_rows run b content.calls) (with_cells (cell_rows run a content.cells) (all_named names t)))) n m
        ∙ ap (λ (l : List (List ℕ)). let held = all_named l t in stacks (with_calls (call_rows run (numbers_in held l) content.calls) (with_cells (cell_rows run (numbers_in held l) content.cells) held))) are

pub returns-clause-done : goal.returns-clause-done
returns-clause-done g c clean = λ wanted known was t shows are can.
    let file = c.args.file.now in
    let numbered = c.number_names.new.file in
    let last = c.put_stacks.new.file in
    let roots = c.args.roots.now in
    let run = c.args.run in
    let content = content_of c.args.rows.now in
    let names = c.names.result.now in
    let named = all_named names t in
    let ns = c.deref.result.now in
    let ms = c.deref-2.result.now in
    let needs = subst (HasNoRow run) (sym (all_grown names t).1) (record {
      cells = record { held = can.cells.held; none = can.cells.none };
      calls = record { held = can.calls.held; none = can.calls.none };
      stacks = record { held = can.stacks.held; none = can.stacks.none };
    }) in
    let after_2 = c.put_stacks.ensures.leaves.keeps.stays.clean clean in
    let after_1 = c.put_calls.ensures.leaves.keeps.stays.clean after_2 in
    let after_0 = c.put_cells.ensures.leaves.keeps.stays.clean after_1 in
    let two = made_then numbered c.put_cells.new.file c.put_calls.new.file roots (thread_cell_at ∷ []) (arc_at ∷ []) (HasNoCell run) (HasNoCall run) (HasNoRow run)
    (with_cells (cell_rows run ns content.cells)) (with_calls (call_rows run ms content.calls)) c.put_calls.ensures.leaves.keeps.stays.clean
    (λ t now holds none. (none.cells, record { held = none.calls.held; none = none.calls.none })) c.in_ok-put_cells.ensures.done c.in_ok-put_calls.ensures.done in
    let rest = makes_then numbered c.put_calls.new.file last roots (thread_cell_at ∷ arc_at ∷ []) (stack_at ∷ []) (HasNoRow run) (HasNoStack run) (HasNoRow run)
    (λ t. with_calls (call_rows run ms content.calls) (with_cells (cell_rows run ns content.cells) t)) (with_stacks (stack_rows run content.stacks)) c.put_stacks.ensures.leaves.keeps.stays.clean
    (λ t now holds none. (none, record { held = none.stacks.held; none = none.stacks.none })) two (λ _. CanPutStacks run content.stacks) (λ _. CanPutStacks run content.stacks) c.put_stacks.result
    (Keeps-trans _ _ _ c.put_cells.ensures.leaves.keeps c.put_calls.ensures.leaves.keeps)
    (λ t now next fits kept. record { fit = fits.fit; put = put_still stack_at (map stack_columns (stack_rows run content.stacks)) now next (kept stack_at (has_got schema_two.tables 7 stack_at refl) refl) fits.put })
    c.put_stacks.ensures.done in
    let one = c.in_ok-numbers.ensures.done after_0 wanted known was t shows are in
    numbered_then run content names t ns ms (c.deref.ensures.value ∙ one.1) (c.deref-2.ensures.value ∙ one.1) c.names.ensures file numbered last wanted known was shows.next c.put_stacks.result c.number_names.ensures.leaves.keeps one.0
    (rest clean wanted known was named one.0.shows are needs)

pub returns-in_err-put_cells-clause-leaves : goal.returns-in_err-put_cells-clause-leaves
returns-in_err-put_cells-clause-leaves g c = record { usable = IfOk-from_err c.from_residual-in_err-put_cells.result _ c.from_residual-in_err-put_cells.ensures.0; keeps = Keeps-trans _ _ _ c.number_names.ensures.leaves.keeps c.put_cells.ensures.leaves.keeps }

pub returns-in_err-put_calls-clause-leaves : goal.returns-in_err-put_calls-clause-leaves
returns-in_err-put_calls-clause-leaves g c = record { usable = IfOk-from_err c.from_residual-in_err-put_calls.result _ c.from_residual-in_err-put_calls.ensures.0; keeps = Keeps-trans _ _ _ (Keeps-trans _ _ _ c.number_names.ensures.leaves.keeps c.put_cells.ensures.leaves.keeps) c.put_calls.ensures.leaves.keeps }

pub returns-clause-leaves : goal.returns-clause-leaves
returns-clause-leaves g c = record { usable = c.put_stacks.ensures.leaves.usable; keeps = Keeps-trans _ _ _ (Keeps-trans _ _ _ (Keeps-trans _ _ _ c.number_names.ensures.leaves.keeps c.put_cells.ensures.leaves.keeps) c.put_calls.ensures.leaves.keeps) c.put_stacks.ensures.leaves.keeps }

pub returns-in_err-numbers-clause-leaves : goal.returns-in_err-numbers-clause-leaves
returns-in_err-numbers-clause-leaves g c = record { usable = IfOk-from_err c.from_residual.result _ c.from_residual.ensures.0; keeps = c.number_names.ensures.leaves.keeps }
