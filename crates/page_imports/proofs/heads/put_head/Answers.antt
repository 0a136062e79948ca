use Rattle.std.proofs.Common.{◌≡◌, ℕ, false, List, [], ◌∷◌, suc, ◌+◌, ◌<◌, map, inr, Err, refl, ap, subst, sym, ◌∙◌, arith}
use Rattle.std.specs.Prelude.{⊤}
use Rattle.std.specs.List.{AllByRecursion}
use Rattle.std.proofs.lemmas.Result.{IfOk-from_err, err_from_is_err_and}
use Rattle.sqlite_pool.specs.StoredLaws.{Keeps-trans, Keeps-refl}
use Rattle.sqlite_rules.proofs.ListLemmas.{has_got}
use Rattle.sqlite_trees.proofs.ListLemmas.{all_weaker}
use Rattle.plain_tables.specs.Changes.{has_run, with_coefs, with_derived, with_events, with_next, with_run}
use Rattle.plain_tables.specs.Tables.{Tables, RunRow, EventRow, DerivedRow, CoefRow}
use Rattle.prof_store.specs.Lines.{coef_row, derived_row, event_row, run_row}
use Rattle.prof_store.specs.Schema.{schema_two, meta_at, run_at, run_event_at, derived_at, coef_at}
use Rattle.prof_store.specs.Steps.{IsAbove}
use Rattle.prof_store.specs.declared.table_rows.HeadRows.{HeadRows}
use Rattle.prof_store.specs.declared.table_rows.RunRow.{RunRow as RunLine}
use Rattle.page_imports.specs.Runs.{with_head_of}
use Rattle.sqlite_trees.specs.Tree.{Trees}
use Rattle.page_imports.specs.Needs.{CanAdd, CanBegin, CanFill}
use Rattle.page_imports.specs.Steps.{KeepsOthers, head_tables}
use Rattle.prof_store.specs.Tables.{Holds, meta_columns, run_columns, event_columns, derived_columns, coef_columns}
use Rattle.prof_store.proofs.Sound.{sound_of}
use Rattle.page_imports.specs.Causes.{CanBePut, CanBeWritten, CanPutHeadOf}
use Rattle.page_imports.proofs.Carried.{put_still}
use Rattle.page_imports.proofs.Failing.{fails_for}
use Rattle.page_imports.proofs.Made.{made_then, makes_as, makes_then}
use Rattle.page_imports.proofs.Runs.{above_is_new, added_is_held, no_lines}
use Rattle.page_imports.proofs.heads.put_head.Goals as goal

-- ---- what each step needs, where the run is new

module _ (run : RunLine) (head : HeadRows) (t : Tables) (now : Trees) (holds : Holds t now) (can : CanBegin run head t) where
  below : AllByRecursion (λ (r : RunRow). r.number < run.number) t.runs
  below = subst (λ m. AllByRecursion (λ (r : RunRow). r.number < m) t.runs) can.is_new.next holds.below

  is_new : has_run t run.number ≡ false
  is_new = above_is_new t run.number below

needs_row : (run : RunLine) (head : HeadRows) (next : ℕ) → next ≡ run.number + 1 → (t : Tables) (now : Trees) → Holds t now → CanBegin run head t → IsAbove next t × CanAdd run.number run.digest.now (with_next next t)
needs_row run head next more t now holds can =
    let above = below run head t now holds can in (
      all_weaker (λ (r : RunRow). r.number < run.number) (λ (r : RunRow). r.number < next) (λ r low. omega (arith, low, more)) t.runs above,
      record { low = omega (arith, more); above = above; none = can.is_new.none },
    )

needs_events : (run : RunLine) (head : HeadRows) (next : ℕ) (es : List EventRow) → es ≡ map event_row head.events.items → (t : Tables) (now : Trees) → Holds t now → CanBegin run head t
    → CanBegin run head t × CanFill (λ t. t.events) (λ line. line.run) run.number es (with_run (run_row run) (with_next next t))
needs_events run head next es are t now holds can = (
  can,
  record {
    held = added_is_held t.runs (run_row run);
    of_run = record {
      of_run = subst (AllByRecursion (λ (e : EventRow). e.run ≡ run.number)) (sym are) can.lines.events_of;
      none = no_lines t run.number (is_new run head t now holds can) (λ (e : EventRow). e.run) t.events (sound_of t now holds).events;
    };
  },
)

needs_derived : (run : RunLine) (head : HeadRows) (next : ℕ) (es : List EventRow) (ds : List DerivedRow) → ds ≡ map derived_row head.derived.items → (t : Tables) (now : Trees) → Holds t now → CanBegin run head t
    → CanBegin run head t × CanFill (λ t. t.derived) (λ line. line.run) run.number ds (with_events es (with_run (run_row run) (with_next next t)))
needs_derived run head next es ds are t now holds can = (
  can,
  record {
    held = added_is_held t.runs (run_row run);
    of_run = record {
      of_run = subst (AllByRecursion (λ (d : DerivedRow). d.run ≡ run.number)) (sym are) can.lines.derived_of;
      none = no_lines t run.number (is_new run head t now holds can) (λ (d : DerivedRow). d.run) t.derived (sound_of t now holds).derived;
    };
  },
)

needs_coefs : (run : RunLine) (head : HeadRows) (next : ℕ) (es : List EventRow) (ds : List DerivedRow) (ks : List CoefRow) → ks ≡ map coef_row head.coefs.items → (t : Tables) (now : Trees) → Holds t now → CanBegin run head t
    → CanBegin run head t × CanFill (λ t. t.coefs) (λ line. line.run) run.number ks (with_derived ds (with_events es (with_run (run_row run) (with_next next t))))
needs_coefs run head next es ds ks are t now holds can = (
  can,
  record {
    held = added_is_held t.runs (run_row run);
    of_run = record {
      of_run = subst (AllByRecursion (λ (k : CoefRow). k.run ≡ run.number)) (sym are) can.lines.coefs_of;
      none = no_lines t run.number (is_new run head t now holds can) (λ (k : CoefRow). k.run) t.coefs (sound_of t now holds).coefs;
    };
  },
)

-- the steps before leave the tables of events, of derived events and of coefficients
events_still : (run : RunLine) (head : HeadRows) (es : List EventRow) → es ≡ map event_row head.events.items → (t : Tables) (now next : Trees) → CanPutHeadOf run head now
    → KeepsOthers (meta_at ∷ run_at ∷ []) now next → CanBePut run_event_at (map event_columns es) next
events_still run head es are t now next fits kept =
    put_still run_event_at (map event_columns es) now next (kept run_event_at (has_got schema_two.tables 2 run_event_at refl) refl)
    (subst (λ l. CanBePut run_event_at (map event_columns l) now) (sym are) fits.events)

derived_still : (run : RunLine) (head : HeadRows) (ds : List DerivedRow) → ds ≡ map derived_row head.derived.items → (t : Tables) (now next : Trees) → CanPutHeadOf run head now
    → KeepsOthers (meta_at ∷ run_at ∷ run_event_at ∷ []) now next → CanBePut derived_at (map derived_columns ds) next
derived_still run head ds are t now next fits kept =
    put_still derived_at (map derived_columns ds) now next (kept derived_at (has_got schema_two.tables 3 derived_at refl) refl)
    (subst (λ l. CanBePut derived_at (map derived_columns l) now) (sym are) fits.derived)

coefs_still : (run : RunLine) (head : HeadRows) (ks : List CoefRow) → ks ≡ map coef_row head.coefs.items → (t : Tables) (now next : Trees) → CanPutHeadOf run head now
    → KeepsOthers (meta_at ∷ run_at ∷ run_event_at ∷ derived_at ∷ []) now next → CanBePut coef_at (map coef_columns ks) next
coefs_still run head ks are t now next fits kept =
    put_still coef_at (map coef_columns ks) now next (kept coef_at (has_got schema_two.tables 4 coef_at refl) refl)
    (subst (λ l. CanBePut coef_at (map coef_columns l) now) (sym are) fits.coefs)

-- what all make is the head
same_tables : (run : RunLine) (head : HeadRows) (next : ℕ) (es : List EventRow) (ds : List DerivedRow) (ks : List CoefRow) → next ≡ suc run.number → es ≡ map event_row head.events.items
    → ds ≡ map derived_row head.derived.items → ks ≡ map coef_row head.coefs.items → (t : Tables)
    → with_coefs ks (with_derived ds (with_events es (with_run (run_row run) (with_next next t)))) ≡ with_head_of run head t
same_tables run head next es ds ks n e d k t =
    let begun : ℕ → Tables = λ m. with_run (run_row run) (with_next m t) in
    let events = map event_row head.events.items in
    let derived = map derived_row head.derived.items in
    ap (λ m. with_coefs ks (with_derived ds (with_events es (begun m)))) n
    ∙ ap (λ l. with_coefs ks (with_derived ds (with_events l (begun (suc run.number))))) e
    ∙ ap (λ l. with_coefs ks (with_derived l (with_events events (begun (suc run.number))))) d
    ∙ ap (λ l. with_coefs l (with_derived derived (with_events events (begun (suc run.number))))) k

pub returns-in_default-clause-done : goal.returns-in_default-clause-done
returns-in_default-clause-done g c clean = λ wanted known was t shows are can.
    inr (refl, λ (fits : CanPutHeadOf c.args.run.now c.args.head.now shows.next). c.in_default.ensures (omega (arith, fits.number)))

pub returns-in_err-put_next-clause-done : goal.returns-in_err-put_next-clause-done
returns-in_err-put_next-clause-done g c clean = λ wanted known was t shows are can.
    let after_0 = clean in
    let file = c.args.file.now in
    let run = c.args.run.now in
    let head = c.args.head.now in
    let n = run.number in
    let next = c.in-Some.next in
    let more : next ≡ n + 1 = c.in-Some.ensures.1 in
    let above = subst (λ m. AllByRecursion (λ (r : RunRow). r.number < m) t.runs) can.is_new.next shows.holds.below in
    let below_next = all_weaker (λ (r : RunRow). r.number < n) (λ (r : RunRow). r.number < next) (λ r low. omega (arith, low, more)) t.runs above in
    let one = c.in_err-put_next.ensures.done after_0 wanted known was t shows are below_next in
    let suc_is : next ≡ suc n = omega (arith, more) in
    let p = err_from_is_err_and c.from_residual.result c.from_residual.ensures.1 in
    rw (p.1, p.2) (fails_for file c.put_next.new.file _ (λ (fits : CanPutHeadOf run head shows.next). subst (λ m. CanBeWritten meta_at (meta_columns m)) (sym suc_is) fits.next) one)

pub returns-in_err-put_run_row-clause-done : goal.returns-in_err-put_run_row-clause-done
returns-in_err-put_run_row-clause-done g c =
    let file = c.args.file.now in
    let roots = c.args.roots.now in
    let run = c.args.run.now in
    let head = c.args.head.now in
    let n = run.number in
    let next = c.in-Some.next in
    let more : next ≡ n + 1 = c.in-Some.ensures.1 in
    let p = err_from_is_err_and c.from_residual-in_err-put_run_row.result c.from_residual-in_err-put_run_row.ensures.1 in
    rw (p.1, p.2) (makes_then file c.put_next.new.file c.put_run_row.new.file roots (meta_at ∷ []) (run_at ∷ []) (IsAbove next) (CanAdd n run.digest.now) (CanBegin run head) (with_next next) (with_run (run_row run))
    c.put_run_row.ensures.leaves.keeps.stays.clean (needs_row run head next more) c.in_ok-put_next.ensures.done
    (λ _ _. CanBeWritten run_at (run_columns (run_row run))) (λ _. CanPutHeadOf run head) {B = ⊤} (Err _) c.put_next.ensures.leaves.keeps (λ t now then fits kept. fits.row) c.in_err-put_run_row.ensures.done)

pub returns-in_err-put_events-clause-done : goal.returns-in_err-put_events-clause-done
returns-in_err-put_events-clause-done g c =
    let file = c.args.file.now in
    let roots = c.args.roots.now in
    let run = c.args.run.now in
    let head = c.args.head.now in
    let n = run.number in
    let next = c.in-Some.next in
    let more : next ≡ n + 1 = c.in-Some.ensures.1 in
    let es = map event_row c.deref.result.now in
    let begun : Tables → Tables = λ t. with_run (run_row run) (with_next next t) in
    let two = made_then file c.put_next.new.file c.put_run_row.new.file roots (meta_at ∷ []) (run_at ∷ []) (IsAbove next) (CanAdd n run.digest.now) (CanBegin run head) (with_next next) (with_run (run_row run))
    c.put_run_row.ensures.leaves.keeps.stays.clean (needs_row run head next more) c.in_ok-put_next.ensures.done c.in_ok-put_run_row.ensures.done in
    let p = err_from_is_err_and c.from_residual-in_err-put_events.result c.from_residual-in_err-put_events.ensures.1 in
    rw (p.1, p.2) (makes_then file c.put_run_row.new.file c.put_events.new.file roots (meta_at ∷ run_at ∷ []) (run_event_at ∷ []) (CanBegin run head) (CanFill (λ t. t.events) (λ line. line.run) n es) (CanBegin run head) begun (with_events es)
    c.put_events.ensures.leaves.keeps.stays.clean (needs_events run head next es (ap (map event_row) c.deref.ensures.value)) two
    (λ _. CanBePut run_event_at (map event_columns es)) (λ _. CanPutHeadOf run head) {B = ⊤} (Err _) (Keeps-trans _ _ _ c.put_next.ensures.leaves.keeps c.put_run_row.ensures.leaves.keeps)
    (events_still run head es (ap (map event_row) c.deref.ensures.value)) (c.in_err-put_events.ensures.done n))

pub returns-in_err-put_derived-clause-done : goal.returns-in_err-put_derived-clause-done
returns-in_err-put_derived-clause-done g c =
    let file = c.args.file.now in
    let roots = c.args.roots.now in
    let run = c.args.run.now in
    let head = c.args.head.now in
    let n = run.number in
    let next = c.in-Some.next in
    let more : next ≡ n + 1 = c.in-Some.ensures.1 in
    let es = map event_row c.deref.result.now in
    let begun : Tables → Tables = λ t. with_run (run_row run) (with_next next t) in
    let ds = map derived_row c.deref-2.result.now in
    let two = made_then file c.put_next.new.file c.put_run_row.new.file roots (meta_at ∷ []) (run_at ∷ []) (IsAbove next) (CanAdd n run.digest.now) (CanBegin run head) (with_next next) (with_run (run_row run))
    c.put_run_row.ensures.leaves.keeps.stays.clean (needs_row run head next more) c.in_ok-put_next.ensures.done c.in_ok-put_run_row.ensures.done in
    let three = made_then file c.put_run_row.new.file c.put_events.new.file roots (meta_at ∷ run_at ∷ []) (run_event_at ∷ []) (CanBegin run head) (CanFill (λ t. t.events) (λ line. line.run) n es) (CanBegin run head) begun (with_events es)
    c.put_events.ensures.leaves.keeps.stays.clean (needs_events run head next es (ap (map event_row) c.deref.ensures.value)) two (c.in_ok-put_events.ensures.done n) in
    let p = err_from_is_err_and c.from_residual-in_err-put_derived.result c.from_residual-in_err-put_derived.ensures.1 in
    rw (p.1, p.2) (makes_then file c.put_events.new.file c.put_derived.new.file roots (meta_at ∷ run_at ∷ run_event_at ∷ []) (derived_at ∷ []) (CanBegin run head) (CanFill (λ t. t.derived) (λ line. line.run) n ds) (CanBegin run head)
    (λ t. with_events es (begun t)) (with_derived ds) c.put_derived.ensures.leaves.keeps.stays.clean (needs_derived run head next es ds (ap (map derived_row) c.deref-2.ensures.value)) three
    (λ _. CanBePut derived_at (map derived_columns ds)) (λ _. CanPutHeadOf run head) {B = ⊤} (Err _) (Keeps-trans _ _ _ (Keeps-trans _ _ _ c.put_next.ensures.leaves.keeps c.put_run_row.ensures.leaves.keeps) c.put_events.ensures.leaves.keeps)
    (derived_still run head ds (ap (map derived_row) c.deref-2.ensures.value)) (c.in_err-put_derived.ensures.done n))

pub returns-clause-done : goal.returns-clause-done
returns-clause-done g c =
    let file = c.args.file.now in
    let roots = c.args.roots.now in
    let run = c.args.run.now in
    let head = c.args.head.now in
    let n = run.number in
    let next = c.in-Some.next in
    let more : next ≡ n + 1 = c.in-Some.ensures.1 in
    let suc_is : next ≡ suc n = omega (arith, more) in
    let es = map event_row c.deref.result.now in
    let ds = map derived_row c.deref-2.result.now in
    let ks = map coef_row c.deref-3.result.now in
    let begun : Tables → Tables = λ t. with_run (run_row run) (with_next next t) in
    let after_3 = c.put_coefs.ensures.leaves.keeps.stays.clean in
    let two = made_then file c.put_next.new.file c.put_run_row.new.file roots (meta_at ∷ []) (run_at ∷ []) (IsAbove next) (CanAdd n run.digest.now) (CanBegin run head) (with_next next) (with_run (run_row run))
    c.put_run_row.ensures.leaves.keeps.stays.clean (needs_row run head next more) c.in_ok-put_next.ensures.done c.in_ok-put_run_row.ensures.done in
    let three = made_then file c.put_run_row.new.file c.put_events.new.file roots (meta_at ∷ run_at ∷ []) (run_event_at ∷ []) (CanBegin run head) (CanFill (λ t. t.events) (λ line. line.run) n es) (CanBegin run head) begun (with_events es)
    c.put_events.ensures.leaves.keeps.stays.clean (needs_events run head next es (ap (map event_row) c.deref.ensures.value)) two (c.in_ok-put_events.ensures.done n) in
    let four = made_then file c.put_events.new.file c.put_derived.new.file roots (meta_at ∷ run_at ∷ run_event_at ∷ []) (derived_at ∷ []) (CanBegin run head) (CanFill (λ t. t.derived) (λ line. line.run) n ds) (CanBegin run head)
    (λ t. with_events es (begun t)) (with_derived ds) c.put_derived.ensures.leaves.keeps.stays.clean (needs_derived run head next es ds (ap (map derived_row) c.deref-2.ensures.value)) three (c.in_ok-put_derived.ensures.done n) in
    let keeps = Keeps-trans _ _ _ (Keeps-trans _ _ _ (Keeps-trans _ _ _ c.put_next.ensures.leaves.keeps c.put_run_row.ensures.leaves.keeps) c.put_events.ensures.leaves.keeps) c.put_derived.ensures.leaves.keeps in
    makes_as file c.put_coefs.new.file roots head_tables (CanBegin run head) (λ t. with_coefs ks (with_derived ds (with_events es (begun t)))) (with_head_of run head) (λ _. CanPutHeadOf run head) c.put_coefs.result
    (same_tables run head next es ds ks suc_is (ap (map event_row) c.deref.ensures.value) (ap (map derived_row) c.deref-2.ensures.value) (ap (map coef_row) c.deref-3.ensures.value))
    (makes_then file c.put_derived.new.file c.put_coefs.new.file roots (meta_at ∷ run_at ∷ run_event_at ∷ derived_at ∷ []) (coef_at ∷ []) (CanBegin run head) (CanFill (λ t. t.coefs) (λ line. line.run) n ks) (CanBegin run head)
    (λ t. with_derived ds (with_events es (begun t))) (with_coefs ks) after_3 (needs_coefs run head next es ds ks (ap (map coef_row) c.deref-3.ensures.value)) four
    (λ _. CanBePut coef_at (map coef_columns ks)) (λ _. CanPutHeadOf run head) c.put_coefs.result keeps
    (coefs_still run head ks (ap (map coef_row) c.deref-3.ensures.value)) (c.put_coefs.ensures.done n))

pub returns-in_err-put_run_row-clause-leaves : goal.returns-in_err-put_run_row-clause-leaves
returns-in_err-put_run_row-clause-leaves g c = record { usable = IfOk-from_err c.from_residual-in_err-put_run_row.result _ c.from_residual-in_err-put_run_row.ensures.0; keeps = Keeps-trans _ _ _ c.put_next.ensures.leaves.keeps c.put_run_row.ensures.leaves.keeps }

pub returns-in_err-put_events-clause-leaves : goal.returns-in_err-put_events-clause-leaves
returns-in_err-put_events-clause-leaves g c = record { usable = IfOk-from_err c.from_residual-in_err-put_events.result _ c.from_residual-in_err-put_events.ensures.0; keeps = Keeps-trans _ _ _ (Keeps-trans _ _ _ c.put_next.ensures.leaves.keeps c.put_run_row.ensures.leaves.keeps) c.put_events.ensures.leaves.keeps }

pub returns-in_err-put_derived-clause-leaves : goal.returns-in_err-put_derived-clause-leaves
returns-in_err-put_derived-clause-leaves g c = record { usable = IfOk-from_err c.from_residual-in_err-put_derived.result _ c.from_residual-in_err-put_derived.ensures.0; keeps = Keeps-trans _ _ _ (Keeps-trans _ _ _ (Keeps-trans _ _ _ c.put_next.ensures.leaves.keeps c.put_run_row.ensures.leaves.keeps) c.put_events.ensures.leaves.keeps) c.put_derived.ensures.leaves.keeps }

pub returns-clause-leaves : goal.returns-clause-leaves
returns-clause-leaves g c = record {
  usable = c.put_coefs.ensures.leaves.usable;
  keeps = let events = Keeps-trans _ _ _ (Keeps-trans _ _ _ c.put_next.ensures.leaves.keeps c.put_run_row.ensures.leaves.keeps) c.put_events.ensures.leaves.keeps in
      Keeps-trans _ _ _ (Keeps-trans _ _ _ events c.put_derived.ensures.leaves.keeps) c.put_coefs.ensures.leaves.keeps;
}

pub returns-in_err-put_next-clause-leaves : goal.returns-in_err-put_next-clause-leaves
returns-in_err-put_next-clause-leaves g c = record { usable = IfOk-from_err c.from_residual.result _ c.from_residual.ensures.0; keeps = c.put_next.ensures.leaves.keeps }

pub returns-in_default-clause-leaves : goal.returns-in_default-clause-leaves
returns-in_default-clause-leaves g c = record { usable = tt; keeps = Keeps-refl _ }
