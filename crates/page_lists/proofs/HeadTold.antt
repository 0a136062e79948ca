-- From the lines that lists have of a run to the head that the tables have.
use Rattle.std.proofs.Common.{◌≡◌, ◌==◌, ℕ, IsTrue, true, List, [], map, filter, unwrap_or, refl, sym, ap, subst, subst₂, ◌∙◌, IsPermutation}
use Rattle.std.specs.List.{list_any}
use Rattle.std.specs.List.Sorted.{IsSortedByKey}
use Rattle.std.specs.Ordering.{nat_cmp}
use Rattle.std.proofs.lemmas.List.Sorted.{IsPermutation-sym, IsPermutation-trans}
use Rattle.cg_formulas.specs.declared.heads.FileHead.{FileHead}
use Rattle.plain_tables.specs.Changes.{has_run}
use Rattle.plain_tables.specs.Tables.{Tables, RunRow, EventRow, DerivedRow, CoefRow}
use Rattle.run_stores.specs.HeldHeads.{IsHeadIn, coef_of_line, derived_names, event_of_line, name_of_line}
use Rattle.run_lists.specs.HeadLines.{IsReadFrom, derived_place, entry_of_coef, entry_of_event}
use Rattle.run_lists.specs.declared.head_lines.HeadEvent.{HeadEvent}
use Rattle.run_lists.specs.declared.head_lines.HeadDerived.{HeadDerived}
use Rattle.run_lists.specs.declared.head_lines.HeadCoef.{HeadCoef}
use Rattle.run_lists.specs.Listed.{AreListed, run_row, coef_row, derived_row, event_row}
use Rattle.run_lists.specs.declared.listed.RunLists.{RunLists}
use Rattle.run_lists.specs.declared.listed.ListedRun.{ListedRun}
use Rattle.page_lists.specs.Heads.{AreInPlaces}
use Rattle.page_lists.proofs.HeadLists.{any_row, kept}
use Rattle.page_lists.proofs.HeadOrder.{coefs_sorted, derived_sorted, events_sorted}

one_another : {X : Type 0} {rows xs ys : List X} → IsPermutation rows xs → IsPermutation rows ys → IsPermutation xs ys
one_another {rows = rows} {xs = xs} {ys = ys} a b = IsPermutation-trans xs rows ys (IsPermutation-sym rows xs a) b

module _ (t : Tables) (lists : RunLists) (listed : AreListed t lists) (run : ℕ) where
  pub run_held : (runs : List ListedRun) → runs ≡ lists.runs.items → list_any (λ (r : ListedRun). r.entry.number == run) runs ≡ true → IsTrue (has_run t run)
  run_held runs same is =
      let rows : map run_row runs ≡ t.runs = ap (map run_row) same ∙ listed.runs in
      subst (λ (l : List RunRow). IsTrue (list_any (λ (r : RunRow). r.number == run) l)) rows (sym (any_row run_row (λ (r : RunRow). r.number == run) (λ (r : ListedRun). r.entry.number == run) (λ r. refl) runs) ∙ is)

  pub run_listed : (runs : List ListedRun) → runs ≡ lists.runs.items → IsTrue (has_run t run) → list_any (λ (r : ListedRun). r.entry.number == run) runs ≡ true
  run_listed runs same held =
      any_row run_row (λ (r : RunRow). r.number == run) (λ (r : ListedRun). r.entry.number == run) (λ r. refl) runs ∙ ap (list_any (λ (r : RunRow). r.number == run)) (ap (map run_row) same ∙ listed.runs) ∙ held

  -- the lines of a run, in whatever order, say the head that was read of them
  pub head_told : (head : FileHead) (events : List HeadEvent) (derived : List HeadDerived) (coefs : List HeadCoef) → IsTrue (has_run t run) → IsReadFrom head events derived coefs
      → IsPermutation (kept event_row (λ (e : EventRow). e.run == run) event_of_line lists.events) (map entry_of_event events)
      → IsPermutation (kept derived_row (λ (d : DerivedRow). d.run == run) name_of_line lists.derived) (map derived_place derived)
      → IsPermutation (kept coef_row (λ (c : CoefRow). c.run == run) coef_of_line lists.coefs) (map entry_of_coef coefs) → IsHeadIn run t head
  head_told head events derived coefs held read es ds cs = record {
    is_held = held;
    sound = read.sound;
    events_are = subst₂ IsPermutation (ap (λ rows. map event_of_line (filter (λ (e : EventRow). e.run == run) rows)) listed.events) read.events_are es;
    derived_are = subst₂ IsPermutation (ap (λ rows. map name_of_line (filter (λ (d : DerivedRow). d.run == run) rows)) listed.derived) read.derived_are ds;
    coefs_are = subst₂ IsPermutation (ap (λ rows. map coef_of_line (filter (λ (c : CoefRow). c.run == run) rows)) listed.coefs) read.coefs_are cs;
  }

  -- lines in the order of their places say each head that the tables have
  pub head_read : (head : FileHead) (events : List HeadEvent) (derived : List HeadDerived) (coefs : List HeadCoef) → IsHeadIn run t head
      → IsPermutation (kept event_row (λ (e : EventRow). e.run == run) event_of_line lists.events) (map entry_of_event events)
      → IsPermutation (kept derived_row (λ (d : DerivedRow). d.run == run) name_of_line lists.derived) (map derived_place derived)
      → IsPermutation (kept coef_row (λ (c : CoefRow). c.run == run) coef_of_line lists.coefs) (map entry_of_coef coefs)
      → IsSortedByKey (λ (e : HeadEvent). e.place) nat_cmp events
      → IsSortedByKey (λ (d : HeadDerived). d.place) nat_cmp derived
      → AreInPlaces coefs → IsReadFrom head events derived coefs
  head_read head events derived coefs said es ds cs in_events in_derived in_coefs =
      let events_same = subst (λ rows. IsPermutation (map event_of_line (filter (λ (e : EventRow). e.run == run) rows)) (map entry_of_event events)) listed.events es in
      let derived_same = subst (λ rows. IsPermutation (map name_of_line (filter (λ (d : DerivedRow). d.run == run) rows)) (map derived_place derived)) listed.derived ds in
      let coefs_same = subst (λ rows. IsPermutation (map coef_of_line (filter (λ (c : CoefRow). c.run == run) rows)) (map entry_of_coef coefs)) listed.coefs cs in record {
        sound = said.sound;
        events_are = events_sorted events head.events (unwrap_or head.stated []) in_events (one_another said.events_are events_same);
        derived_are = derived_sorted derived (derived_names head) in_derived (one_another said.derived_are derived_same);
        coefs_are = coefs_sorted coefs (map (λ d. d.1) head.derived.derived) in_coefs (one_another said.coefs_are coefs_same);
      }
