use Rattle.std.proofs.Common.{w64, of_z, to_z, ℕ, slice_index, subst, [], ap, ap₂, sym, refl, inl, inr, ◌∙◌, ◌≡◌, to_z-of_z, FitsSigned}
use Rattle.page_rows.specs.Rows.{from_rowid}
use Rattle.page_lists.specs.Walks.{AreOfRun}
use Rattle.page_files.proofs.Reading.{OnlyReads-trans}
use Rattle.page_runs.proofs.PartSums.{all_off, none_off}
use Rattle.page_lists.proofs.RunRows.{all_taken, taken_to_later}
use Rattle.page_lists.proofs.Shows.{shows_after}
use Rattle.page_runs.proofs.run_rows.each_line.Goals as goal

pub returns-in-Ok-clause-handed : goal.returns-in-Ok-clause-handed
returns-in-Ok-clause-handed g c faithful = λ rows is order start begun.
    let t = g.T.LineSink in
    let run = c.args.table.run in
    let sums = c.args.table.sums.items in
    let from = c.in_ok-from.from in
    let earlier = c.in_ok-from.ensures.earlier (c.walk.ensures.reads.keeps.stays.clean faithful) rows is order in
    let there = shows_after _ _ _ rows c.begin_of.ensures.reads is in
    let fits : FitsSigned w64 from = c.in_ok-from.ensures.fits in
    let here : from_rowid (to_z w64 (of_z w64 from)) _ ≡ from_rowid from rows = ap₂ from_rowid (to_z-of_z fits) there.rows_are in
    let nothing : (k : ℕ) → slice_index c.walk.new.sink.left.items k ≡ 0 =
    λ k. ap (λ l. slice_index l k) (sym c.deref.ensures.value) ∙ c.is_nothing.ensures.0 c.if-is_nothing.true k in
    elim (c.in-Ok.ensures.done faithful there.wanted there.t there.shows (run, sums, start) (refl, ([], refl, none_off t.part t.amount sums, begun))) [
      | inl (is_run, (lines, are, leave, has)) ↦
          (lines, all_taken t.columns run from rows lines earlier (subst (λ l. AreOfRun t.columns run l lines) here are), all_off t.part t.amount lines sums _ leave nothing, has)
      | inr (taken, rest, parts, (front, last, is_front, high, (lines, are, leave, has))) ↦ (
        lines,
        taken_to_later t.columns run from rows lines order earlier taken rest front last (sym here ∙ parts) is_front high are,
        all_off t.part t.amount lines sums _ leave nothing,
        has,
      )
    ]

pub returns-in-Ok-clause-reads : goal.returns-in-Ok-clause-reads
returns-in-Ok-clause-reads g c = OnlyReads-trans _ _ _ c.begin_of.ensures.reads c.walk.ensures.reads

pub returns-in-Err-clause-reads : goal.returns-in-Err-clause-reads
returns-in-Err-clause-reads g c = OnlyReads-trans _ _ _ c.begin_of.ensures.reads c.walk.ensures.reads

pub returns-in-Ok-2-clause-reads : goal.returns-in-Ok-2-clause-reads
returns-in-Ok-2-clause-reads g c = OnlyReads-trans _ _ _ c.begin_of.ensures.reads c.walk.ensures.reads
