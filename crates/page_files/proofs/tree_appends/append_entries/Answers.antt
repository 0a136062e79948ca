use Rattle.std.proofs.Common.{◌≡◌, ◌-◌, ◌<◌, ◌^◌, ℕ, List, Ok, Err, Result, length, take, drop, sym, ap, subst, ◌∙◌, arith, take-append-drop, take_all, length-drop}
use Rattle.std.specs.Borrow.{Bor}
use Rattle.std.proofs.lemmas.List.{drop-map, length-map}
use Rattle.std.proofs.lemmas.List.Elements.{All-drop, All-take}
use Rattle.std.proofs.lemmas.Result.{err_from_is_err_and}
use Rattle.sqlite_btree.proofs.Results.{steps_on, steps_none}
use Rattle.sqlite_pages.specs.declared.error.Error.{Error}
use Rattle.sqlite_record.specs.Strict.{IsRecord}
use Rattle.sqlite_trees.specs.Tree.{insert_entry}
use Rattle.sqlite_trees.specs.declared.store.Shape.TheVariants.{Index}
use Rattle.sqlite_record.specs.Record.{decode}
use Rattle.sqlite_store.specs.Catalog.{reals_at}
use Rattle.sqlite_store.specs.Db.{shown, Edits}
use Rattle.page_files.specs.Places.{place_all, entries_given, FailsToPlace, PlacesFirst}
use Rattle.page_files.proofs.Placing.{placed_more, range_to_end, take_more_of, edits_none}
use Rattle.page_files.proofs.tree_appends.append_entries.Goals as goal

-- the rest of the entries
rest_of : (rows : List (Bor (List ℕ))) (d : ℕ) → entries_given (take (length rows - d) (drop d rows)) ≡ drop d (entries_given rows)
rest_of rows d = ap entries_given (range_to_end rows d) ∙ sym (drop-map (λ (entry : Bor (List ℕ)). decode entry.now) d rows)

pub returns-in_err-done-clause-done : goal.returns-in_err-done-clause-done
returns-in_err-done-clause-done g c = λ clean schema t db names same.
    let given = entries_given c.args.entries.now in
    let d = c.loop-done.done in
    let old = c.loop-done.store in
    let new = c.append_some_entries.new.store in
    let show = shown (Index c.args.order) (reals_at schema t) in
    let edits = c.loop-done.invariant.placed (omega (arith, clean, c.append_some_entries.ensures.kept.clean)) schema t db names same in
    let p = err_from_is_err_and c.from_residual.result c.from_residual.ensures.1 in
    let e = c.in_err-done.field-0.0 in
    let failed : Result ℕ Error = Err e in
    let step = subst (λ news. PlacesFirst g.P.Pages old new (Index c.args.order) c.args.root (insert_entry c.args.order) news failed) (rest_of c.args.entries.now d) c.in_err-done.ensures.done in
    rw (p.1, p.2) (subst (λ news. FailsToPlace g.P.Pages c.args.store.now new schema t c.args.root (insert_entry c.args.order) news e) (take-append-drop d given)
    (placed_more g.P.Pages new c.loop-done.invariant.kept (insert_entry c.args.order) names clean g.met.P.Pages.follows_trans (take d given) (drop d given) edits (All-drop (λ row. show row ≡ row) d given same) failed step))

pub loop-done-preserved : goal.loop-done-preserved
loop-done-preserved g c =
    let given = entries_given c.args.entries.now in
    let d = c.loop-done.done in
    let n = c.in_ok-done.field-0 in
    let old = c.loop-done.store in
    let new = c.append_some_entries.new.store in
    record {
      within = omega (arith, c.loop-done.invariant.within, c.in_ok-done.ensures.within);
      kept = steps_on g.met.P.Pages.follows_trans c.loop-done.invariant.kept c.append_some_entries.ensures.kept;
      placed = λ clean schema t db names same.
          let show = shown (Index c.args.order) (reals_at schema t) in
          let edits = c.loop-done.invariant.placed (omega (arith, clean, c.append_some_entries.ensures.kept.clean)) schema t db names same in
          let taken : Result ℕ Error = Ok n in
          let step = subst (λ news. PlacesFirst g.P.Pages old new (Index c.args.order) c.args.root (insert_entry c.args.order) news taken) (rest_of c.args.entries.now d) c.in_ok-done.ensures.done in
          subst (λ news. Edits (g.P.Pages.size c.args.store.now) schema (g.P.Pages.pages c.args.store.now) (g.P.Pages.pages new) t (place_all (insert_entry c.args.order) news)) (take_more_of given d n)
          (placed_more g.P.Pages new c.loop-done.invariant.kept (insert_entry c.args.order) names clean g.met.P.Pages.follows_trans (take d given) (drop d given) edits (All-drop (λ row. show row ≡ row) d given same) taken step);
    }

pub returns-in_err-done-clause-kept : goal.returns-in_err-done-clause-kept
returns-in_err-done-clause-kept g c = steps_on g.met.P.Pages.follows_trans c.loop-done.invariant.kept c.append_some_entries.ensures.kept

pub returns-clause-kept : goal.returns-clause-kept
returns-clause-kept g c = c.loop-done.invariant.kept

pub loop-done-init : goal.loop-done-init
loop-done-init g c =
    record {
      within = omega arith;
      kept = steps_none g.met.P.Pages.follows_refl;
      placed = λ clean schema t db names same. edits_none db;
    }

pub returns-clause-done : goal.returns-clause-done
returns-clause-done g c = λ clean schema t db names same.
    let given = entries_given c.args.entries.now in
    let all = take_all c.loop-done.done given (omega (arith, c.loop-done-test.false, length-map c.args.entries.now (λ (entry : Bor (List ℕ)). decode entry.now))) in
    subst (λ news. Edits (g.P.Pages.size c.args.store.now) schema (g.P.Pages.pages c.args.store.now) (g.P.Pages.pages c.loop-done.store) t (place_all (insert_entry c.args.order) news)) all
    (c.loop-done.invariant.placed clean schema t db names same)

pub append_some_entries-requires-clause-some : goal.append_some_entries-requires-clause-some
append_some_entries-requires-clause-some g c =
    let d = c.loop-done.done in
    omega (arith, c.loop-done-test.true, ap length (range_to_end c.args.entries.now d), length-drop d c.args.entries.now)

pub append_some_entries-requires-clause-short : goal.append_some_entries-requires-clause-short
append_some_entries-requires-clause-short g c =
    let Fact : Bor (List ℕ) → Type 0 = λ row. length row.now < 2 ^ 31 in
    All-take Fact _ _ (All-drop Fact c.loop-done.done _ c.requires.short)

pub append_some_entries-requires-clause-strict : goal.append_some_entries-requires-clause-strict
append_some_entries-requires-clause-strict g c =
    let Fact : Bor (List ℕ) → Type 0 = λ row. IsRecord row.now in
    All-take Fact _ _ (All-drop Fact c.loop-done.done _ c.requires.strict)
