use Rattle.std.proofs.Common.{refl, sym, subst, arith}
use Rattle.run_stores.specs.Walks.{CellsFoldTo}
use Rattle.plain_tables.specs.RunRows.{cells_in}
use Rattle.plain_tables.specs.Tables.{Tables}
use Rattle.prof_store.specs.Schema.{thread_cell_at}
use Rattle.prof_store.specs.Tables.{cell_columns}
use Rattle.page_files.specs.Files.{IsFaithful}
use Rattle.page_lists.specs.Shown.{ShowsLines}
use Rattle.page_lists.specs.Walks.{AreOfRun}
use Rattle.page_runs.proofs.RunLines.{cells_are}
use Rattle.page_runs.proofs.Taken.{large_shown}
use Rattle.page_runs.specs.Kept.{HasGathered}
use Rattle.page_runs.specs.States.{ShowsTables}
use Rattle.page_runs.proofs.States.{asked, asked_keeping, none_told, stays_read, asked_nothing, asked_usable}
use Rattle.std.proofs.lemmas.Result.{IfOk-from_err}
use Rattle.page_runs.proofs.store.PageRunsRunStore.each_cell.Given.{Over}
use Rattle.page_runs.proofs.store.PageRunsRunStore.each_cell.Goals as goal

-- what was taken of the rows, and gathered of them
taken : (g : Over) (c : goal.After-finish g) (t : Tables) → IsFaithful c.each_line.new.file → ShowsTables t c.args.self.now
    → CellsFoldTo c.args.events g.T.CellSink.step (g.T.CellSink.meaning c.args.sink) (g.T.CellSink.meaning c.finish.result) (cells_in c.args.run t) × HasGathered (cells_in c.args.run t) c.in_ok-taken.taken.gathered
taken g c t faithful shows =
    let store = c.args.self.now in
    let sink = g.T.CellSink in
    let start = sink.meaning c.args.sink in
    let made = c.in_ok-table.ensures t shows.listed in
    let there = subst (λ n. ShowsLines store.file n thread_cell_at cell_columns t.cells) (sym made.root_is) (large_shown t store shows).cells in
    let (lines, are, sums, (has, gathered)) = c.in_ok-taken.ensures.handed faithful there.rows there.shows there.in_order (c.args.events, start) (c.new.ensures, c.begin.ensures) in
    let same = cells_are t store.file c.in_ok-table.table.root c.args.run (omega arith) there lines (subst (λ n. AreOfRun cell_columns n there.rows lines) made.run_is are) in (
      subst (CellsFoldTo c.args.events sink.step start (sink.meaning c.finish.result)) (sym same) (c.finish.ensures c.args.events start lines has),
      subst (λ l. HasGathered l c.in_ok-taken.taken.gathered) (sym same) gathered,
    )

pub returns-clause-told : goal.returns-clause-told
returns-clause-told g c faithful t is = (taken g c t faithful is.shows).0

pub returns-clause-asks : goal.returns-clause-asks
returns-clause-asks g c =
    asked_keeping _ _ (stays_read _ _ c.each_line.ensures.reads) refl refl
    (λ clean t is. c.keep.ensures.kept t is.kept_cells (taken g c t clean is).1)
    _ (λ _. c.in_ok-if_usable-2.ensures.usable)

pub returns-in_err-taken-clause-asks : goal.returns-in_err-taken-clause-asks
returns-in_err-taken-clause-asks g c = asked _ _ c.each_line.ensures.reads refl refl refl _ (none_told _ _ c.from_residual-in_err-taken.ensures.0)

pub returns-in_err-if_usable-2-clause-asks : goal.returns-in_err-if_usable-2-clause-asks
returns-in_err-if_usable-2-clause-asks g c = asked _ _ c.each_line.ensures.reads refl refl refl _ (none_told _ _ c.from_residual-in_err-if_usable-2.ensures.0)

pub returns-in_err-table-clause-told : goal.returns-in_err-table-clause-told
returns-in_err-table-clause-told g c = λ faithful t is. IfOk-from_err c.from_residual-in_err-table.result _ c.from_residual-in_err-table.ensures.0

pub returns-in_err-table-clause-asks : goal.returns-in_err-table-clause-asks
returns-in_err-table-clause-asks g c = asked_nothing _ c.args.self.now (none_told _ _ c.from_residual-in_err-table.ensures.0)

pub returns-in_err-taken-clause-told : goal.returns-in_err-taken-clause-told
returns-in_err-taken-clause-told g c = λ faithful t is. IfOk-from_err c.from_residual-in_err-taken.result _ c.from_residual-in_err-taken.ensures.0

pub returns-in_err-if_usable-2-clause-told : goal.returns-in_err-if_usable-2-clause-told
returns-in_err-if_usable-2-clause-told g c = λ faithful t is. IfOk-from_err c.from_residual-in_err-if_usable-2.result _ c.from_residual-in_err-if_usable-2.ensures.0

pub returns-in_err-if_usable-clause-told : goal.returns-in_err-if_usable-clause-told
returns-in_err-if_usable-clause-told g c = λ faithful t is. IfOk-from_err c.from_residual.result _ c.from_residual.ensures.0

pub returns-in_err-if_usable-clause-asks : goal.returns-in_err-if_usable-clause-asks
returns-in_err-if_usable-clause-asks g c = asked_nothing _ c.args.self.now (none_told _ _ c.from_residual.ensures.0)

pub returns-in-Some-clause-told : goal.returns-in-Some-clause-told
returns-in-Some-clause-told g c = λ faithful t is. c.each_kept.ensures (cells_in c.args.run t) (c.in-Some.ensures t is.shows.kept_cells)

pub returns-in-Some-clause-asks : goal.returns-in-Some-clause-asks
returns-in-Some-clause-asks g c = asked_usable c.args.self.now c.in_ok-if_usable.ensures.usable _
