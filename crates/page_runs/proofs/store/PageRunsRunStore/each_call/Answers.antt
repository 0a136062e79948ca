use Rattle.std.proofs.Common.{refl, sym, subst, arith}
use Rattle.std.proofs.lemmas.Result.{IfOk-from_err, IfOk-weaker}
use Rattle.run_stores.specs.Walks.{CallsFoldTo}
use Rattle.prof_store.specs.Schema.{arc_at}
use Rattle.prof_store.specs.Tables.{arc_columns}
use Rattle.page_lists.specs.Shown.{ShowsLines}
use Rattle.page_lists.specs.Walks.{AreOfRun}
use Rattle.page_runs.proofs.RunLines.{calls_are}
use Rattle.page_runs.proofs.Taken.{large_shown}
use Rattle.page_runs.proofs.States.{asked, none_told, asked_nothing}
use Rattle.page_runs.proofs.store.PageRunsRunStore.each_call.Goals as goal

pub returns-clause-told : goal.returns-clause-told
returns-clause-told g c faithful t is =
    let store = c.args.self.now in
    let sink = g.T.CallSink in
    let start = sink.meaning c.args.sink in
    let made = c.in_ok-table.ensures t is.shows.listed in
    let there = subst (λ n. ShowsLines store.file n arc_at arc_columns t.calls) (sym made.root_is) (large_shown t store is.shows).calls in
    let (lines, are, sums, has) = c.in_ok-taken.ensures.handed faithful there.rows there.shows there.in_order (c.args.events, start) c.new-sink.ensures in
    let same = calls_are t store.file c.in_ok-table.table.root c.args.run (omega arith) there lines (subst (λ n. AreOfRun arc_columns n there.rows lines) made.run_is are) in
    IfOk-weaker c.finish.result _ _ (λ taken comes. subst (CallsFoldTo c.args.events sink.step start (sink.meaning taken)) (sym same) (comes c.args.events start lines has)) c.finish.ensures

pub returns-clause-asks : goal.returns-clause-asks
returns-clause-asks g c = asked _ _ c.each_line.ensures.reads refl refl refl _ (λ _. c.in_ok-if_usable.ensures.usable)

pub returns-in_err-taken-clause-asks : goal.returns-in_err-taken-clause-asks
returns-in_err-taken-clause-asks g c = asked _ _ c.each_line.ensures.reads refl refl refl _ (none_told _ _ c.from_residual-in_err-taken.ensures.0)

pub returns-in_err-if_usable-clause-asks : goal.returns-in_err-if_usable-clause-asks
returns-in_err-if_usable-clause-asks g c = asked _ _ c.each_line.ensures.reads refl refl refl _ (none_told _ _ c.from_residual-in_err-if_usable.ensures.0)

pub returns-in_err-table-clause-told : goal.returns-in_err-table-clause-told
returns-in_err-table-clause-told g c = λ faithful t is. IfOk-from_err c.from_residual.result _ c.from_residual.ensures.0

pub returns-in_err-table-clause-asks : goal.returns-in_err-table-clause-asks
returns-in_err-table-clause-asks g c = asked_nothing _ c.args.self.now (none_told _ _ c.from_residual.ensures.0)

pub returns-in_err-taken-clause-told : goal.returns-in_err-taken-clause-told
returns-in_err-taken-clause-told g c = λ faithful t is. IfOk-from_err c.from_residual-in_err-taken.result _ c.from_residual-in_err-taken.ensures.0

pub returns-in_err-if_usable-clause-told : goal.returns-in_err-if_usable-clause-told
returns-in_err-if_usable-clause-told g c = λ faithful t is. IfOk-from_err c.from_residual-in_err-if_usable.result _ c.from_residual-in_err-if_usable.ensures.0
