use Rattle.std.proofs.Common.{◌+◌, ◌<◌, ◌^◌, ℕ, List, length, map, sym, subst}
use Rattle.std.proofs.lemmas.List.{length-map}
use Rattle.std.proofs.lemmas.Result.{IfOk-from_err, err_from_is_err_and}
use Rattle.sqlite_pool.specs.Pool.{state}
use Rattle.sqlite_pool.specs.StoredLaws.{Keeps-refl, Keeps-trans}
use Rattle.sqlite_value.specs.Order.{Row}
use Rattle.page_files.proofs.Steps.{writes_after}
use Rattle.page_places.specs.Places.{indexes_of}
use Rattle.page_places.proofs.Outcomes.{match_result}
use Rattle.page_places.proofs.Failing.{store_fails_later}
use Rattle.line_fills.specs.Causes.{CanBeFilledIn, HasRoom}
use Rattle.line_fills.proofs.Whole.{behind, can_be_filled, whole_filled, with_news}
use Rattle.line_fills.proofs.fills.fill.Goals as goal

room_for : {X : Type 0} (lines : List X) (columns : X → Row) (first : ℕ) → first + length lines < 2 ^ 63 → first + length (map columns lines) < 2 ^ 63
room_for lines columns first room = subst (λ n. first + n < 2 ^ 63) (sym (length-map lines columns)) room

pub returns-in_err-append_rows-clause-leaves : goal.returns-in_err-append_rows-clause-leaves
returns-in_err-append_rows-clause-leaves g c = record { usable = IfOk-from_err c.from_residual-in_err-append_rows.result _ c.from_residual-in_err-append_rows.ensures.0; keeps = Keeps-trans _ _ _ c.first_rowid.ensures.reads.keeps c.append_rows.ensures.keeps }

pub returns-clause-done : goal.returns-clause-done
returns-clause-done g c faithful = λ schema wanted roots was now table shows.
    let at = shows.placed in
    let read = c.first_rowid.new.file in
    let mid = c.append_rows.new.file in
    let new = c.fill_indexes.new.file in
    let first = c.in_ok-first.first in
    let lines = map g.L.PageLine.columns c.args.lines.now in
    let still = c.fill_indexes.ensures.keeps.stays.clean faithful in
    let clean = c.append_rows.ensures.keeps.stays.clean still in
    let above = c.in_ok-first.ensures.above clean schema wanted roots was now table shows in
    let is = c.in_ok-first.ensures.first clean schema wanted roots was now table shows in
    let before = writes_after c.args.file.now read c.first_rowid.ensures.reads clean c.in_ok-first.ensures.usable shows.writes in
    let placed = c.in_ok-append_rows.ensures.done still wanted roots was now table.tree before at.at at.no_reals in
    let place = c.args.place.now in
    let w = behind place schema wanted roots was now table at shows.indexed read before first lines above mid placed in
    let can = can_be_filled place schema wanted roots was now table at shows.indexed read before first lines above mid placed in
    let trees = with_news place schema wanted roots was now table at shows.indexed read before first lines above in
    let keeps = Keeps-trans _ _ _ c.first_rowid.ensures.reads.keeps c.append_rows.ensures.keeps in
    match_result c.fill_indexes.result (whole_filled place schema wanted roots was now table at shows.indexed read before first lines above mid placed new is)
    (λ e. store_fails_later c.args.file.now mid new e keeps (λ (can : CanBeFilledIn lines (now table.tree) (indexes_of schema table)). can.entered first (room_for c.args.lines.now g.L.PageLine.columns first c.in_ok-first.ensures.room)))
    (c.fill_indexes.ensures.done faithful wanted roots was trees (indexes_of schema table) (now table.tree) w at.indexes can)

pub returns-clause-leaves : goal.returns-clause-leaves
returns-clause-leaves g c = record { usable = c.fill_indexes.ensures.usable (c.in_ok-append_rows.ensures.usable c.in_ok-first.ensures.usable); keeps = Keeps-trans _ _ _ c.first_rowid.ensures.reads.keeps (Keeps-trans _ _ _ c.append_rows.ensures.keeps c.fill_indexes.ensures.keeps) }

pub returns-in_err-first-clause-done : goal.returns-in_err-first-clause-done
returns-in_err-first-clause-done g c faithful = λ schema wanted roots was now table shows.
    let file = c.args.file.now in
    let lines = c.args.lines.now in
    let columns = g.L.PageLine.columns in
    let p = err_from_is_err_and c.from_residual.result c.from_residual.ensures.1 in
    rw (p.1, p.2) (store_fails_later file file c.first_rowid.new.file _ (Keeps-refl (state file.pool))
    (λ (can : CanBeFilledIn (map columns lines) (now table.tree) (indexes_of schema table)). subst (HasRoom (now table.tree)) (length-map lines columns) can.room)
    (c.in_err-first.ensures.failed faithful schema wanted roots was now table shows))

pub returns-in_err-append_rows-clause-done : goal.returns-in_err-append_rows-clause-done
returns-in_err-append_rows-clause-done g c faithful = λ schema wanted roots was now table shows.
    let at = shows.placed in
    let read = c.first_rowid.new.file in
    let clean = c.append_rows.ensures.keeps.stays.clean faithful in
    let before = writes_after c.args.file.now read c.first_rowid.ensures.reads clean c.in_ok-first.ensures.usable shows.writes in
    let p = err_from_is_err_and c.from_residual-in_err-append_rows.result c.from_residual-in_err-append_rows.ensures.1 in
    rw (p.1, p.2) (store_fails_later c.args.file.now read c.append_rows.new.file _ c.first_rowid.ensures.reads.keeps
    (λ (can : CanBeFilledIn (map g.L.PageLine.columns c.args.lines.now) (now table.tree) (indexes_of schema table)). can.records)
    (c.in_err-append_rows.ensures.done faithful wanted roots was now table.tree before at.at at.no_reals))
