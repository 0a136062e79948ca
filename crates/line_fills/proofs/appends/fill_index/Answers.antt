use Rattle.std.proofs.Common.{◌≡◌, IfSome, IsPermutation, length, map, sym, subst, refl}
use Rattle.std.specs.List.{range_with_len}
use Rattle.std.proofs.lemmas.List.{length-map}
use Rattle.std.proofs.lemmas.List.Sorted.{All-permutation}
use Rattle.std.proofs.lemmas.Result.{IfOk-from_err, err_from_is_err_and}
use Rattle.sqlite_pool.specs.Pool.{state}
use Rattle.sqlite_pool.specs.StoredLaws.{Keeps-refl}
use Rattle.sqlite_sql.specs.Catalog.{entry_of}
use Rattle.page_places.proofs.Outcomes.{match_result}
use Rattle.page_places.proofs.Failing.{memory_fails, store_fails_later}
use Rattle.line_fills.specs.Causes.{CanEnter, HasRecord}
use Rattle.line_fills.specs.Rows.{KeysRise, entries_at, numbered}
use Rattle.line_fills.proofs.Parts.{places_within}
use Rattle.line_fills.proofs.Sorted.{sorted_entries}
use Rattle.line_fills.proofs.appends.fill_index.Goals as goal

pub insert_entries-requires-clause-within : goal.insert_entries-requires-clause-within
insert_entries-requires-clause-within g c =
    let all = subst (λ found. IfSome found (λ places. IsPermutation (range_with_len 0 (length c.args.lines.now)) places.items)) c.in-Some.is c.in_ok-places.ensures.all in
    rw c.as_slice.ensures.value (places_within c.args.lines.now c.in-Some.places.items all)

pub returns-clause-done : goal.returns-clause-done
returns-clause-done g c faithful = λ wanted roots was now t w is none.
    let columns = c.args.index.now.columns.now in
    let lines = map g.L.PageLine.columns c.args.lines.now in
    let places = c.as_slice.result.now in
    let count : length c.args.lines.now ≡ length lines = sym (length-map c.args.lines.now g.L.PageLine.columns) in
    let all = subst (λ found. IfSome found (λ it. IsPermutation (range_with_len 0 (length c.args.lines.now)) it.items)) c.in-Some.is c.in_ok-places.ensures.all in
    let rise = subst (λ found. IfSome found (λ it. KeysRise columns c.args.first lines it.items)) c.in-Some.is c.in_ok-places.ensures.rise in
    let order : IsPermutation (range_with_len 0 (length lines)) places =
    subst (λ n. IsPermutation (range_with_len 0 n) places) count (subst (IsPermutation (range_with_len 0 (length c.args.lines.now))) (sym c.as_slice.ensures.value) all) in
    let up : KeysRise columns c.args.first lines places = subst (KeysRise columns c.args.first lines) (sym c.as_slice.ensures.value) rise in
    let news = numbered c.args.first lines in
    let entries = entries_at columns c.args.first lines places in
    let of_news : IsPermutation (map (entry_of columns) news) entries = (sorted_entries columns c.args.first lines places order up).are_of in
    match_result c.insert_entries.result (λ done. (entries, sorted_entries columns c.args.first lines places order up, done))
    (λ e. store_fails_later c.args.file.now c.args.file.now c.insert_entries.new.file e (Keeps-refl (state c.args.file.now.pool))
    (λ (can : CanEnter columns news). All-permutation HasRecord (map (entry_of columns) news) entries of_news can.records))
    (c.insert_entries.ensures.done faithful wanted roots was now t w is none)

pub returns-in_err-places-clause-done : goal.returns-in_err-places-clause-done
returns-in_err-places-clause-done g c faithful = λ wanted roots was now t w is none.
    let p = err_from_is_err_and c.from_residual.result c.from_residual.ensures.1 in
    rw p.1 (memory_fails c.args.file.now c.args.file.now p.0 p.2)

pub returns-in_err-places-clause-usable : goal.returns-in_err-places-clause-usable
returns-in_err-places-clause-usable g c = λ usable. IfOk-from_err c.from_residual.result _ c.from_residual.ensures.0

pub returns-in_err-places-clause-keeps : goal.returns-in_err-places-clause-keeps
returns-in_err-places-clause-keeps g c = Keeps-refl _

pub returns-clause-usable : goal.returns-clause-usable
returns-clause-usable g c = c.insert_entries.ensures.usable

pub returns-clause-keeps : goal.returns-clause-keeps
returns-clause-keeps g c = c.insert_entries.ensures.keeps
