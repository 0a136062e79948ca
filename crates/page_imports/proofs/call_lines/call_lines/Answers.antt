use Rattle.std.proofs.Common.{◌≡◌, List, [], ◌∷◌, ◌++◌, flat_map, length, map, refl, sym, ap, subst, ◌∙◌}
use Rattle.std.specs.Iterator.{Drains, YieldsFirstBy}
use Rattle.std.proofs.lemmas.Iterator.Consumers.{YieldsList-at, YieldsList-from_first, YieldsList-turn}
use Rattle.std.proofs.lemmas.Result.{err_from_is_err_and}
use Rattle.cost_rows.specs.ByNumber.{plain_call}
use Rattle.cost_rows.specs.declared.numbered.CallSum.{CallSum}
use Rattle.run_stores.specs.Files.{call_rows}
use Rattle.page_imports.proofs.RowLines.{rows_drained}
use Rattle.cost_rows.specs.Rows.{content_of}
use Rattle.page_imports.specs.Fits.{CallsFit, PartsFit}
use Rattle.page_imports.specs.Lines.{part_rows}
use Rattle.page_imports.specs.declared.run_names.RunNames.{RunNames}
use Rattle.page_imports.proofs.Failing.{refuses_for}
use Rattle.page_imports.proofs.call_lines.call_lines.Goals as goal

rows_of : (names : RunNames) (calls : List CallSum) → flat_map (part_rows names) calls ≡ call_rows names.run names.numbers.now (map plain_call calls)
rows_of names [] = refl
rows_of names (r ∷ calls) = ap (λ rows. part_rows names r ++ rows) (rows_of names calls)

pub returns-clause-value : goal.returns-clause-value
returns-clause-value c =
    let names = c.args.names.now in
    let calls = c.rows.yielded in
    let all = rows_drained (YieldsFirstBy plain_call (λ s. s)) plain_call c.calls_by_place-calls-items.result _ calls (subst (λ it. Drains (YieldsFirstBy plain_call (λ s. s)) it calls) c.into_iter-calls-iterator.ensures.into_iter_gives (_, (_, c.rows.yielded_by, c.in-None.ensures.steps))) (YieldsList-from_first plain_call (λ s. s) _ c.calls_by_place-calls-items.ensures) in
    c.rows.invariant ∙ rows_of names calls ∙ ap (call_rows names.run names.numbers.now) all

pub returns-in_err-add_calls-clause-refused : goal.returns-in_err-add_calls-clause-refused
returns-in_err-add_calls-clause-refused c =
    let numbers = c.args.names.now.numbers.now in
    let calls = (content_of c.args.rows.now).calls in
    let gives = YieldsList-at c.into_iter-calls-iterator.ensures.into_iter_gives (YieldsList-from_first plain_call (λ s. s) calls c.calls_by_place-calls-items.ensures) in
    let turn = YieldsList-turn gives c.rows.yielded _ c.rows.yielded_by _ _ c.in-Some.calls c.in-Some.is c.next.ensures.steps in
    let p = err_from_is_err_and c.from_residual.result c.from_residual.ensures.1 in
    rw (p.1, p.2) (refuses_for _ (λ (fits : CallsFit numbers calls). subst (PartsFit numbers) (sym turn.1) (fits (length c.rows.yielded) (plain_call c.in-Some.calls) turn.0)) c.in_err-add_calls.ensures.refused)
