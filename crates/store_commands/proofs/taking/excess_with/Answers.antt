use Rattle.std.proofs.Common.{true, Some, sym, ap, subst, ◌∙◌, length, option_map}
use Rattle.run_stores.specs.Totals.{IsHeldIn}
use Rattle.histories.specs.Sums.{excess_at}
use Rattle.std.proofs.lemmas.Result.{IfOk-from_err}
use Rattle.run_stores.proofs.Calls.{asked_err, asked_refused}
use Rattle.store_commands.proofs.taking.excess_with.Goals as goal

pub admit-requires-clause-self_cost : goal.admit-requires-clause-self_cost
admit-requires-clause-self_cost g c = c.in_ok-totals.ensures.columns.0 ∙ ap length c.as_slice.ensures ∙ sym c.args.file.now.summed.self_columns

pub admit-requires-clause-call_cost : goal.admit-requires-clause-call_cost
admit-requires-clause-call_cost g c = c.in_ok-totals.ensures.columns.1 ∙ ap length c.as_slice.ensures ∙ sym c.args.file.now.summed.call_columns

pub returns-in-Ok-clause-told : goal.returns-in-Ok-clause-told
returns-in-Ok-clause-told g c clean t represents = record {
  held = c.in_ok-totals.totals;
  added = c.args.file.now.totals;
  are_held = subst (λ l. IsHeldIn t l c.in_ok-totals.totals) c.as_slice.ensures (c.in_ok-totals.ensures.told clean t represents);
  are_added = c.args.file.now.summed;
  excess_is = sym (ap (option_map (excess_at c.args.file.now.head.now.events)) c.in-Ok.ensures);
}

pub returns-clause-told : goal.returns-clause-told
returns-clause-told g c clean t represents = record {
  held = c.in_ok-totals.totals;
  added = c.args.file.now.totals;
  are_held = subst (λ l. IsHeldIn t l c.in_ok-totals.totals) c.as_slice.ensures (c.in_ok-totals.ensures.told clean t represents);
  are_added = c.args.file.now.summed;
  excess_is = ap (λ e. Some e) (c.in_ok-excess-in-Err.ensures ∙ ap (λ l. excess_at l c.in-Err.overflow) c.as_slice-in-Err.ensures) ∙ sym (ap (option_map (excess_at c.args.file.now.head.now.events)) c.in-Err.ensures);
}

pub returns-in_err-totals-clause-told : goal.returns-in_err-totals-clause-told
returns-in_err-totals-clause-told g c = λ clean t was. IfOk-from_err c.from_residual.result _ c.from_residual.ensures.0

pub returns-in_err-excess-in-Err-clause-told : goal.returns-in_err-excess-in-Err-clause-told
returns-in_err-excess-in-Err-clause-told g c = λ clean t was. IfOk-from_err c.from_residual-in_err-excess-in-Err.result _ c.from_residual-in_err-excess-in-Err.ensures.0

pub returns-in_err-totals-clause-asks : goal.returns-in_err-totals-clause-asks
returns-in_err-totals-clause-asks g c = λ clean.
    let last = c.in_err-totals.ensures.asks clean in
    asked_err g.S.StoreState c.from_residual.result _ _ c.from_residual.ensures.0 last

pub returns-in_err-excess-in-Err-clause-asks : goal.returns-in_err-excess-in-Err-clause-asks
returns-in_err-excess-in-Err-clause-asks g c = λ clean. asked_err g.S.StoreState c.from_residual-in_err-excess-in-Err.result _ _ c.from_residual-in_err-excess-in-Err.ensures.0 (asked_refused g.S.StoreState true _ _ (c.in_ok-totals.ensures.asks clean))

pub returns-in-Ok-clause-asks : goal.returns-in-Ok-clause-asks
returns-in-Ok-clause-asks g c = c.in_ok-totals.ensures.asks

pub returns-clause-asks : goal.returns-clause-asks
returns-clause-asks g c = c.in_ok-totals.ensures.asks
