use Rattle.std.proofs.Common.{◌+◌, refl, sym, inl, inr}
use Rattle.std.proofs.lemmas.Bool.{true≢false, cases_lt}
use Rattle.cost_rows.specs.Admit.{bound}
use Rattle.cost_rows.specs.declared.limits.Side.TheVariants.{SelfCost, CallCost}
use Rattle.cost_rows.proofs.AdmitLemmas.{columns-are, own-above, calls-above, number-above, number-fits}
use Rattle.cost_rows.proofs.limits.admit.Goals as goal

pub returns-in-Some : goal.returns-in-Some
returns-in-Some c =
    own-above c.args.held.now c.args.file.now c.in-Some.overflow
    (columns-are SelfCost _ _ _ _ _ c.as_slice.ensures c.as_slice-2.ensures c.in-Some.ensures)

pub returns-in-Some-first_overflow : goal.returns-in-Some-first_overflow
returns-in-Some-first_overflow c =
    calls-above c.args.held.now c.args.file.now c.in-Some-first_overflow.overflow
    (columns-are SelfCost _ _ _ _ _ c.as_slice.ensures c.as_slice-2.ensures c.in_default.ensures)
    (columns-are CallCost _ _ _ _ _ c.as_slice-3.ensures c.as_slice-4.ensures c.in-Some-first_overflow.ensures)

pub returns-then-passes : goal.returns-then-passes
returns-then-passes c =
    number-above c.args.held.now c.args.file.now
    (columns-are SelfCost _ _ _ _ _ c.as_slice.ensures c.as_slice-2.ensures c.in_default.ensures)
    (columns-are CallCost _ _ _ _ _ c.as_slice-3.ensures c.as_slice-4.ensures c.in_default-first_overflow.ensures)
    (c.if-passes.ensures.0 refl)

pub returns : goal.returns
returns c =
    number-fits c.args.held.now c.args.file.now
    (columns-are SelfCost _ _ _ _ _ c.as_slice.ensures c.as_slice-2.ensures c.in_default.ensures)
    (columns-are CallCost _ _ _ _ _ c.as_slice-3.ensures c.as_slice-4.ensures c.in_default-first_overflow.ensures)
    (elim (cases_lt bound (c.args.held.now.call_count + c.args.file.now.call_count)) [ inl h ↦ absurd (true≢false (sym (c.if-passes.ensures.1 h))) | inr h ↦ h ])
