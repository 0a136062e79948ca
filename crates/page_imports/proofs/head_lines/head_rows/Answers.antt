use Rattle.std.proofs.Common.{◌≤◌, ◌^◌, ℕ, List, All, length, sym, subst}
use Rattle.page_imports.specs.RowFits.{CoefsFit, DerivedFit, HeadFits}
use Rattle.page_imports.specs.Sums.{AllFit}
use Rattle.page_imports.proofs.Refusals.{refused_on}
use Rattle.page_imports.proofs.head_lines.head_rows.Goals as goal

pub returns-in_err-event_rows-clause-refused : goal.returns-in_err-event_rows-clause-refused
returns-in_err-event_rows-clause-refused c = λ content are.
    let head = c.args.head.now in
    refused_on c.from_residual.result _ (AllFit head content × (length head.events ≤ 2 ^ 32)) (HeadFits head content) c.from_residual.ensures.1 (λ fits. (fits.sums, fits.events)) (c.in_err-event_rows.ensures.refused content are)

pub returns-in_err-derived_rows-clause-refused : goal.returns-in_err-derived_rows-clause-refused
returns-in_err-derived_rows-clause-refused c = λ content are.
    let derived = c.as_slice-derived.result.now in
    refused_on c.from_residual-in_err-derived_rows.result _ (DerivedFit derived) (HeadFits c.args.head.now content) c.from_residual-in_err-derived_rows.ensures.1
    (λ fits. subst DerivedFit (sym c.as_slice-derived.ensures) fits.derived) c.in_err-derived_rows.ensures.refused

pub returns-in_err-coef_rows-clause-refused : goal.returns-in_err-coef_rows-clause-refused
returns-in_err-coef_rows-clause-refused c = λ content are.
    let AllCoefs : List (List ℕ × List ℕ) → Type 0 = λ derived. DerivedFit derived × All (λ (d : List ℕ × List ℕ). CoefsFit d.1) derived in
    let derived = c.as_slice-derived.result.now in
    refused_on c.from_residual-in_err-coef_rows.result _ (AllCoefs derived) (HeadFits c.args.head.now content) c.from_residual-in_err-coef_rows.ensures.1
    (λ fits. subst AllCoefs (sym c.as_slice-derived.ensures) (fits.derived, fits.coefs)) c.in_err-coef_rows.ensures.refused
