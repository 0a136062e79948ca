use Rattle.std.proofs.Common.{◌≡◌, suc, ◌-◌, ◌<◌, true, ℕ, List, length, [], ◌∷◌, inl, inr, refl, sym, ap, ap₂, subst, subst₂, ◌∙◌, arith}
use Rattle.std.proofs.lemmas.Bool.{OnTrue_at, cases_eq}
use Rattle.sqlite_format.specs.Page.{IsPage}
use Rattle.sqlite_btree.specs.Aims.{new_entry}
use Rattle.sqlite_btree.specs.Stored.{precedes}
use Rattle.page_files.specs.Leaves.{leaf_of, TakesRows}
use Rattle.page_files.specs.Rows.{NewRow, entry_from, row_at}
use Rattle.page_files.proofs.NewCells.{more_rows, one_more}
use Rattle.page_files.proofs.cells.put_rows.Goals.{else-i-gt0-via-then-i-gt0+else-not-follows, else-i-gt0-via-else-i-gt0}
use Rattle.std.proofs.lemmas.Result.{IfOk-from_err}
use Rattle.page_files.proofs.cells.put_rows.Goals as goal

pub loop-i-preserved : goal.loop-i-preserved
loop-i-preserved g c =
    let t = g.R.NewRows.kind c.args.rows.now in
    let order = g.R.NewRows.order c.args.rows.now in
    let rows = g.R.NewRows.rows c.args.rows.now in
    let i = c.loop-i.i in
    let within : i < length rows = omega (arith, c.count-i-end.ensures) in
    let entry = entry_from t (row_at rows i) in
    record {
      keyed = λ j below. elim (cases_eq j i) [
        | inl e ↦ subst (g.R.NewRows.is_keyed c.args.rows.now) (sym e) c.key-in-loop-i.ensures.keyed
        | inr other ↦ c.loop-i.invariant.keyed j (omega (arith, other))
      ];
      rise = λ j below. elim (cases_eq (suc j) i) [
        | inl e ↦ elim c.else-i-gt0.branch [
          | else-i-gt0-via-then-i-gt0+else-not-follows w ↦
              let here : i - 1 ≡ j = omega (arith, e) in
              let before : entry_from t (w.key.result, w.payload.result.now) ≡ entry_from t (row_at rows j) =
              ap₂ (new_entry t) w.key.ensures.value w.payload.ensures ∙ ap (λ k. entry_from t (row_at rows k)) here in
              subst (λ k. precedes t order (entry_from t (row_at rows j)) (entry_from t (row_at rows k)) ≡ true) (sym e)
              (subst (λ x. precedes t order x entry ≡ true) before (w.if-not-follows.ensures refl))
          | else-i-gt0-via-else-i-gt0 w ↦ absurd (omega (arith, w.if-i-gt0.false, e))
        ]
        | inr other ↦ c.loop-i.invariant.rise j (omega (arith, other))
      ];
      done = λ sound.
          let was = c.loop-i.invariant.done sound in
          let old = c.args.bytes.now in
          let mid = c.loop-i.bytes in
          let new = c.put_cell.new.bytes in
          let header = c.args.header in
          let next : entry_from c.tree-tree.result (c.key-in-loop-i.result, c.payload-in-loop-i.result.now) ≡ entry = ap₂ (λ u (r : NewRow). new_entry u r.0 r.1) c.tree-tree.ensures (ap₂ (λ (k : ℕ) (p : List ℕ). (k, p)) c.key-in-loop-i.ensures.value c.payload-in-loop-i.ensures) in
          let made = OnTrue_at {P = TakesRows c.tree-tree.result mid new header (entry_from c.tree-tree.result (c.key-in-loop-i.result, c.payload-in-loop-i.result.now) ∷ [])} c.if-not-put.false
          (c.in_ok-put.ensures.done (subst (λ u. IsPage (leaf_of u) mid header) (sym c.tree-tree.ensures) was.sound)) in
          let put : TakesRows t mid new header (entry ∷ []) = subst₂ (λ u e. TakesRows u mid new header (e ∷ [])) c.tree-tree.ensures next made in
          subst (TakesRows t old new header) (sym (one_more t rows i within)) (more_rows was (omega (arith, c.loop-i.auto.bytes)) put);
    }

pub returns-in_err-put-clause-within : goal.returns-in_err-put-clause-within
returns-in_err-put-clause-within g c = IfOk-from_err c.from_residual.result _ c.from_residual.ensures.0

pub returns-in_err-put-clause-keyed : goal.returns-in_err-put-clause-keyed
returns-in_err-put-clause-keyed g c = IfOk-from_err c.from_residual.result _ c.from_residual.ensures.0

pub returns-in_err-put-clause-rise : goal.returns-in_err-put-clause-rise
returns-in_err-put-clause-rise g c = IfOk-from_err c.from_residual.result _ c.from_residual.ensures.0

pub returns-in_err-put-clause-done : goal.returns-in_err-put-clause-done
returns-in_err-put-clause-done g c = λ sound. IfOk-from_err c.from_residual.result _ c.from_residual.ensures.0

pub returns-in_err-put-clause-len : goal.returns-in_err-put-clause-len
returns-in_err-put-clause-len g c = omega (arith, c.loop-i.auto.bytes, c.put_cell.ensures.len)

pub returns-then-not-follows-clause-within : goal.returns-then-not-follows-clause-within
returns-then-not-follows-clause-within g c = omega (arith, c.count-i-end.ensures)

pub returns-then-not-follows-clause-keyed : goal.returns-then-not-follows-clause-keyed
returns-then-not-follows-clause-keyed g c = c.loop-i.invariant.keyed

pub returns-then-not-follows-clause-rise : goal.returns-then-not-follows-clause-rise
returns-then-not-follows-clause-rise g c = c.loop-i.invariant.rise

pub returns-then-not-put-clause-within : goal.returns-then-not-put-clause-within
returns-then-not-put-clause-within g c = omega (arith, c.count-i-end.ensures)

pub returns-then-not-put-clause-keyed : goal.returns-then-not-put-clause-keyed
returns-then-not-put-clause-keyed g c = c.loop-i.invariant.keyed

pub returns-then-not-put-clause-rise : goal.returns-then-not-put-clause-rise
returns-then-not-put-clause-rise g c = c.loop-i.invariant.rise

pub returns-then-not-follows-clause-done : goal.returns-then-not-follows-clause-done
returns-then-not-follows-clause-done g c = c.loop-i.invariant.done

pub returns-then-not-follows-clause-len : goal.returns-then-not-follows-clause-len
returns-then-not-follows-clause-len g c = omega (arith, c.loop-i.auto.bytes)

pub returns-then-not-put-clause-len : goal.returns-then-not-put-clause-len
returns-then-not-put-clause-len g c = omega (arith, c.loop-i.auto.bytes, c.put_cell.ensures.len)

pub put_cell-requires-clause-usable : goal.put_cell-requires-clause-usable
put_cell-requires-clause-usable g c = (omega (arith, c.requires.usable, c.loop-i.auto.bytes), omega (arith, c.requires.usable, c.loop-i.auto.bytes))

pub put_cell-requires-clause-header : goal.put_cell-requires-clause-header
put_cell-requires-clause-header g c = c.requires.header
