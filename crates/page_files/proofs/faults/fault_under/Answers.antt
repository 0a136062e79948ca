use Rattle.std.proofs.Common.{List, [], ◌∷◌, ap, inl, inr}
use Rattle.std.specs.Bool.{⊤}
use Rattle.std.specs.Option.{is_some}
use Rattle.sqlite_btree.specs.Check.{IsUnmarked}
use Rattle.sqlite_btree.specs.Cut.{Each}
use Rattle.page_files.proofs.faults.fault_under.Goals as goal

any_passes : {X : Type 0} (rows : List X) → Each (λ row. ⊤) rows
any_passes [] = tt
any_passes (row ∷ rows) = (tt, any_passes rows)

pub returns-in-Err-Corrupt-clause-done : goal.returns-in-Err-Corrupt-clause-done
returns-in-Err-Corrupt-clause-done g c clean unmarked has =
    let (layout, raw, laid, table) = has in
    let without : IsUnmarked layout c.args.marks.now =
    λ n owned. unmarked n (elim owned [ inl node ↦ ap is_some (laid.nodes n node) | inr spilled ↦ ap is_some (laid.spill n spilled) ]) in
    rw c.in-Err-Corrupt.field-0-is at (c.in-Err-Corrupt.ensures.complete clean layout raw laid table (any_passes raw) without)
