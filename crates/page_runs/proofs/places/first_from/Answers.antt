use Rattle.std.proofs.Common.{ap₂, sym, to_z-of_z, subst, ◌∙◌, inl, inr, refl}
use Rattle.page_rows.specs.Rows.{from_rowid}
use Rattle.page_lists.specs.Walks.{IsFirstOf}
use Rattle.page_lists.proofs.RunRows.{first_of_more}
use Rattle.page_runs.proofs.places.first_from.Goals as goal

pub returns-in-Ok-clause-found : goal.returns-in-Ok-clause-found
returns-in-Ok-clause-found g c faithful = λ rows is.
    let here = ap₂ from_rowid (to_z-of_z c.ranges.from) is.rows_are in
    elim (c.in-Ok.ensures.done faithful is.wanted is.t is.shows tt (refl, refl)) [
      | inl all ↦ subst (IsFirstOf (from_rowid c.args.from rows)) (sym all.1) (sym here ∙ all.0)
      | inr (front, rest, parts, ends) ↦
          subst (IsFirstOf (from_rowid c.args.from rows)) (sym ends.1) (first_of_more front rest (from_rowid c.args.from rows) ends.0 (sym here ∙ parts) ends.2)
    ]
