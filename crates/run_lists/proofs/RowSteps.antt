-- Lines whose rows are handed on one at a time, and what they come to.
use Rattle.std.proofs.Common.{◌≡◌, ◌<◌, ℕ, List, [], ◌∷◌, ◌++◌, map, fold, refl, sym, ap, ap₂, subst, ◌∙◌}
use Rattle.std.proofs.lemmas.Grind.{fold-append}
use Rattle.std.proofs.lemmas.List.{map-append}
use Rattle.cost_rows.specs.declared.rows.CellRow.{CellRow}
use Rattle.plain_tables.specs.Tables.{StoredCell}
use Rattle.run_stores.specs.Walks.{CellsFoldTo, cell_numbers}
use Rattle.plain_tables.proofs.Lists.{all-append}

-- one line more
pub comes_more : {L R M : Type 0} (row : L → R) (step : M → R → M) (start came new : M) (lines : List L) (line : L) (made : R) → came ≡ fold step start (map row lines) → made ≡ row line → new ≡ step came made → new ≡ fold step start (map row (lines ++ line ∷ []))
comes_more row step start came new lines line made was is steps =
    steps ∙ ap₂ step was is ∙ sym (fold-append step start (map row lines) (row line ∷ [])) ∙ ap (fold step start) (sym (map-append row lines (line ∷ [])))

module _ {M : Type 0} (events : ℕ) (step : M → CellRow ℕ → M) (start : M) where
  pub no_cell : CellsFoldTo events step start start []
  no_cell = record { of_events = tt; comes = refl }

  pub one_cell : (came new : M) (lines : List StoredCell) (line : StoredCell) (row : CellRow ℕ) → CellsFoldTo events step start came lines → row ≡ cell_numbers line → row.event < events → new ≡ step came row
      → CellsFoldTo events step start new (lines ++ line ∷ [])
  one_cell came new lines line row was says counted steps = record {
    of_events = all-append _ lines (line ∷ []) was.of_events (subst (λ (r : CellRow ℕ). r.event < events) says counted, tt);
    comes = comes_more cell_numbers step start came new lines line row was.comes says steps;
  }
