use Rattle.std.proofs.Common.{◌≡◌, length, List, ◌++◌}
use Rattle.std.specs.List.{list_all}
use Rattle.cg_formulas.specs.EventLines.{Term}
use Rattle.cg_formulas.specs.EventViews.{terms_in}
use Rattle.cg_formulas.specs.Formulas.{Definition, is_known}
use Rattle.cg_formulas.specs.Flats.{Flattens}
use Rattle.cg_formulas.specs.Rows.{counted, IsRow}
use Rattle.cg_formulas.proofs.flats.Flat.add_terms.Given as goal

-- the terms so far are known, and counted
abbrev pub invariant-loop-number : goal.invariant-loop-number
invariant-loop-number l = record {
  wide : length l.row ≡ length l.fn.row;
  known : (back : List Definition) → Flattens l.self back → list_all (λ t. is_known l.self.events back t.1) (terms_in l.formula) ≡ list_all (λ t. is_known l.self.events back t.1) l.number-iterator;
  counts : (back : List Definition) → Flattens l.self back → IsRow l.fn.row l.self.events (λ _. 0) → (done : List Term) × (terms_in l.formula ≡ done ++ l.number-iterator) × IsRow l.row l.self.events (λ event. counted event done back);
}
