use Rattle.std.proofs.Common.{refl, sym, ap, ◌∙◌, inl, inr}
use Rattle.page_rows.specs.Roots.{root_in_list}
use Rattle.page_rows.proofs.Cuts.{all_from_least}
use Rattle.page_rows.proofs.Entries.{root_before}
use Rattle.page_rows.proofs.roots.root_named.Goals as goal

pub returns-in-Ok-clause-done : goal.returns-in-Ok-clause-done
returns-in-Ok-clause-done g c clean has = elim (c.in-Ok.ensures.done clean has (c.args.kind.now, c.args.name.now) (refl, refl, refl, refl)) [
  | inl all ↦
      all.2 ∙ sym all.3 ∙ ap (root_in_list c.args.kind.now c.args.name.now) (all_from_least (g.P.Pages.size c.args.store.now) (g.P.Pages.pages c.args.store.now) 1 has)
  | inr (front, rest, parts, found) ↦
      found.2 ∙ sym (root_before c.args.kind.now c.args.name.now front rest found.0 found.1) ∙ ap (root_in_list c.args.kind.now c.args.name.now) (sym parts
      ∙ all_from_least (g.P.Pages.size c.args.store.now) (g.P.Pages.pages c.args.store.now) 1 has)
]

pub returns-in-Err-Pages-clause-done : goal.returns-in-Err-Pages-clause-done
returns-in-Err-Pages-clause-done g c clean has =
    let walked = c.in-Err-Pages.ensures.done clean has (c.args.kind.now, c.args.name.now) (refl, refl, refl, refl) in rw c.in-Err-Pages.field-0-is at walked
