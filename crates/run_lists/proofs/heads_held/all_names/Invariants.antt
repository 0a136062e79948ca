use Rattle.std.proofs.Common.{◌≡◌, ◌++◌, map, take}
use Rattle.run_lists.specs.declared.head_lines.HeadEvent.{HeadEvent}
use Rattle.run_lists.specs.declared.head_lines.HeadDerived.{HeadDerived}
use Rattle.run_lists.proofs.heads_held.all_names.Given as goal

abbrev pub invariant-derived : goal.invariant-derived
invariant-derived l = l.names ≡ map (λ (e : HeadEvent). e.name.items) l.events ++ map (λ (d : HeadDerived). d.name.items) (take l.line-index l.derived)
