use Rattle.std.proofs.Common.{◌≡◌, ◌==◌, map, take}
use Rattle.plain_tables.specs.Tables.{DerivedRow}
use Rattle.run_stores.specs.HeldHeads.{name_of_line}
use Rattle.run_lists.specs.HeadLines.{derived_place}
use Rattle.run_lists.specs.Listed.{derived_row}
use Rattle.page_lists.proofs.HeadLists.{kept}
use Rattle.page_lists.proofs.heads.derived_of.Given as goal

abbrev pub invariant-derived : goal.invariant-derived
invariant-derived l = map derived_place l.lines.items ≡ kept derived_row (λ (d : DerivedRow). d.run == l.run) name_of_line (take l.event-index l.derived)
