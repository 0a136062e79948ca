use Rattle.std.proofs.Common.{◌≡◌, ◌==◌, map, take}
use Rattle.plain_tables.specs.Tables.{CoefRow}
use Rattle.run_stores.specs.HeldHeads.{coef_of_line}
use Rattle.run_lists.specs.HeadLines.{entry_of_coef}
use Rattle.run_lists.specs.Listed.{coef_row}
use Rattle.page_lists.proofs.HeadLists.{kept}
use Rattle.page_lists.proofs.heads.coefs_of.Given as goal

abbrev pub invariant-coefs : goal.invariant-coefs
invariant-coefs l = map entry_of_coef l.lines.items ≡ kept coef_row (λ (c : CoefRow). c.run == l.run) coef_of_line (take l.coef-index l.coefs)
