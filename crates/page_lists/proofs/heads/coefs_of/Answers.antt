use Rattle.std.proofs.lemmas.List.Sorted.{answers_always}
use Rattle.std.proofs.Common.{rules, ◌≡◌, ◌==◌, arith}
use Rattle.plain_tables.specs.Tables.{CoefRow}
use Rattle.run_stores.specs.HeldHeads.{coef_of_line}
use Rattle.run_lists.specs.HeadLines.{entry_of_coef}
use Rattle.run_lists.specs.Listed.{coef_row}
use Rattle.run_lists.specs.declared.head_lines.HeadCoef.{HeadCoef}
use Rattle.page_lists.proofs.HeadLists.{all_kept}
use Rattle.page_lists.proofs.heads.coefs_of.Goals as goal

pub returns-clause-read : goal.returns-clause-read
returns-clause-read c = all_kept coef_row (λ (r : CoefRow). r.run == c.args.run) coef_of_line entry_of_coef c.args.coefs.now c.coefs.coef-index c.coefs.lines.items _ (omega arith) c.coefs.invariant c.sort_unstable_by_key.ensures.permutation

pub returns-clause-sorted : goal.returns-clause-sorted
returns-clause-sorted c = c.sort_unstable_by_key.ensures.sorted (λ (line : HeadCoef). (line.place, line.event)) (answers_always _ (λ a r. r ≡ (a.0.now.place, a.0.now.event)) _ (λ f a r g called. search rules))
