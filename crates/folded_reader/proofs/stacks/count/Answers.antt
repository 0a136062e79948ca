use Rattle.std.proofs.Common.{length, sym, ◌∙◌}
use Rattle.std.proofs.lemmas.Bool.{eqb-false}
use Rattle.folded_reader.proofs.LineLemmas.{count-amount}
use Rattle.folded_reader.proofs.stacks.count.Goals as goal

pub returns-clause-value : goal.returns-clause-value
returns-clause-value c = c.amount.ensures.value ∙ count-amount c.args.text.now (eqb-false (length c.args.text.now) 0 (sym c.if-is_empty.ensures)) (sym c.if-not-all_digits.ensures)
