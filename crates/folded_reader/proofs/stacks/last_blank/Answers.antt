use Rattle.folded_reader.proofs.LineLemmas.{last-blank}
use Rattle.folded_reader.proofs.stacks.last_blank.Goals as goal

pub returns : goal.returns
returns c = last-blank c.args.text.now c.memrchr2.result c.memrchr2.ensures
