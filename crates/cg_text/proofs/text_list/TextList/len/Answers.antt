use Rattle.std.proofs.Common.{length, ap, arith}
use Rattle.cg_text.proofs.TextsLemmas.{count_of}
use Rattle.cg_text.proofs.text_list.TextList.len.Goals as goal

pub returns : goal.returns
returns c =
    let counted = count_of c.self.inside.bytes.items c.self.inside.ends.items 0 in
    let same = ap length c.self.view_is in
    let is = c.len.ensures in
    omega (arith, counted, same, is)
