use Rattle.std.proofs.Common.{length, ap, arith}
use Rattle.cg_text.proofs.TextsLemmas.{count_of}
use Rattle.cg_text.proofs.text_list.TextList.text.Goals as goal

pub part_at-requires-clause-within : goal.part_at-requires-clause-within
part_at-requires-clause-within c =
    let counted = count_of c.self.inside.bytes.items c.self.inside.ends.items 0 in
    let same = ap length c.self.view_is in
    let long = c.deref-2.ensures.len in
    let low = c.requires in
    omega (arith, counted, same, long, low)
