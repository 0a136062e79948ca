use Rattle.std.proofs.Common.{refl}
use Rattle.cg_text.proofs.TextsLemmas.{stands_at}
use Rattle.cg_text.proofs.text_list.part_at.Goals as goal

pub slice_bounds-result-count : goal.slice_bounds-result-count
slice_bounds-result-count c = (stands_at c.args.bytes.now c.args.ends.now c.args.at c.begin_of-start.result _ c.requires.rise c.requires.within c.begin_of-start.ensures refl).0

pub slice_bounds-result-start : goal.slice_bounds-result-start
slice_bounds-result-start c = (stands_at c.args.bytes.now c.args.ends.now c.args.at c.begin_of-start.result _ c.requires.rise c.requires.within c.begin_of-start.ensures refl).0

pub slice_bounds-result-end : goal.slice_bounds-result-end
slice_bounds-result-end c = (stands_at c.args.bytes.now c.args.ends.now c.args.at c.begin_of-start.result _ c.requires.rise c.requires.within c.begin_of-start.ensures refl).1

pub returns : goal.returns
returns c = (stands_at c.args.bytes.now c.args.ends.now c.args.at c.begin_of-start.result _ c.requires.rise c.requires.within c.begin_of-start.ensures refl).2
