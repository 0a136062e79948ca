use Rattle.std.proofs.Common.{take, ap, ◌∙◌}
use Rattle.cg_text.specs.Texts.{last_end}
use Rattle.cg_text.proofs.TextsLemmas.{cut_to}
use Rattle.cg_text.proofs.text_list.TextList.truncate.Goals as goal

pub invariant_of-self : goal.invariant_of-self
invariant_of-self c =
    (cut_to c.self.inside.bytes.items c.self.inside.ends.items c.truncate-then-len.new.self.items c.truncate.new.self.items c.args.len c.end_of.result c.self.invariant
    c.truncate.ensures.items (c.end_of.ensures ∙ ap (last_end 0) c.deref.ensures.value) c.truncate-then-len.ensures.items).0

pub returns-then-len : goal.returns-then-len
returns-then-len c =
    (cut_to c.self.inside.bytes.items c.self.inside.ends.items c.truncate-then-len.new.self.items c.truncate.new.self.items c.args.len c.end_of.result c.self.invariant
    c.truncate.ensures.items (c.end_of.ensures ∙ ap (last_end 0) c.deref.ensures.value) c.truncate-then-len.ensures.items).1
    ∙ ap (take c.args.len) c.self.view_is
