use Rattle.std.proofs.Common.{◌≡◌, ◌+◌, ◌++◌, ◌∷◌, [], length, ap, ap₂, sym, subst, ◌∙◌, arith}
use Rattle.std.proofs.lemmas.List.{length-append}
use Rattle.cg_text.specs.Texts.{RiseTo, texts_from}
use Rattle.cg_text.proofs.TextsLemmas.{pushed, rise_on}
use Rattle.cg_text.proofs.text_list.TextList.push.Goals as goal

end_is : (c : goal.In_default) → c.len.result ≡ length c.self.inside.bytes.items + length c.args.text.now
end_is c = let long = ap length c.in_ok-extend_from_slice.ensures.items in let is = c.len.ensures in omega (arith, long, is, length-append c.self.inside.bytes.items c.args.text.now)

pub invariant_of-self-in_default : goal.invariant_of-self-in_default
invariant_of-self-in_default c =
    subst (λ ends. RiseTo 0 ends (length c.extend_from_slice.new.self.items)) (sym c.in_default.ensures.items)
    (subst (RiseTo 0 (c.self.inside.ends.items ++ c.len.result ∷ [])) (end_is c ∙ sym (ap length c.in_ok-extend_from_slice.ensures.items ∙ length-append c.self.inside.bytes.items c.args.text.now))
    (rise_on 0 (length c.self.inside.bytes.items) c.self.inside.ends.items c.len.result c.self.invariant (omega (arith, end_is c))))

-- src/text_list.rt:65:5
pub returns-clause-ok : goal.returns-clause-ok
returns-clause-ok c =
    ap₂ (λ bytes ends. texts_from bytes 0 ends) c.in_ok-extend_from_slice.ensures.items c.in_default.ensures.items
    ∙ pushed c.self.inside.bytes.items c.args.text.now c.self.inside.ends.items 0 c.len.result c.self.invariant (end_is c)
    ∙ ap (λ l. l ++ c.args.text.now ∷ []) c.self.view_is
