use Rattle.std.proofs.Common.{◌≡◌, ◌<◌, List, [], length, get_or, Bor, ℕ, sym, ap, subst, ◌∙◌}
use Rattle.std.proofs.lemmas.List.{get_or-map, length-map}
use Rattle.page_lists.specs.Texts.{our_text}
use Rattle.page_lists.proofs.texts.text_of_table.Goals as goal

pub returns : goal.returns
unfolding our_text
returns c =
    let texts = c.texts_of_tables.result in
    let now = λ (text : Bor (List ℕ)). text.now in
    let long : length texts ≡ 11 = sym (length-map texts now) ∙ ap length c.texts_of_tables.ensures in
    c.as_bytes.ensures.value ∙ sym (get_or-map now texts c.args.at (record { ref_ptr = (0, 0); now = [] }) [] (subst (λ n. c.args.at < n) (sym long) c.requires))
    ∙ ap (λ all. get_or all c.args.at []) c.texts_of_tables.ensures
