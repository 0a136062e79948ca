use Rattle.std.proofs.Common.{rules, ◌≡◌, List, get_or, set, sym, ap, ◌∙◌}
use Rattle.cg_formulas.specs.Definitions.{plain_back}
use Rattle.cg_formulas.specs.declared.definitions.Definition as kept
use Rattle.cg_formulas.proofs.HeldLemmas.{kept_terms, set-same}
use Rattle.cg_formulas.proofs.formulas.Formulas.replace_formula.Goals as goal

pub returns-clause-definitions : goal.returns-clause-definitions
returns-clause-definitions c same =
    let ds : List kept.Definition = c.args.self.now.definitions in
    let was : kept.Definition = c.index_mut.result.now in
    let earlier : kept.Definition = get_or ds c.args.at was in
    let later : kept.Definition = record { line = earlier.line; name = earlier.name; formula = c.args.formula } in
    let items : c.into_vec-definitions.result.items ≡ ds = search rules in
    let is : was ≡ earlier = c.index_mut.ensures.value ∙ ap (λ xs. get_or xs c.args.at was) items in
    let now : c.from_vec.result ≡ set ds c.args.at later =
    c.from_vec.ensures
    ∙ (ap (λ xs. set xs c.args.at (record { line = was.line; name = was.name; formula = c.args.formula })) items
    ∙ ap (λ d. set ds c.args.at (record { line = d.line; name = d.name; formula = c.args.formula })) is) in
    ap plain_back now ∙ set-same ds c.args.at was later (ap (λ ts. record { line = earlier.line; name = earlier.name; terms = ts }) (sym same ∙ kept_terms c.args.self.now c.args.at was c.requires))
