use Rattle.std.proofs.Common.{◌≡◌, [], None, option_map, slice_get, slice_index_or, unwrap_or, sym, ap, ◌∙◌}
use Rattle.std.proofs.lemmas.Option.{unwrap_or-slice_get}
use Rattle.cost_rows.proofs.names.Names.name_or_empty.Goals as goal

pub returns-in-None : goal.returns-in-None
returns-in-None c =
    let none : slice_get c.self.inside.names c.args.id ≡ None = sym c.get.ensures ∙ ap (option_map (λ text. text.now)) c.in-None.is in
    sym (ap (λ o. unwrap_or o []) none) ∙ unwrap_or-slice_get c.self.inside.names c.args.id [] ∙ ap (λ names. slice_index_or names c.args.id []) c.self.view_is
