use Rattle.std.proofs.Common.{◌≡◌, ◌∙◌, ◌==◌, sym, rules, tests}
use Rattle.std.specs.List.{list_all}
use Rattle.std.proofs.lemmas.Iterator.{YieldsList-from_slice}
use Rattle.std.proofs.lemmas.Iterator.Search.{all_from_yields_List}
use Rattle.page_runs.proofs.PartSums.{all_nothing, nothing_at}
use Rattle.page_runs.proofs.part_sums.is_nothing.Goals as goal

pub returns : goal.returns
returns c =
    let left = c.args.left.now in
    let said : c.all.result ≡ list_all (λ rest. rest == 0) left =
    all_from_yields_List (λ rest. rest == 0) _ _ c.all.result c.all.ensures.ran (YieldsList-from_slice left c.iter.ensures.rest) (λ x b q k. search (rules, tests)) in
    ((λ is. nothing_at left (sym said ∙ is)), (λ none. said ∙ all_nothing left none))
