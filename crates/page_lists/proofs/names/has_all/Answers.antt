use Rattle.std.proofs.Common.{◌==◌, rules, tests}
use Rattle.std.specs.List.{list_any}
use Rattle.std.proofs.lemmas.Iterator.{YieldsList-from_slice}
use Rattle.std.proofs.lemmas.Iterator.Search.{all_from_yields_List}
use Rattle.page_lists.proofs.names.has_all.Goals as goal

pub returns : goal.returns
returns c up = all_from_yields_List (λ n. list_any (λ m. m == n) c.args.sorted.now) _ _ c.all.result c.all.ensures.ran (YieldsList-from_slice c.args.numbers.now cc) (λ x b q k. search (rules, tests))
