use Rattle.std.proofs.Common.{◌∙◌}
use Rattle.run_lists.proofs.NumberLists.{search_any}
use Rattle.page_lists.proofs.names.is_found.Goals as goal

pub returns : goal.returns
returns c up = c.is_ok.ensures.value ∙ search_any c.args.sorted.now c.args.number c.binary_search.result up c.binary_search.ensures.position
