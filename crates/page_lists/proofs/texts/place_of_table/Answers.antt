use Rattle.std.proofs.Common.{ℕ, List, Bor, refl, ap, ◌∙◌, rules, tests}
use Rattle.std.specs.List.{position_from}
use Rattle.std.specs.Slice.Iter.{iter_rest}
use Rattle.std.proofs.lemmas.Iterator.{YieldsList-from_slice}
use Rattle.std.proofs.lemmas.Iterator.Adapters.{position_from-zero}
use Rattle.std.proofs.lemmas.Iterator.Search.{position_from_yields_List}
use Rattle.sqlite_trees.specs.Sound.{is_word}
use Rattle.sqlite_value.specs.Order.{column}
use Rattle.page_lists.specs.Entries.{place_named}
use Rattle.page_lists.proofs.texts.place_of_table.Goals as goal

pub returns-clause-named : goal.returns-clause-named
unfolding place_named
returns-clause-named c =
    let test = λ (name : Bor (List ℕ)). is_word name.now (column c.args.entry.now c.args.at) in
    let names = iter_rest c.iter.result in
    position_from_yields_List test c.position.new.self _ c.position.result c.position.ensures.ran (YieldsList-from_slice names refl) (λ x b q k. search (rules, tests))
    ∙ position_from-zero test names ∙ ap (position_from test 0) c.iter.ensures.rest
