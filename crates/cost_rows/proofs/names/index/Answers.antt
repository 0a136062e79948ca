use Rattle.cost_rows.proofs.NumberedLemmas.{name-found, name-kept}
use Rattle.cost_rows.proofs.names.index.Goals as goal

pub returns-in_ok-insert-clause-found : goal.returns-in_ok-insert-clause-found
returns-in_ok-insert-clause-found c =
    name-found c.args.name.now c.args.hashes.now c.args.others.now c.insert.new.self c.in_ok-key.key c.args.number
    (c.in_ok-key.ensures.items_if_clones_equal (λ x y e. e)) c.in_ok-insert.ensures.entries

pub returns-in_ok-insert-clause-kept : goal.returns-in_ok-insert-clause-kept
returns-in_ok-insert-clause-kept c =
    name-kept c.args.name.now c.args.hashes.now c.args.others.now c.insert.new.self c.in_ok-key.key c.args.number
    (c.in_ok-key.ensures.items_if_clones_equal (λ x y e. e)) c.in_ok-insert.ensures.entries
