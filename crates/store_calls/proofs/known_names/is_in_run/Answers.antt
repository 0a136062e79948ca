use Rattle.std.proofs.Common.{false, fold, ap, ◌∙◌}
use Rattle.run_stores.proofs.Calls.{asked_reads_yet}
use Rattle.plain_tables.specs.RunRows.{cells_in}
use Rattle.run_stores.specs.Book.{cells_held, stacks_held}
use Rattle.store_calls.specs.FunctionCalls.{is_in_cells}
use Rattle.store_calls.specs.KeptCalls.{spot_asked, with_stack_sought}
use Rattle.store_calls.proofs.KeptLemmas.{cells_sought, stacks_sought}
use Rattle.store_calls.proofs.known_names.is_in_run.Goals as goal

pub returns-clause-told : goal.returns-clause-told
returns-clause-told g c clean t represents is =
    let of = c.args.asked.now in
    let number = c.args.run.now.number in
    let stacks = stacks_held number t in
    let early = (c.in_ok-all.ensures.asks clean).stays.was_faithful in
    let found = (c.in_ok-cells.ensures.told early t represents).comes ∙ cells_sought t.names of is false (cells_in number t) in
    let mid = asked_reads_yet g.S.StoreState t _ _ (c.in_ok-cells.ensures.asks early) represents in
    ap (λ m. m.1) (c.in_ok-all.ensures.told clean t mid ∙ ap (λ m. fold with_stack_sought m stacks) found ∙ stacks_sought of (is_in_cells (spot_asked of) (cells_held number t)) stacks)

pub returns-clause-of_events : goal.returns-clause-of_events
returns-clause-of_events g c clean t represents = (c.in_ok-cells.ensures.told (c.in_ok-all.ensures.asks clean).stays.was_faithful t represents).of_events
