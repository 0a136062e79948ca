use Rattle.run_stores.specs.Book.{stack_held}
use Rattle.prof_store.specs.Lines.{held_stack}
use Rattle.run_lists.proofs.RowSteps.{comes_more}
use Rattle.run_lists.proofs.Steps.{on_ok_then}
use Rattle.run_lists.proofs.handed_stacks.StackLines.take_line.Goals as goal

pub returns : goal.returns
returns g c = on_ok_then c.take.result _ _ c.take.ensures (λ steps start lines was. comes_more stack_held g.T.StackRowSink.step start _ _ lines (held_stack c.args.line) _ was c.lent_stack.ensures steps)
