use Rattle.std.proofs.Common.{◌≡◌, ◌+◌, List, ◌++◌, vec_len, vec_capacity}
use Rattle.std.specs.VecDeque.{deque_len}
use Rattle.run_stores.specs.Calls.{IsFaithful}
use Rattle.warehouse.specs.Answered.{Lent, WasRun}
use Rattle.warehouse.proofs.warehouse.Warehouse.run.Given as goal

-- the commands so far were run, as many answers stand, and the rest is to come
abbrev pub invariant-commands : goal.invariant-commands
invariant-commands g l =
    (l.self.limits ≡ l.fn.self.limits) × (vec_len l.answers ≡ l.counter) × (vec_capacity l.answers ≡ l.count) × (deque_len l.rest + l.counter ≡ l.count)
    × ((front : List (Lent g.row.R.Denot)) × (l.fn.commands.items ≡ front ++ l.rest.items)
    × (IsFaithful g.S.StoreState l.self.store → WasRun g.S.StoreState g.R.Source.reads l.fn.self.limits front l.answers.items l.fn.self.store l.self.store))
