use Rattle.std.proofs.Common.{◌≡◌, List}
use Rattle.run_stores.specs.Calls.{IsFaithful}
use Rattle.byte_io.specs.Imported.{WereRead}
use Rattle.histories.specs.History.{Command}
use Rattle.requests.specs.Plain.{plain_request}
use Rattle.program_stores.proofs.SessionLemmas.{Fits, SoFar}
use Rattle.program_stores.proofs.session.work_over.Given as goal

-- the commands so far were done, and the others are to come
abbrev pub invariant-loop-command : goal.invariant-loop-command
invariant-loop-command g l = record {
  limits : l.session.warehouse.limits ≡ l.initial.session.warehouse.limits;
  so_far : IsFaithful g.S.StoreState l.session.warehouse.store
      → (list : List Command) × Fits (WereRead g.R.File.Read.remaining) plain_request l.commands list l.command-index × SoFar g.S.StoreState g.W.Write.contents list l.initial.session l.session;
}
