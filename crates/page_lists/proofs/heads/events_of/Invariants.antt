use Rattle.std.proofs.Common.{◌≡◌, ◌==◌, map, take}
use Rattle.plain_tables.specs.Tables.{EventRow}
use Rattle.run_stores.specs.HeldHeads.{event_of_line}
use Rattle.run_lists.specs.HeadLines.{entry_of_event}
use Rattle.run_lists.specs.Listed.{event_row}
use Rattle.page_lists.proofs.HeadLists.{kept}
use Rattle.page_lists.proofs.heads.events_of.Given as goal

abbrev pub invariant-events : goal.invariant-events
invariant-events l = map entry_of_event l.lines.items ≡ kept event_row (λ (e : EventRow). e.run == l.run) event_of_line (take l.event-index l.events)
