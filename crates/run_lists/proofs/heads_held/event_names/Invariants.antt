use Rattle.std.proofs.Common.{◌≡◌, map, take}
use Rattle.run_stores.specs.HeldHeads.{placed}
use Rattle.run_lists.specs.HeadLines.{event_place}
use Rattle.run_lists.proofs.heads_held.event_names.Given as goal

abbrev pub invariant-lines : goal.invariant-lines
invariant-lines l = map event_place (take l.line-index l.lines) ≡ placed 0 l.names
