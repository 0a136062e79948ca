use Rattle.std.specs.Fmt.{decimal}
use Rattle.std.proofs.Common.{◌≡◌, Some, map, take}
use Rattle.run_lists.specs.HeadLines.{event_total}
use Rattle.run_lists.proofs.heads_held.all_stated.Given as goal

abbrev pub invariant-lines : goal.invariant-lines
invariant-lines l = map event_total (take l.line-index l.lines) ≡ map (λ n. Some (decimal n)) l.sums
