use Rattle.std.proofs.Common.{◌≡◌, length}
use Rattle.std.specs.List.{list_any}
use Rattle.std.specs.Str.{bytes_eq}
use Rattle.profile_records.specs.Frames.{functions_of}
use Rattle.cost_reports.proofs.frames.has_frame.Given as goal

-- the frames so far have other names
abbrev pub invariant-loop-at : goal.invariant-loop-at
invariant-loop-at l = list_any (λ function. bytes_eq function l.name) (functions_of l.rest) ≡ list_any (λ function. bytes_eq function l.name) (functions_of l.frames)

abbrev pub decreases-loop-at : goal.decreases-loop-at
decreases-loop-at l = length l.rest
