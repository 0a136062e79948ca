use Rattle.std.proofs.Common.{◌≡◌, ◌++◌, drop, flat_map, string_bytes}
use Rattle.store_commands.specs.Lists.{entry_line}
use Rattle.store_commands.proofs.lists.runs_text.Given as goal

abbrev pub invariant-loop-run : goal.invariant-loop-run
invariant-loop-run l = string_bytes l.text ++ flat_map entry_line (drop l.run-index l.runs) ≡ flat_map entry_line l.runs
