use Rattle.std.proofs.Common.{◌≡◌, ◌++◌, drop, string_bytes}
use Rattle.histories.specs.Texts.{more_text}
use Rattle.store_commands.proofs.lists.push_more.Given as goal

abbrev pub invariant-loop-member : goal.invariant-loop-member
invariant-loop-member l = string_bytes l.text ++ more_text (drop l.member-index l.members) ≡ string_bytes l.fn.text ++ more_text l.members
