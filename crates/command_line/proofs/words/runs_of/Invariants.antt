use Rattle.std.proofs.Common.{◌≡◌, All, map, take}
use Rattle.command_line.specs.Plans.{IsRunNumber, SaysRun, number_of}
use Rattle.command_line.proofs.words.runs_of.Given as goal

-- the numbers of the texts so far, which all say such
abbrev pub invariant-loop-text : goal.invariant-loop-text
invariant-loop-text l = record {
  range : All IsRunNumber l.numbers.items;
  value : l.numbers.items ≡ map (λ text. number_of text.now) (take l.text-index l.texts);
  said : All (λ text. SaysRun text.now) (take l.text-index l.texts);
}
