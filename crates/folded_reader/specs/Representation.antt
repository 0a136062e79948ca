-- When what a reader keeps represents the lines that it has read.
use Rattle.std.specs.Prelude.{◌≡◌, List, length}
use Rattle.folded_reader.specs.declared.state.State.{State}
use Rattle.folded_reader.specs.Lines.{Reading}
use Rattle.folded_reader.specs.Looking.{seen}

-- the state represents these lines
pub record RepresentsAfter (s : State) (back : List Reading) : Type 0 where
  pub lines : s.lines ≡ length back
  pub fault : s.fault ≡ seen back
