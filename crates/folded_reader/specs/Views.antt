-- Stacks as the code has them, without where their bytes lie in memory.
use Rattle.std.specs.Prelude.{Option, Some, None, Result, Ok, Err}
use Rattle.cg_text.specs.declared.faults.Fault.{Fault}
use Rattle.profile_records.specs.Stacks as specs
use Rattle.folded_reader.specs.declared.stacks.Stack.{Stack}

abbrev pub plain_stack : Stack → specs.Stack
plain_stack s = record { frames = s.frames.now; count = s.count }

abbrev pub plain_said : Option Stack → Option specs.Stack
plain_said None = None
plain_said (Some s) = Some (plain_stack s)

-- what a line says, or its fault
abbrev pub said_is : Result (Option Stack) Fault → Result (Option specs.Stack) Fault
said_is (Ok said) = Ok (plain_said said)
said_is (Err fault) = Err fault
