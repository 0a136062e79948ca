-- What is printed where a file gives no head.
use Rattle.std.specs.Prelude.{ℕ, List, ◌++◌, codes}
use Rattle.std.specs.Fmt.{decimal}
use Rattle.cg_text.specs.Faults.{fault_text}
use Rattle.cg_text.specs.declared.faults.ReadEnd.{ReadEnd}
use Rattle.cg_text.specs.declared.faults.ReadEnd.TheVariants.{Fault, Memory}

abbrev pub error_text : ReadEnd → List ℕ
error_text (Fault fault line) = codes "line " ++ (decimal line ++ (codes ": " ++ fault_text fault))
error_text Memory = codes "out of memory"
