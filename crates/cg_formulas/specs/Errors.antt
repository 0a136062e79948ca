-- What is printed where an `event:` line is not read, and where formulas yield no coefficients.
use Rattle.std.specs.Prelude.{ℕ, List, codes}
use Rattle.cg_text.specs.Faults.{fault_text}
use Rattle.cg_text.specs.Errors.{error_text}
use Rattle.cg_text.specs.declared.faults.ReadEnd.TheVariants.{Fault, Memory}
use Rattle.cg_formulas.specs.declared.event_lines.TextEnd.{TextEnd}
use Rattle.cg_formulas.specs.declared.event_lines.TextEnd.TheVariants as texts
use Rattle.cg_formulas.specs.declared.flats.FlatEnd.{FlatEnd}
use Rattle.cg_formulas.specs.declared.flats.FlatEnd.TheVariants as flats

abbrev pub text_error_text : TextEnd → List ℕ
text_error_text (texts.Fault fault) = fault_text fault
text_error_text texts.Memory = codes "out of memory"

abbrev pub flat_error_text : FlatEnd → List ℕ
flat_error_text (flats.Fault fault line) = error_text (Fault fault line)
flat_error_text flats.Memory = error_text Memory
