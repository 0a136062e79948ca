use Rattle.std.proofs.Common.{◌≡◌, ◌-◌, take}
use Rattle.cg_text.specs.Fields.{fields_of}
use Rattle.cg_text.specs.Subpositions.{subpos_of}
use Rattle.callgrind_reader.specs.Faulty.{each, err_of}
use Rattle.callgrind_reader.proofs.rows.target_fault.Given as goal

-- the fault of all is the fault of those to come
abbrev pub invariant-loop : goal.invariant-loop
invariant-loop l = err_of (each subpos_of (take (l.targets - l.counter) (fields_of l.rest))) ≡ err_of (each subpos_of (take l.targets (fields_of l.text)))
