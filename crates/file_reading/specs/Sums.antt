-- The sums of the self costs, by column.
use Rattle.std.specs.Prelude.{ℕ, ◌+◌, List, [], ◌∷◌, Option, None, slice_index}
use Rattle.cg_text.specs.declared.words.Namespace.{Namespace}
use Rattle.profile_records.specs.declared.marks.Mark.{Mark}
use Rattle.file_reading.specs.declared.sums.CostSums.{CostSums}
use Rattle.profile_records.specs.Columns.{added}
use Rattle.profile_records.specs.Records.{Record, Own, Called}

-- the sum of column k over the self records; a column that a record lacks counts 0
abbrev pub self_sum : ℕ → List Record → ℕ
self_sum k [] = 0
self_sum k (Own cost ∷ records) = slice_index cost.costs k + self_sum k records
self_sum k (Called callee cost ∷ records) = self_sum k records

-- what a record adds: the costs of calls are inclusive, and no self cost
abbrev pub add_record : List ℕ → Record → List ℕ
add_record sums (Own cost) = added sums cost.costs
add_record sums (Called callee cost) = sums

-- names are not looked at, and nothing of them is remembered
abbrev pub knows_none : CostSums → Namespace → Mark → Option (List ℕ)
knows_none sums space mark = None
