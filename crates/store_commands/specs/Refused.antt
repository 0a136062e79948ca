-- Refusals in the order in which they are looked for.
use Rattle.std.specs.Prelude.{Bool, true, false, ℕ, nat_le, List, length, Option, Some, None, Result, Ok, Err, option_map}
use Rattle.profile_records.specs.declared.kinds.Kind.{Kind}
use Rattle.histories.specs.Formats.{today}
use Rattle.histories.specs.History.{History, held, next}
use Rattle.histories.specs.Sums.{excess_of}
use Rattle.histories.specs.declared.answers.Excess.{Excess}
use Rattle.histories.specs.declared.answers.Refusal.{Refusal}
use Rattle.histories.specs.declared.answers.Refusal.TheVariants as reasons
use Rattle.histories.specs.declared.limits.Limits.{Limits}

abbrev pub if_some : Bool → Refusal → Option Refusal
if_some true refusal = Some refusal
if_some false refusal = None

abbrev pub or_later : Option Refusal → Option Refusal → Option Refusal
or_later (Some refusal) later = Some refusal
or_later None later = later

-- a sum would pass its bound, the runs are as many as there may be, or no number is left
abbrev pub no_room : Option Excess → Bool → Bool → Option Refusal
no_room excess full spent = or_later (option_map reasons.Overflow excess) (or_later (if_some full reasons.Full) (if_some spent reasons.NumbersSpent))

-- of a file without a fault that is not held
abbrev pub room_refusal : Limits → History → Kind → List ℕ → Option Refusal
room_refusal limits h kind bytes = no_room (excess_of (held h) (today kind) bytes) (nat_le limits.runs (length (held h))) (nat_le limits.numbers (next h))

-- a number, unless it is refused
abbrev pub number_unless : Option Refusal → ℕ → Result ℕ Refusal
number_unless (Some refusal) n = Err refusal
number_unless None n = Ok n
