-- Decimal numbers of a request.
use Rattle.std.specs.Prelude.{ℕ, ◌&&◌, nat_le, if◌then◌else◌, List, length, Option, Some, None}
use Rattle.std.specs.List.{list_all}
use Rattle.cg_text.specs.Numbers.{is_digit, value_in}

-- the greatest number of a run, of a limit, and of a threshold in percent
abbrev pub run_bound : ℕ
run_bound = 2147483647

abbrev pub limit_bound : ℕ
limit_bound = 4294967295

abbrev pub threshold_bound : ℕ
threshold_bound = 100

-- one to ten decimal digits of at most that value
abbrev pub number_of : ℕ → List ℕ → Option ℕ
number_of bound text =
    if nat_le 1 (length text) && nat_le (length text) 10 && list_all is_digit text && nat_le (value_in 10 text) bound
    then Some (value_in 10 text) else None

abbrev pub or_zero : Option ℕ → ℕ
or_zero (Some n) = n
or_zero None = 0
