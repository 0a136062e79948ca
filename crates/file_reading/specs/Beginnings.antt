-- How files begin.
use Rattle.std.specs.Prelude.{ℕ, Bool, false, ◌||◌, ◌&&◌, nat_eq, if◌then◌else◌, List, [], ◌∷◌, codes, take, length, position, ◌-◌, slice_get, Option, None, Some}
use Rattle.std.specs.List.{list_any, starts_with}
use Rattle.cg_text.specs.Numbers.{is_digit}
use Rattle.cg_text.specs.Lines.{is_line_feed}
use Rattle.file_reading.specs.declared.beginnings.Beginning.{Beginning}
use Rattle.file_reading.specs.declared.beginnings.Beginning.TheVariants as beginnings

-- gzip, bzip2, xz and zstd
abbrev pub is_packed : List ℕ → Bool
is_packed bytes = starts_with nat_eq bytes (31 ∷ 139 ∷ []) || (starts_with nat_eq bytes (codes "BZh")
    || (starts_with nat_eq bytes (253 ∷ 55 ∷ 122 ∷ 88 ∷ 90 ∷ 0 ∷ []) || starts_with nat_eq bytes (40 ∷ 181 ∷ 47 ∷ 253 ∷ [])))

-- the first words of files that Callgrind, and others in its format, write
abbrev pub is_callgrind : List ℕ → Bool
is_callgrind bytes = starts_with nat_eq bytes (codes "# callgrind format") || (starts_with nat_eq bytes (codes "version:")
    || (starts_with nat_eq bytes (codes "creator:") || (starts_with nat_eq bytes (codes "positions:") || starts_with nat_eq bytes (codes "events:"))))

abbrev pub front_to : List ℕ → Option ℕ → List ℕ
front_to bytes None = bytes
front_to bytes (Some n) = take n bytes

-- the bytes before the first line feed
abbrev pub first_line : List ℕ → List ℕ
first_line bytes = front_to bytes (position is_line_feed bytes)

abbrev pub ends_in_digit : Option ℕ → Bool
ends_in_digit None = false
ends_in_digit (Some b) = is_digit b

-- frames, and at the end a digit
abbrev pub is_stack : List ℕ → Bool
is_stack line = ends_in_digit (slice_get line (length line - 1)) && list_any (λ b. nat_eq b 59) line

abbrev pub beginning_of : List ℕ → Beginning
beginning_of [] = beginnings.Empty
beginning_of (b ∷ bytes) =
    if is_packed (b ∷ bytes) then beginnings.Packed else
    (if starts_with nat_eq (b ∷ bytes) (127 ∷ codes "ELF") then beginnings.Program else
    (if starts_with nat_eq (b ∷ bytes) (codes "PERFILE2") then beginnings.PerfData else
    (if is_callgrind (b ∷ bytes) then beginnings.Callgrind else
    (if is_stack (first_line (b ∷ bytes)) then beginnings.Folded else beginnings.Other))))
