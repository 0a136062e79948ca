-- Blanks, the text of a line, and its fields.
use Rattle.std.specs.Prelude.{ℕ, ◌-◌, Bool, true, false, ◌||◌, List, [], ◌∷◌, length, take, drop, filter, ◌==◌}
use Rattle.std.specs.List.{prefix_len, suffix_len, slice_split}
use Rattle.std.specs.Str.Lines.{strip_carriage_return}
use Rattle.cg_text.specs.Bytes.{space, tab}

-- a blank is a space or a tab
abbrev pub is_blank : ℕ → Bool
is_blank b = b == space || b == tab

-- without the blanks in front
abbrev pub trim_start : List ℕ → List ℕ
trim_start bs = drop (prefix_len is_blank bs) bs

-- without the blanks behind
abbrev pub trim_end : List ℕ → List ℕ
trim_end bs = take (length bs - suffix_len is_blank bs) bs

-- the text of a line of a Callgrind file: without one carriage return at its end, and then without blanks at both ends
unfoldable pub line_text : List ℕ → List ℕ
line_text line = trim_end (trim_start (strip_carriage_return line))

-- what has a byte
abbrev pub is_field : List ℕ → Bool
is_field [] = false
is_field (b ∷ bs) = true

-- the fields of a text: the parts between blanks that have a byte
abbrev pub fields_of : List ℕ → List (List ℕ)
fields_of text = filter is_field (slice_split is_blank text)
