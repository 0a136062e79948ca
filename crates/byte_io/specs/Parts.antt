-- Texts in parts.
use Rattle.std.specs.Prelude.{ℕ, List, ◌++◌, flat_map}
use Rattle.byte_io.specs.declared.parts.Part.{Part}

-- bytes, and behind them a name
abbrev pub part_text : Part → List ℕ
part_text part = part.bytes.items ++ part.name.value.items

-- parts, and behind them bytes
abbrev pub text_of : List Part → List ℕ → List ℕ
text_of parts rest = flat_map part_text parts ++ rest
