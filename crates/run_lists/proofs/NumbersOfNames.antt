-- The number that a name has.
use Rattle.std.proofs.Common.{◌≡◌, ◌≢◌, ◌<◌, ◌==◌, ℕ, Bool, true, false, List, [], ◌∷◌, map, get_or, if◌then◌else◌, ap, sym, arith}
use Rattle.std.specs.List.{AllByRecursion}
use Rattle.plain_tables.specs.Tables.{NameRow}
use Rattle.run_stores.specs.Book.{name_of, no_name}
use Rattle.run_lists.specs.NameRows.{name_row}
use Rattle.run_lists.specs.declared.held_names.HeldName.{HeldName}

-- bytes are a name
pub bytes_name : (bytes : List ℕ) → ((i : ℕ) → get_or bytes i 0 < 256) → bytes ≢ no_name
bytes_name bytes fit is =
    let first : get_or bytes 0 0 ≡ 256 = ap (λ l. get_or l 0 0) is in
    let low = fit 0 in
    let no : ⊥ = omega (arith, first, low) in
    no

-- the line is that of another name
abbrev pub IsOther : List ℕ → NameRow → Type 0
IsOther name line = line.name ≢ name

abbrev pub IsOtherHeld : List ℕ → HeldName → Type 0
IsOtherHeld name held = held.bytes.items ≢ name

-- among lines of other names no number has the name
pub none_named : (name : List ℕ) → name ≢ no_name → (names : List NameRow) → AllByRecursion (IsOther name) names → (n : ℕ) → name_of names n ≢ name
none_named name some [] others n is = some (sym is)
none_named name some (line ∷ names) others n is = go (line.number == n) (none_named name some names others.1 n) is
  where
    go : (b : Bool) → name_of names n ≢ name → (if b then line.name else name_of names n) ≡ name → ⊥
    go true not here = others.0 here
    go false not later = not later

pub others_held : (name : List ℕ) (names : List HeldName) → AllByRecursion (IsOtherHeld name) names → AllByRecursion (IsOther name) (map name_row names)
others_held name [] others = tt
others_held name (held ∷ names) others = (others.0, others_held name names others.1)
