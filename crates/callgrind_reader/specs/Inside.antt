-- Places of names in a table.
use Rattle.std.specs.Prelude.{ℕ, ◌<◌, Option}
use Rattle.std.specs.Option.{ForSome}

-- a place, if there is one, is that of one of so many names
abbrev pub IsInside : ℕ → Option ℕ → Type 0
IsInside count place = ForSome place (λ at. at < count)

-- each identifier with a place has one of so many
abbrev pub AreInside : (ℕ → Option ℕ) → ℕ → Type 0
AreInside places count = (q : ℕ) → IsInside count (places q)
