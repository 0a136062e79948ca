-- The table `meta`, of one row.
use Rattle.std.specs.Prelude.{◌≡◌, ℕ, List, [], ◌∷◌}
use Rattle.page_lists.specs.declared.small.Meta.{Meta}

-- its only line is of schema 2, and says which number the next run gets
abbrev pub IsMeta : List Meta → ℕ → Type 0
IsMeta lines next = lines ≡ record { schema = 2; next = next } ∷ []
