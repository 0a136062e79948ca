-- Stacks by the bytes of their frames.
use Rattle.std.specs.Prelude.{ℕ, ◌+◌, List}
use Rattle.std.specs.declared.cmp.Ordering.{Ordering}
use Rattle.std.specs.Ordering.{nat_cmp}
use Rattle.std.specs.Cmp.Lexicographic.{slice_cmp}
use Rattle.std.specs.declared.vec.Vec.{Vec}
use Rattle.cost_rows.specs.Merging.{seen}

-- the order of bytes
abbrev pub bytes_cmp : List ℕ → List ℕ → Ordering
bytes_cmp a b = slice_cmp nat_cmp a b

-- entries, their keys as bytes
abbrev pub by_bytes : {Z X : Type 0} → List (Vec ℕ Z × X) → List (List ℕ × X)
by_bytes = seen (λ key. key.items)

-- two counts
abbrev pub counts_added : ℕ → ℕ → ℕ
counts_added held more = held + more
