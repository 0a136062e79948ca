-- Texts that lie in one buffer, one behind another.
use Rattle.std.specs.Prelude.{◌≡◌, ◌≤◌, ◌-◌, ℕ, zero, suc, List, [], ◌∷◌, drop, fold, slice_index, take}

-- those from a place on, which end at these places
abbrev pub texts_from : List ℕ → ℕ → List ℕ → List (List ℕ)
texts_from bytes from [] = []
texts_from bytes from (end ∷ ends) = take (end - from) (drop from bytes) ∷ texts_from bytes end ends

-- the places rise from the first on, and the last of all is this
abbrev pub RiseTo : ℕ → List ℕ → ℕ → Type 0
RiseTo from [] last = from ≡ last
RiseTo from (end ∷ ends) last = (from ≤ end) × RiseTo end ends last

-- where the last of them ends
abbrev pub last_end : ℕ → List ℕ → ℕ
last_end = fold (λ _ end. end)

-- where the one at a place begins
abbrev pub begin_at : ℕ → List ℕ → ℕ → ℕ
begin_at from ends zero = from
begin_at from ends (suc at) = slice_index ends at
