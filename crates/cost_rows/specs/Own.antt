-- Entries that lead to what stands elsewhere: what their keys have there, and that no two keys share it.
use Rattle.std.specs.Prelude.{List, [], ◌∷◌, All, map}
use Rattle.std.specs.Map.{values_of}

-- entries, their values seen as something else
abbrev pub valued : {K X Y : Type 0} → (X → Y) → List (K × X) → List (K × Y)
valued see entries = map (λ e. (e.0, see e.1)) entries

-- each two values are apart
abbrev pub ShareNone : {K X : Type 0} → (X → X → Type 0) → List (K × X) → Type 0
ShareNone Apart [] = Unit {0}
ShareNone Apart (e ∷ entries) = All (λ x. Apart x e.1) (values_of entries) × ShareNone Apart entries

-- and each is within what there is
pub record HaveOwn {K X : Type 0} (Apart : X → X → Type 0) (Within : X → Type 0) (entries : List (K × X)) : Type 0 where
  pub within : All Within (values_of entries)
  pub apart : ShareNone Apart entries
