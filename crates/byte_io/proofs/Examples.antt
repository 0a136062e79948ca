-- The definitions, computed on examples.
use Rattle.std.proofs.Common.{◌≡◌, [], ◌∷◌, codes, refl}
use Rattle.byte_io.specs.Escapes.{escaped}

escaped-plain : escaped (codes "D1mr") ≡ codes "D1mr"
escaped-plain = refl

escaped-backslash : escaped (codes "a\\b") ≡ codes "a\\\\b"
escaped-backslash = refl

-- a line feed, the last code before the blank, the blank, and the greatest code of ASCII
escaped-control : escaped (10 ∷ 31 ∷ 32 ∷ 126 ∷ 127 ∷ []) ≡ codes "\\x0a\\x1f ~\\x7f"
escaped-control = refl

escaped-beyond : escaped (128 ∷ 255 ∷ []) ≡ 128 ∷ 255 ∷ []
escaped-beyond = refl
