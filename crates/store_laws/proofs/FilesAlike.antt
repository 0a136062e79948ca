-- What the same files say adds up alike: a number and a label of a file do not count.
use Rattle.std.proofs.Common.{◌≡◌, ℕ, Bool, ◌||◌, List, [], ◌∷◌, ◌++◌, map, flat_map, sum_by, IsPermutation, refl, sym, ap, ap₂, ◌∙◌}
use Rattle.std.specs.List.{list_any}
use Rattle.std.proofs.lemmas.List.Folds.{list_any-append}
use Rattle.std.proofs.lemmas.List.Sorted.{sum_by-IsPermutation, list_any-IsPermutation}
use Rattle.histories.specs.Formats.{Format}
use Rattle.histories.specs.History.{File}
use Rattle.store_laws.specs.SameFiles.{AreSameFiles, format_and_bytes}
use Rattle.store_laws.proofs.Alike.{Alike, pieces_alike}

-- a file of this format and of these bytes
abbrev pub bare : Format × List ℕ → File
bare p = record { number = 0; format = p.0; label = []; bytes = p.1 }

permuted_alike : {A : Type 0} (xs ys : List A) → IsPermutation xs ys → Alike xs ys
permuted_alike xs ys moved m = sym (sum_by-IsPermutation m xs ys moved)

-- a list of what each file says
module _ {A : Type 0} (piece : File → List A) (told : (f : File) → piece f ≡ piece (bare (format_and_bytes f))) where
  by_bare : (files : List File) → flat_map piece files ≡ flat_map (λ p. piece (bare p)) (map format_and_bytes files)
  by_bare [] = refl
  by_bare (f ∷ files) = ap₂ ◌++◌ (told f) (by_bare files)

  pub said_alike : (files others : List File) → AreSameFiles files others → Alike (flat_map piece files) (flat_map piece others)
  said_alike files others same m =
      ap (sum_by m) (by_bare files)
      ∙ pieces_alike (λ p. piece (bare p)) (map format_and_bytes files) (map format_and_bytes others) (permuted_alike _ _ same) m
      ∙ ap (sum_by m) (sym (by_bare others))

-- a test of files
module _ (passes : File → Bool) (told : (f : File) → passes f ≡ passes (bare (format_and_bytes f))) where
  any_bare : (files : List File) → list_any passes files ≡ list_any (λ p. passes (bare p)) (map format_and_bytes files)
  any_bare [] = refl
  any_bare (f ∷ files) = ap₂ ◌||◌ (told f) (any_bare files)

  pub same_any : (files others : List File) → AreSameFiles files others → list_any passes files ≡ list_any passes others
  same_any files others same = any_bare files ∙ list_any-IsPermutation (λ p. passes (bare p)) _ _ same ∙ sym (any_bare others)

  pub same_any_of_both : (xs ys us vs : List File) → AreSameFiles xs us → AreSameFiles ys vs → list_any passes (xs ++ ys) ≡ list_any passes (us ++ vs)
  same_any_of_both xs ys us vs one other =
      list_any-append passes xs ys ∙ ap₂ ◌||◌ (same_any xs us one) (same_any ys vs other) ∙ sym (list_any-append passes us vs)
