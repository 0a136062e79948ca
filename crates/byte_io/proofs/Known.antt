-- Reads of what is known to be left.
use Rattle.std.proofs.Common.{◌≡◌, ℕ, ◌≤◌, true, List, [], ◌∷◌, ◌++◌, length, Option, Some, None, refl, sym, ap, subst, ◌∙◌, arith, append_assoc}
use Rattle.std.proofs.lemmas.List.{length-append}
use Rattle.std.specs.List.{list_any}
use Rattle.std.specs.Io.KnownBytes.{Consumes, Keeps, IsAtEnd}
use Rattle.byte_io.specs.Outcomes.{Outcome, Gave, Failed, bytes_of, is_end}
use Rattle.byte_io.specs.Reads.{Reads}
use Rattle.byte_io.specs.Known.{IsRead}

-- of all bytes these were given, and the others are left
abbrev Left : List ℕ → List ℕ → Option (List ℕ) → Type 0
Left all given known = (rest : List ℕ) × (known ≡ Some rest) × (all ≡ given ++ rest)

gave_left : (all bytes : List ℕ) (before after : Option (List ℕ)) → before ≡ Some all → Consumes before after bytes → Left all bytes after
gave_left all bytes None after was is = let none : None ≡ Some all = was in cc
gave_left all bytes (Some xs) None was is = absurd is
gave_left all bytes (Some xs) (Some ys) was is = let same : all ≡ xs = cc in (ys, refl, same ∙ is)

failed_left : (all : List ℕ) (before after : Option (List ℕ)) → before ≡ Some all → Keeps before after → after ≡ Some all
failed_left all None after was is = let none : None ≡ Some all = was in cc
failed_left all (Some xs) None was is = absurd is
failed_left all (Some xs) (Some ys) was is = ap Some is ∙ was

-- where the end was told, nothing is left
at_end : (all bytes : List ℕ) (after : Option (List ℕ)) → IsAtEnd after → Left all bytes after → after ≡ Some []
at_end all bytes None end left = let none : None ≡ Some left.0 = left.1 in cc
at_end all bytes (Some xs) end left = ap Some end

first_empty : (xs ys : List ℕ) → xs ++ ys ≡ [] → xs ≡ []
first_empty [] ys is = refl
first_empty (x ∷ xs) ys is = cc

module _ {S : Type 0} (remaining : S → Option (List ℕ)) where
  abbrev reads : S → Outcome → S → Type 0
  reads from o to = IsRead (remaining from) o (remaining to)

  known_left : (outcomes : List Outcome) (from to : S) (all : List ℕ) → remaining from ≡ Some all → Reads reads from outcomes to → Left all (bytes_of outcomes) (remaining to)
  known_left [] from to all known came = (all, subst (λ s. remaining s ≡ Some all) came known, refl)
  known_left (Gave bytes ∷ outcomes) from to all known came =
      let first = gave_left all bytes (remaining from) (remaining came.0) known came.1.0 in
      let later = known_left outcomes came.0 to first.0 first.1 came.2 in
      (later.0, later.1, first.2 ∙ ap (λ l. bytes ++ l) later.2 ∙ sym (append_assoc bytes (bytes_of outcomes) later.0))
  known_left (Failed ∷ outcomes) from to all known came = known_left outcomes came.0 to all (failed_left all (remaining from) (remaining came.0) known came.1) came.2

  -- reads that told the end gave all
  pub known_whole : (outcomes : List Outcome) (from to : S) (all : List ℕ) → remaining from ≡ Some all → Reads reads from outcomes to → list_any is_end outcomes ≡ true → bytes_of outcomes ≡ all
  known_whole [] from to all known came ended = cc
  known_whole (Gave [] ∷ outcomes) from to all known came ended =
      let first = gave_left all [] (remaining from) (remaining came.0) known came.1.0 in
      let end = at_end all [] (remaining came.0) (came.1.1 refl) first in
      let later = known_left outcomes came.0 to [] end came.2 in
      let none : all ≡ [] = let some : remaining came.0 ≡ Some first.0 = first.1 in let here : all ≡ first.0 = first.2 in cc in
      first_empty (bytes_of outcomes) later.0 (sym later.2) ∙ sym none
  known_whole (Gave (b ∷ bytes) ∷ outcomes) from to all known came ended =
      let first = gave_left all (b ∷ bytes) (remaining from) (remaining came.0) known came.1.0 in
      ap (λ l. (b ∷ bytes) ++ l) (known_whole outcomes came.0 to first.0 first.1 came.2 ended) ∙ sym first.2
  known_whole (Failed ∷ outcomes) from to all known came ended =
      known_whole outcomes came.0 to all (failed_left all (remaining from) (remaining came.0) known came.1) came.2 ended

  -- and they gave no more than there was
  pub known_most : (outcomes : List Outcome) (from to : S) (all : List ℕ) → remaining from ≡ Some all → Reads reads from outcomes to → length (bytes_of outcomes) ≤ length all
  known_most outcomes from to all known came =
      let left = known_left outcomes from to all known came in
      let joined = ap length left.2 ∙ length-append (bytes_of outcomes) left.0 in omega (arith, joined)
