-- What is written of a text grows.
use Rattle.std.proofs.Common.{◌≡◌, ◌+◌, ◌-◌, ℕ, length, ap, List, take, drop, Option, sym, subst, ◌∙◌}
use Rattle.std.specs.Io.KnownBytes.{Appends}
use Rattle.std.proofs.KnownBytes.{Appends-trans}
use Rattle.std.proofs.Math.Seq.{take-add, take-length}
use Rattle.std.proofs.lemmas.List.{length-drop}

-- the first of a text, and then the first of the rest
pub more_written : (a b c : Option (List ℕ)) (text : List ℕ) (n m : ℕ) → Appends a b (take n text) → Appends b c (take m (take (length text - n) (drop n text))) → Appends a c (take (n + m) text)
more_written a b c text n m first second =
    let rest : take (length text - n) (drop n text) ≡ drop n text = ap (λ k. take k (drop n text)) (sym (length-drop n text)) ∙ take-length (drop n text) in
    subst (Appends a c) (sym (take-add n m text)) (Appends-trans a b c (take n text) (take m (drop n text)) first (subst (λ l. Appends b c (take m l)) rest second))
