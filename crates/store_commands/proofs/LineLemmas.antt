-- Lines that are written one after another.
use Rattle.std.proofs.Common.{◌≡◌, ℕ, ◌+◌, ◌<◌, ◌≤◌, List, ◌++◌, length, get_or, drop, flat_map, sym, ap, ◌∙◌, append_assoc, append-nil}
use Rattle.std.proofs.lemmas.List.{at_drop_all, drop_more}

module _ {X : Type 0} (line : X → List ℕ) (xs : List X) (i : ℕ) (text : List ℕ) (so_far : text ++ flat_map line (drop i xs) ≡ flat_map line xs) where
  -- one line more was written
  pub line_written : (x : X) (now : List ℕ) → i < length xs → x ≡ get_or xs i x → now ≡ text ++ line x → now ++ flat_map line (drop (i + 1) xs) ≡ flat_map line xs
  line_written x now low is written =
      let rest = flat_map line (drop (i + 1) xs) in
      ap (λ l. l ++ rest) (written ∙ ap (λ y. text ++ line y) is)
      ∙ append_assoc text (line (get_or xs i x)) rest
      ∙ ap (λ l. text ++ flat_map line l) (sym (drop_more xs i x low))
      ∙ so_far

  -- all lines were written
  pub lines_written : length xs ≤ i → text ≡ flat_map line xs
  lines_written past = sym (append-nil text) ∙ ap (λ l. text ++ l) (sym (at_drop_all (flat_map line) xs i past)) ∙ so_far
