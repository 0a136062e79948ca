use Rattle.std.proofs.Common.{◌≡◌, ◌≤◌, ℕ, List, All, map, take, length}
use Rattle.run_stores.specs.HeldHeads.{coefs_from, placed}
use Rattle.run_lists.specs.HeadLines.{derived_place, entry_of_coef}
use Rattle.run_lists.proofs.heads_held.derived_in.Given as goal

abbrev pub invariant-lines : goal.invariant-lines
invariant-lines l =
    (map derived_place (take l.line-index l.lines) ≡ placed 0 (map (λ d. d.0) l.derived))
    × (l.used ≤ length l.coefs)
    × (map entry_of_coef (take l.used l.coefs) ≡ coefs_from 0 (map (λ d. d.1) l.derived))
    × ((derived : List (List ℕ × List ℕ)) → map derived_place l.lines ≡ placed 0 (map (λ d. d.0) derived) → map entry_of_coef l.coefs ≡ coefs_from 0 (map (λ d. d.1) derived) → All (λ d. length d.1 ≡ l.events) derived
    → l.derived ≡ take l.line-index derived)
