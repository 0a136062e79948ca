use Rattle.std.proofs.Common.{◌≡◌, ◌≤◌, ℕ, List, ◌∷◌, map, take, length}
use Rattle.run_stores.specs.HeldHeads.{coefs_at, coefs_from}
use Rattle.run_lists.specs.HeadLines.{entry_of_coef}
use Rattle.run_lists.proofs.heads_held.row_in.Given as goal

abbrev pub invariant-events : goal.invariant-events
invariant-events l =
    (length l.row ≡ l.event)
    × (l.used ≤ length l.coefs)
    × (map entry_of_coef (take l.used l.coefs) ≡ coefs_at l.place 0 l.row)
    × ((row : List ℕ) (rows : List (List ℕ)) → length row ≡ l.events → map entry_of_coef l.coefs ≡ coefs_from l.place (row ∷ rows) → l.row ≡ take l.event row)
