-- Runs that are added one after another.
use Rattle.std.proofs.Common.{ℕ, ◌+◌, ◌<◌, List, [], ◌∷◌, ◌++◌, length, get_or, take, refl, sym, subst}
use Rattle.std.proofs.lemmas.List.{take_more}
use Rattle.selected_runs.specs.Added.{AreAdded}

added_more : {R M : Type 0} (Step : R → M → M → Type 0) (runs : List R) (run : R) (before between after : M) → AreAdded Step runs before between → Step run between after
    → AreAdded Step (runs ++ run ∷ []) before after
added_more Step [] run before between after all one = (after, subst (λ m. Step run m after) all one, refl)
added_more Step (r ∷ runs) run before between after all one = (all.0, all.1, added_more Step runs run all.0 between after all.2 one)

pub added_so_far : {R M : Type 0} (Step : R → M → M → Type 0) (runs : List R) (at : ℕ) (d : R) (before between after : M) → at < length runs → AreAdded Step (take at runs) before between
    → Step (get_or runs at d) between after → AreAdded Step (take (at + 1) runs) before after
added_so_far Step runs at d before between after low all one =
    subst (λ rs. AreAdded Step rs before after) (sym (take_more runs at d low)) (added_more Step (take at runs) (get_or runs at d) before between after all one)
