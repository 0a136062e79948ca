-- Runs that are counted one after another.
use Rattle.std.proofs.Common.{◌≡◌, ℕ, List, [], ◌∷◌, ◌++◌, append_assoc, append-nil, sym, ap, ◌∙◌}
use Rattle.plain_tables.specs.Tables.{Tables}
use Rattle.selected_runs.specs.Added.{AreAdded}
use Rattle.selected_runs.specs.Counted.{AddsCounted, AreCounted}
use Rattle.selected_runs.specs.declared.counting.Counted.{Counted}

module _ {M : Type 0} (items : M → List Counted) (t : Tables) (event : List ℕ) where
  pub counted_added : (numbers : List ℕ) (before after : M) → AreAdded (λ number old new. AddsCounted t event number (items old) (items new)) numbers before after
      → (runs : List Counted) × AreCounted t event numbers runs × (items after ≡ items before ++ runs)
  counted_added [] before after all = ([], tt, ap items all ∙ sym (append-nil (items before)))
  counted_added (number ∷ numbers) before after all =
      let one = all.1 in
      let rest = counted_added numbers all.0 after all.2 in
      (one.0 ∷ rest.0, (one.1, rest.1), rest.2 ∙ ap (λ l. l ++ rest.0) one.2 ∙ append_assoc (items before) (one.0 ∷ []) rest.0)
