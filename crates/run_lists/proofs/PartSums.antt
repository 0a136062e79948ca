-- Sums by part, as lines are taken.
use Rattle.std.proofs.Common.{◌≡◌, ◌<◌, ◌+◌, ◌++◌, ◌==◌, ℕ, Bool, true, false, if◌then◌else◌, List, [], ◌∷◌, filter, take, length, get_or, sum_by, refl, sym, ap, ◌∙◌, arith}
use Rattle.std.proofs.lemmas.Bool.{eq-eqb, ne_eqb}
use Rattle.std.proofs.lemmas.List.{take_more}
use Rattle.std.proofs.lemmas.List.Elements.{filter-append}
use Rattle.std.proofs.lemmas.List.Sums.{sum_by-append, sum_by-cons}
use Rattle.run_lists.specs.RowSums.{listed_of_run, sum_of_part}
use Rattle.run_lists.specs.declared.listed.ListedEvent.{ListedEvent}

-- a line more counts in its part alone
module _ {L : Type 0} (part amount : L → ℕ) where
  one_line : (k : ℕ) (line : L) → sum_of_part part amount k (line ∷ []) ≡ (if part line == k then amount line else 0)
  one_line k line = go (part line == k)
    where
      go : (b : Bool) → sum_by amount (if b then line ∷ [] else []) ≡ (if b then amount line else 0)
      go true = sum_by-cons amount line [] ∙ omega arith
      go false = refl

  pub part_push : (k : ℕ) (lines : List L) (line : L) → sum_of_part part amount k (lines ++ line ∷ []) ≡ sum_of_part part amount k lines + (if part line == k then amount line else 0)
  part_push k lines line =
      let is_of = λ (l : L). part l == k in
      ap (sum_by amount) (filter-append is_of lines (line ∷ [])) ∙ sum_by-append amount (filter is_of lines) (filter is_of (line ∷ []))
      ∙ ap (λ n. sum_of_part part amount k lines + n) (one_line k line)

-- an event more
module _ (amount : ListedEvent → ℕ) (run : ℕ) (events : List ListedEvent) (at : ℕ) (event : ListedEvent) (low : at < length events) (is : event ≡ get_or events at event) where
  abbrev place : ListedEvent → ℕ
  place e = e.place

  one_more : listed_of_run run (take (at + 1) events) ≡ listed_of_run run (take at events) ++ listed_of_run run (event ∷ [])
  one_more = ap (listed_of_run run) (take_more events at event low ∙ ap (λ e. take at events ++ e ∷ []) (sym is)) ∙ filter-append (λ (e : ListedEvent). e.run == run) (take at events) (event ∷ [])

  -- of the run
  pub event_counted : event.run ≡ run → (k : ℕ) → sum_of_part place amount k (listed_of_run run (take (at + 1) events)) ≡ sum_of_part place amount k (listed_of_run run (take at events)) + (if event.place == k then amount event else 0)
  event_counted same k =
      let of : (event.run == run) ≡ true = eq-eqb event.run run same in
      let this : listed_of_run run (event ∷ []) ≡ event ∷ [] = rw of refl in
      ap (sum_of_part place amount k) (one_more ∙ ap (λ l. listed_of_run run (take at events) ++ l) this) ∙ part_push place amount k (listed_of_run run (take at events)) event

  -- or of another
  pub event_passed_over : (event.run ≡ run → ⊥) → (k : ℕ) → sum_of_part place amount k (listed_of_run run (take (at + 1) events)) ≡ sum_of_part place amount k (listed_of_run run (take at events))
  event_passed_over differs k =
      let other : (event.run == run) ≡ false = ne_eqb event.run run differs in
      let none : listed_of_run run (event ∷ []) ≡ [] = rw other refl in
      ap (sum_of_part place amount k) (one_more ∙ ap (λ l. listed_of_run run (take at events) ++ l) none ∙ append_nil (listed_of_run run (take at events)))
    where
      append_nil : {X : Type 0} (xs : List X) → xs ++ [] ≡ xs
      append_nil [] = refl
      append_nil (x ∷ xs) = ap (λ l. x ∷ l) (append_nil xs)
