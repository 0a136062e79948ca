-- Runs of the book that are those of files.
use Rattle.std.proofs.Common.{◌≡◌, ℕ, Bool, true, false, not, ◌==◌, List, [], ◌∷◌, ◌++◌, filter, ap, cond}
use Rattle.run_stores.specs.Book.{RunBook}
use Rattle.histories.specs.History.{File}
use Rattle.histories.specs.Representation.{IsBookOf, AreBooksOf}

-- one file more
pub books_push : (files : List File) (runs : List RunBook) (f : File) (r : RunBook) → AreBooksOf files runs → IsBookOf f r → AreBooksOf (files ++ f ∷ []) (runs ++ r ∷ [])
books_push [] [] f r all last = (last, tt)
books_push [] (q ∷ runs) f r all last = absurd all
books_push (e ∷ files) [] f r all last = absurd all
books_push (e ∷ files) (q ∷ runs) f r all last = (all.0, books_push files runs f r all.1 last)

-- one file less
pub books_left : (n : ℕ) (files : List File) (runs : List RunBook) → AreBooksOf files runs → AreBooksOf (filter (λ (f : File). not (f.number == n)) files) (filter (λ (r : RunBook). not (r.line.number == n)) runs)
books_left n [] [] all = tt
books_left n [] (r ∷ runs) all = absurd all
books_left n (f ∷ files) [] all = absurd all
books_left n (f ∷ files) (r ∷ runs) all = go (f.number == n) (r.line.number == n) (ap (λ k. k == n) all.0.number) (books_left n files runs all.1)
  where
    go : (a b : Bool) → b ≡ a → AreBooksOf (filter (λ (f : File). not (f.number == n)) files) (filter (λ (r : RunBook). not (r.line.number == n)) runs)
        → AreBooksOf (cond (not a) (f ∷ filter (λ (f : File). not (f.number == n)) files) (filter (λ (f : File). not (f.number == n)) files))
        (cond (not b) (r ∷ filter (λ (r : RunBook). not (r.line.number == n)) runs) (filter (λ (r : RunBook). not (r.line.number == n)) runs))
    go true true same rest = rest
    go false false same rest = (all.0, rest)
    go true false same rest = absurd cc
    go false true same rest = absurd cc
