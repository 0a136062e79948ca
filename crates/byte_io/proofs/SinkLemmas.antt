-- Texts that a sink is given in pieces.
use Rattle.std.proofs.Common.{◌≡◌, inl, inr, ℕ, List, [], ◌∷◌, ◌++◌, refl, sym, ap, subst, ◌∙◌, append_assoc, append-nil}
use Rattle.std.specs.List.{concat}
use Rattle.byte_io.specs.Sinks.{HasGone, HasGoneInPart, HasStopped, TakesEach}

concat_on : (pieces : List (List ℕ)) (piece : List ℕ) → concat (pieces ++ piece ∷ []) ≡ concat pieces ++ piece
concat_on [] piece = append-nil piece
concat_on (first ∷ pieces) piece = ap (λ l. first ++ l) (concat_on pieces piece) ∙ sym (append_assoc first (concat pieces) piece)

module _ {S : Type 0} (takes : S → List ℕ → S → Type 0) where
  took_on : (from between to : S) (pieces : List (List ℕ)) (piece : List ℕ) → TakesEach takes from pieces between → takes between piece to → TakesEach takes from (pieces ++ piece ∷ []) to
  took_on from between to [] piece was is = let P : S → Type 0 = λ x. TakesEach takes x (piece ∷ []) to in subst P (sym was) (to, is, refl)
  took_on from between to (first ∷ pieces) piece was is = (was.0, was.1, took_on was.0 between to pieces piece was.2 is)

  pub gone_none : (sink : S) → HasGone takes sink [] sink
  gone_none sink = record { pieces = []; taken = refl; are = refl }

  -- one more piece was taken
  pub gone_on : (from between to : S) (text piece : List ℕ) → HasGone takes from text between → takes between piece to → HasGone takes from (text ++ piece) to
  gone_on from between to text piece was is = record {
    pieces = was.pieces ++ piece ∷ [];
    taken = took_on from between to was.pieces piece was.taken is;
    are = concat_on was.pieces piece ∙ ap (λ l. l ++ piece) was.are;
  }

  -- the sink was given nothing
  pub part_none : (stops : S → List ℕ → S → Type 0) (sink : S) (text : List ℕ) → HasGoneInPart takes stops sink text sink
  part_none stops sink text = record { before = []; piece = []; rest = text; whole = refl; between = sink; gone = gone_none sink; last = inl refl }

  -- a sink that stopped took a text in part
  pub stopped_part : (stops : S → List ℕ → S → Type 0) (from : S) (text : List ℕ) (to : S) → HasStopped takes stops from text to → HasGoneInPart takes stops from text to
  stopped_part stops from text to it = record { before = it.before; piece = it.piece; rest = it.rest; whole = it.whole; between = it.between; gone = it.gone; last = inr it.last }

  -- what each piece does, a text does, too
  module _ (R : S → List ℕ → S → Type 0) (none : (sink : S) → R sink [] sink) (join : (from between to : S) (piece text : List ℕ) → takes from piece between → R between text to → R from (piece ++ text) to) where
    each_as : (from : S) (pieces : List (List ℕ)) (to : S) → TakesEach takes from pieces to → R from (concat pieces) to
    each_as from [] to same = subst (λ s. R from [] s) same (none from)
    each_as from (piece ∷ pieces) to was = join from was.0 to piece (concat pieces) was.1 (each_as was.0 pieces to was.2)

    pub gone_as : (from : S) (text : List ℕ) (to : S) → HasGone takes from text to → R from text to
    gone_as from text to gone = subst (λ l. R from l to) gone.are (each_as from gone.pieces to gone.taken)
