-- Texts that are written in pieces.
use Rattle.std.proofs.Common.{◌≡◌, inl, inr, ℕ, true, List, [], ◌++◌, Result, Ok, Err, IsErrAnd, MatchResult, OnErr, refl, sym, ap, subst, ◌∙◌, append_assoc, append-nil}
use Rattle.cost_exports.specs.Views.{HasWritten}
use Rattle.cost_exports.specs.Pieces.{IsCut, IsOn, IsOut}
use Rattle.byte_io.specs.Sinks.{HasGone}
use Rattle.cost_exports.specs.declared.csv_pieces.Pieces.{Pieces}
use Rattle.byte_io.proofs.SinkLemmas.{gone_none, gone_on}

module _ {S : Type 0} (takes : S → List ℕ → S → Type 0) (from : S) where
  -- nothing was gathered, nor taken
  pub on_none : (pieces : Pieces) → HasWritten pieces.rows [] → IsOn takes from pieces from []
  on_none pieces has = record { written = []; held = []; out = gone_none takes from; gathered = has; whole = refl; none = λ is. refl }

  -- rows were gathered
  pub gathered_on : (pieces new : Pieces) (to : S) (text row : List ℕ) → new.begun ≡ pieces.begun → (on : IsOn takes from pieces to text) → HasWritten new.rows (on.held ++ row) → IsOn takes from new to (text ++ row)
  gathered_on pieces new to text row same on has = record {
    written = on.written;
    held = on.held ++ row;
    out = on.out;
    gathered = has;
    whole = sym (append_assoc on.written on.held row) ∙ ap (λ l. l ++ row) on.whole;
    none = λ is. on.none (sym same ∙ is);
  }

  -- all of what was gathered was taken
  pub all_out : (pieces new : Pieces) (before after : S) (text piece : List ℕ) → new.begun ≡ true → HasWritten new.rows [] → (on : IsOn takes from pieces before text) → piece ≡ on.held → takes before piece after → IsOut takes from new after text
  all_out pieces new before after text piece begun has on same is = record {
    out = subst (λ (l : List ℕ). HasGone takes from l after) (ap (λ l. on.written ++ l) same ∙ on.whole) (gone_on takes from before after on.written piece on.out is);
    gathered = has;
    begun = begun;
  }

  pub out_on : (pieces : Pieces) (to : S) (text : List ℕ) → IsOut takes from pieces to text → IsOn takes from pieces to text
  out_on pieces to text is = record { written = text; held = []; out = is.out; gathered = is.gathered; whole = append-nil text; none = λ none. let begun = is.begun in absurd (cc) }

  module _ (stops : S → List ℕ → S → Type 0) where
    -- rows could not be gathered, or not be handed on
    pub cut_here : (pieces new : Pieces) (to : S) (text more : List ℕ) → new.begun ≡ pieces.begun → IsOn takes from pieces to text → IsCut takes stops from new to (text ++ more)
    cut_here pieces new to text more same on = record {
      out = record {
        before = on.written;
        piece = [];
        rest = on.held ++ more;
        whole = sym (append_assoc on.written on.held more) ∙ ap (λ l. l ++ more) on.whole;
        between = to;
        gone = on.out;
        last = inl refl;
      };
      none = λ is. on.none (sym same ∙ is);
    }

    -- the sink stopped at what was gathered
    pub cut_within : (pieces new : Pieces) (before after : S) (text piece : List ℕ) → new.begun ≡ true → (on : IsOn takes from pieces before text) → piece ≡ on.held → stops before piece after → IsCut takes stops from new after text
    cut_within pieces new before after text piece begun on same is = record {
      out = record {
        before = on.written;
        piece = piece;
        rest = [];
        whole = ap (λ l. on.written ++ l) (append-nil piece ∙ same) ∙ on.whole;
        between = before;
        gone = on.out;
        last = inr is;
      };
      none = λ is. absurd (cc);
    }

    -- of more, these are the first bytes too
    pub cut_on : (pieces : Pieces) (to : S) (text more all : List ℕ) → text ++ more ≡ all → IsCut takes stops from pieces to text → IsCut takes stops from pieces to all
    cut_on pieces to text more all same cut =
        let it = cut.out in
        record {
          out = record {
            before = it.before;
            piece = it.piece;
            rest = it.rest ++ more;
            whole = ap (λ l. it.before ++ l) (sym (append_assoc it.piece it.rest more)) ∙ sym (append_assoc it.before (it.piece ++ it.rest) more) ∙ ap (λ l. l ++ more) it.whole ∙ same;
            between = it.between;
            gone = it.gone;
            last = it.last;
          };
          none = cut.none;
        }

-- what was handed on is on
pub handed_on : {S E : Type 0} (takes stops : S → List ℕ → S → Type 0) (result : Result Unit E) (from : S) (pieces : Pieces) (to : S) (text : List ℕ)
    → MatchResult result (λ done. IsOut takes from pieces to text) (λ e. IsCut takes stops from pieces to text) → MatchResult result (λ done. IsOn takes from pieces to text) (λ e. IsCut takes stops from pieces to text)
handed_on takes stops (Ok done) from pieces to text is = out_on takes from pieces to text is
handed_on takes stops (Err e) from pieces to text is = is

-- an error that is passed on
pub passed : {T E : Type 0} (result : Result T E) (R : E → Type 0) (P : T → Type 0) (Q : Type 0) → IsErrAnd result R → Q → MatchResult result P (λ e. Q)
passed (Ok x) R P Q is q = absurd is
passed (Err e) R P Q is q = q

-- the same, where no value is told of
pub on_error : {T E : Type 0} (result : Result T E) (Q : Type 0) → Q → OnErr result Q
on_error (Ok x) Q q = tt
on_error (Err e) Q q = q
