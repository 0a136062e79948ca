-- Texts on their way to a sink.
use Rattle.std.proofs.Common.{◌≡◌, ℕ, suc, ◌+◌, ◌<◌, List, [], ◌∷◌, ◌++◌, drop, length, get_or, add-one, Result, Ok, Err, IsErrAnd, MatchResult, OnErr, OnOk, refl, sym, ap, subst, ◌∙◌, append_assoc, append-nil}
use Rattle.std.proofs.Math.Seq.{drop-cons}
use Rattle.byte_io.specs.Gone.{IsOn}
use Rattle.byte_io.specs.Sinks.{HasGone, HasStopped}
use Rattle.byte_io.proofs.SinkLemmas.{gone_none, gone_on}

module _ {S : Type 0} (takes : S → List ℕ → S → Type 0) (from : S) where
  pub on_none : IsOn takes from [] from []
  on_none = record { gone = []; out = gone_none takes from; whole = refl }

  -- all that was held was taken
  pub all_gone : (held : List ℕ) (before after : S) (text : List ℕ) → IsOn takes from held before text → takes before held after → HasGone takes from text after
  all_gone held before after text on is = subst (λ (l : List ℕ). HasGone takes from l after) on.whole (gone_on takes from before after on.gone held on.out is)

  -- and bytes behind it
  pub gone_with : (before after : S) (text bytes : List ℕ) → HasGone takes from text before → takes before bytes after → IsOn takes from [] after (text ++ bytes)
  gone_with before after text bytes gone is = record { gone = text ++ bytes; out = gone_on takes from before after text bytes gone is; whole = append-nil (text ++ bytes) }

  module _ (stops : S → List ℕ → S → Type 0) where
    -- the sink stopped at what was held
    pub stopped_at : (held : List ℕ) (before after : S) (text : List ℕ) → IsOn takes from held before text → stops before held after → HasStopped takes stops from text after
    stopped_at held before after text on is = record {
      before = on.gone;
      piece = held;
      rest = [];
      whole = ap (λ l. on.gone ++ l) (append-nil held) ∙ on.whole;
      between = before;
      gone = on.out;
      last = is;
    }

    -- or at bytes behind a text that was taken
    pub stopped_behind : (before after : S) (text bytes : List ℕ) → HasGone takes from text before → stops before bytes after → HasStopped takes stops from (text ++ bytes) after
    stopped_behind before after text bytes gone is = record {
      before = text;
      piece = bytes;
      rest = [];
      whole = ap (λ l. text ++ l) (append-nil bytes);
      between = before;
      gone = gone;
      last = is;
    }

    -- of more, these are the first bytes too
    pub part_of : (to : S) (text more all : List ℕ) → text ++ more ≡ all → HasStopped takes stops from text to → HasStopped takes stops from all to
    part_of to text more all same it = record {
      before = it.before;
      piece = it.piece;
      rest = it.rest ++ more;
      whole = ap (λ l. it.before ++ l) (sym (append_assoc it.piece it.rest more)) ∙ sym (append_assoc it.before (it.piece ++ it.rest) more) ∙ ap (λ l. l ++ more) it.whole ∙ same;
      between = it.between;
      gone = it.gone;
      last = it.last;
    }

-- an error that is passed on
pub passed : {T E : Type 0} (result : Result T E) (R : E → Type 0) (P : T → Type 0) (Q : Type 0) → IsErrAnd result R → Q → MatchResult result P (λ e. Q)
passed (Ok x) R P Q is q = absurd is
passed (Err e) R P Q is q = q

-- what follows from a call follows from its outcome
pub followed : {T E : Type 0} (result : Result T E) (A B P Q : Type 0) → MatchResult result (λ x. A) (λ e. B) → (A → P) → (B → Q) → MatchResult result (λ x. P) (λ e. Q)
followed (Ok x) A B P Q is p q = p is
followed (Err e) A B P Q is p q = q is

pub on_error : {T E : Type 0} (result : Result T E) (Q : Type 0) → Q → OnErr result Q
on_error (Ok x) Q q = tt
on_error (Err e) Q q = q

-- what follows from success, and what from a failure
pub if_ok : {T E : Type 0} (result : Result T E) (A P Q : Type 0) → MatchResult result (λ x. A × P) (λ e. Q) → OnOk result P
if_ok (Ok x) A P Q is = is.1
if_ok (Err e) A P Q is = tt

pub if_err : {T E : Type 0} (result : Result T E) (P Q : Type 0) → MatchResult result (λ x. P) (λ e. Q) → OnErr result Q
if_err (Ok x) P Q is = tt
if_err (Err e) P Q is = is

pub drop_at : {X : Type 0} (xs : List X) (i : ℕ) (x : X) → i < length xs → x ≡ get_or xs i x → drop i xs ≡ x ∷ drop (i + 1) xs
drop_at xs i x within is = rw (add-one, drop-cons xs i x within) (ap (λ y. y ∷ drop (suc i) xs) (sym is))

-- a text that is one piece
pub one_gone : {S T E : Type 0} (takes stops : S → List ℕ → S → Type 0) (result : Result T E) (from to : S) (text : List ℕ)
    → MatchResult result (λ x. takes from text to) (λ e. stops from text to) → OnOk result (HasGone takes from text to)
one_gone takes stops (Ok x) from to text is = gone_on takes from from to [] text (gone_none takes from) is
one_gone takes stops (Err e) from to text is = tt

pub one_stopped : {S T E : Type 0} (takes stops : S → List ℕ → S → Type 0) (result : Result T E) (from to : S) (text : List ℕ)
    → MatchResult result (λ x. takes from text to) (λ e. stops from text to) → OnErr result (HasStopped takes stops from text to)
one_stopped takes stops (Ok x) from to text is = tt
one_stopped takes stops (Err e) from to text is = stopped_behind takes from stops from to [] text (gone_none takes from) is
