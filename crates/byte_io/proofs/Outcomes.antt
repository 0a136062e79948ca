-- The reads of a source, one more at a time.
use Rattle.std.proofs.Common.{◌≡◌, ℕ, ◌+◌, ◌-◌, ◌<◌, ◌≤◌, Bool, true, false, ◌||◌, List, [], ◌∷◌, ◌++◌, length, Result, Ok, Err, IsErrAnd, MatchResult, refl, sym, ap, subst, ◌∙◌, arith, append_assoc, append-nil}
use Rattle.std.proofs.lemmas.List.{length-append}
use Rattle.std.specs.List.{list_any}
use Rattle.byte_io.specs.Outcomes.{Outcome, Gave, Failed, bytes_of, is_failed, is_end}
use Rattle.byte_io.specs.Takes.{HasRoom, Takes}
use Rattle.byte_io.specs.Reads.{Reads, AreSound, HasEnded, IsUnreadFor}
use Rattle.byte_io.specs.declared.reading.Unread.TheVariants as reasons

module _ {S : Type 0} (reads : S → Outcome → S → Type 0) where
  pub come_on : (from between to : S) (outcomes : List Outcome) (o : Outcome) → Reads reads from outcomes between → reads between o to → Reads reads from (outcomes ++ o ∷ []) to
  come_on from between to [] o was is = let P : S → Type 0 = λ x. Reads reads x (o ∷ []) to in subst P (sym was) (to, is, refl)
  come_on from between to (first ∷ outcomes) o was is = (was.0, was.1, come_on was.0 between to outcomes o was.2 is)

pub bytes_on : (outcomes : List Outcome) (piece : List ℕ) → bytes_of (outcomes ++ Gave piece ∷ []) ≡ bytes_of outcomes ++ piece
bytes_on [] piece = append-nil piece
bytes_on (Gave bytes ∷ outcomes) piece = ap (λ l. bytes ++ l) (bytes_on outcomes piece) ∙ sym (append_assoc bytes (bytes_of outcomes) piece)
bytes_on (Failed ∷ outcomes) piece = bytes_on outcomes piece

pub bytes_failed : (outcomes : List Outcome) → bytes_of (outcomes ++ Failed ∷ []) ≡ bytes_of outcomes
bytes_failed [] = refl
bytes_failed (Gave bytes ∷ outcomes) = ap (λ l. bytes ++ l) (bytes_failed outcomes)
bytes_failed (Failed ∷ outcomes) = bytes_failed outcomes

any_on : (test : Outcome → Bool) (outcomes : List Outcome) (o : Outcome) → list_any test (outcomes ++ o ∷ []) ≡ (list_any test outcomes || test o)
any_on test [] o = go (test o)
  where
    go : (b : Bool) → (b || false) ≡ (false || b)
    go true = refl
    go false = refl
any_on test (first ∷ outcomes) o = go (test first) (any_on test outcomes o)
  where
    go : (b : Bool) → list_any test (outcomes ++ o ∷ []) ≡ (list_any test outcomes || test o) → (b || list_any test (outcomes ++ o ∷ [])) ≡ ((b || list_any test outcomes) || test o)
    go true more = refl
    go false more = more

or_true : (b : Bool) → (b || true) ≡ true
or_true true = refl
or_true false = refl

-- ---- sound reads, and one more

module _ (limit left : ℕ) (outcomes : List Outcome) (sum : length (bytes_of outcomes) + left ≡ limit) (unfailed : list_any is_failed outcomes ≡ false) where
  pub sound_so_far : AreSound limit outcomes
  sound_so_far = record { within = omega (arith, sum); unfailed = unfailed }

  pub left_on : (piece : List ℕ) → length piece ≤ left → length (bytes_of (outcomes ++ Gave piece ∷ [])) + (left - length piece) ≡ limit
  left_on piece fits = let joined = ap length (bytes_on outcomes piece) ∙ length-append (bytes_of outcomes) piece in omega (arith, joined, sum, fits)

  pub unfailed_on : (piece : List ℕ) → list_any is_failed (outcomes ++ Gave piece ∷ []) ≡ false
  unfailed_on piece = any_on is_failed outcomes (Gave piece) ∙ ap (λ b. b || false) unfailed

  pub ended_now : HasEnded limit (outcomes ++ Gave [] ∷ [])
  ended_now = record {
    reads = record { within = let joined = ap length (bytes_on outcomes [] ∙ append-nil (bytes_of outcomes)) in omega (arith, joined, sum); unfailed = unfailed_on [] };
    ended = any_on is_end outcomes (Gave []) ∙ or_true (list_any is_end outcomes);
  }

  pub failed_now : IsUnreadFor limit (outcomes ++ Failed ∷ []) reasons.Failed
  failed_now = (outcomes, sound_so_far, refl)

  pub too_long_now : (piece : List ℕ) → left < length piece → IsUnreadFor limit (outcomes ++ Gave piece ∷ []) reasons.TooLong
  too_long_now piece over = let joined = ap length (bytes_on outcomes piece) ∙ length-append (bytes_of outcomes) piece in omega (arith, joined, sum, over)

-- ---- a source that was not read to its end for a failed read

module _ (limit : ℕ) (outcomes : List Outcome) (is : IsUnreadFor limit outcomes reasons.Failed) where
  pub failed_within : length (bytes_of outcomes) ≤ limit
  failed_within = let all = ap length (ap bytes_of is.2 ∙ bytes_failed is.0) in let few = is.1.within in omega (arith, all, few)

  pub failed_is : list_any is_failed outcomes ≡ true
  failed_is = ap (list_any is_failed) is.2 ∙ any_on is_failed is.0 Failed ∙ or_true (list_any is_failed is.0)

-- ---- what takes bytes, and one more piece

module _ {T Form : Type 0} (has_taken : T → Form → List ℕ → Type 0) where
  pub takes_on : (old between new : T) (outcomes : List Outcome) (piece : List ℕ) → Takes has_taken old (bytes_of outcomes) between → Takes has_taken between piece new → Takes has_taken old (bytes_of (outcomes ++ Gave piece ∷ [])) new
  takes_on old between new outcomes piece was is form bytes has =
      subst (has_taken new form) (append_assoc bytes (bytes_of outcomes) piece ∙ ap (λ l. bytes ++ l) (sym (bytes_on outcomes piece))) (is form (bytes ++ bytes_of outcomes) (was form bytes has))

  pub less_room : (t : T) (count fewer : ℕ) → fewer ≤ count → HasRoom has_taken t count → HasRoom has_taken t fewer
  less_room t count fewer few room = (room.0, room.1, room.2, let fits = room.3 in omega (arith, fits, few))

  pub room_on : (old new : T) (count : ℕ) (piece : List ℕ) → length piece ≤ count → Takes has_taken old piece new → HasRoom has_taken old count → HasRoom has_taken new (count - length piece)
  room_on old new count piece fits is room = (room.0, room.1 ++ piece, is room.0 room.1 room.2, let joined = length-append room.1 piece in let all = room.3 in omega (arith, joined, all, fits))

-- ---- answers of calls

pub passed_on : {T E : Type 0} (r : Result T E) (e : E) (P : T → Type 0) (Q : E → Type 0) → IsErrAnd r (λ y. y ≡ e) → Q e → MatchResult r P Q
passed_on (Ok x) e P Q is q = absurd is
passed_on (Err y) e P Q is q = subst Q (sym is) q
