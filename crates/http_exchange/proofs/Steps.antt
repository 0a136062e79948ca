-- Reads and writes, one more at a time.
use Rattle.std.proofs.Common.{◌≡◌, ℕ, ◌+◌, ◌-◌, ◌<◌, ◌≤◌, Bool, true, false, ◌||◌, List, [], ◌∷◌, ◌++◌, length, take, drop, refl, sym, ap, subst, ◌∙◌, arith, append_assoc, append-nil}
use Rattle.std.proofs.lemmas.List.{length-append, length-take-le, length-drop, take-take, take-append-drop}
use Rattle.std.proofs.lemmas.List.Folds.{list_any-append}
use Rattle.std.proofs.lemmas.Slice.{take-put_mid}
use Rattle.std.proofs.Math.Seq.{take-append-add}
use Rattle.std.specs.List.{list_any}
use borrow.Rule.Slice.PartMut.{put_mid, mid_of, same_len_mid}
use Rattle.http_exchange.specs.Streams.{Written, Took, Broke, Writes, bytes_written, is_stopped, HaveTaken, HasBroken, WentAs}

-- ---- tests of lists

pub any_join : {A : Type 0} (test : A → Bool) (first second : List A) → list_any test first ≡ false → list_any test second ≡ false → list_any test (first ++ second) ≡ false
any_join test first second e f = list_any-append test first second ∙ ap (λ b. b || list_any test second) e ∙ f

-- ---- writes, one more

module _ {S : Type 0} (writes : S → Written → S → Type 0) where
  pub wrote_on : (from between to : S) (more : List Written) (one : Written) → Writes writes from more between → writes between one to → Writes writes from (more ++ one ∷ []) to
  wrote_on from between to [] one was is = let P : S → Type 0 = λ x. Writes writes x (one ∷ []) to in subst P (sym was) (to, is, refl)
  wrote_on from between to (first ∷ more) one was is = (was.0, was.1, wrote_on was.0 between to more one was.2 is)

  pub wrote_join : (from between to : S) (first second : List Written) → Writes writes from first between → Writes writes between second to → Writes writes from (first ++ second) to
  wrote_join from between to [] second was later = let P : S → Type 0 = λ x. Writes writes x second to in subst P (sym was) later
  wrote_join from between to (one ∷ more) second was later = (was.0, was.1, wrote_join was.0 between to more second was.2 later)

pub written_join : (first second : List Written) → bytes_written (first ++ second) ≡ bytes_written first ++ bytes_written second
written_join [] second = refl
written_join (Took bytes ∷ first) second = ap (λ l. bytes ++ l) (written_join first second) ∙ sym (append_assoc bytes (bytes_written first) (bytes_written second))
written_join (Broke ∷ first) second = written_join first second

pub written_on : (writes : List Written) (piece : List ℕ) → bytes_written (writes ++ Took piece ∷ []) ≡ bytes_written writes ++ piece
written_on writes piece = written_join writes (Took piece ∷ []) ∙ ap (λ l. bytes_written writes ++ l) (append-nil piece)

-- a piece that is not empty
pub has_taken : (piece : List ℕ) → 0 < length piece → HaveTaken (Took piece ∷ [])
has_taken [] some = absurd (omega (arith, some))
has_taken (b ∷ piece) some = refl

-- the writes so far took a front of the text, and the next stopped
pub cut_at : (text : List ℕ) (at : ℕ) (writes : List Written) (last : Written) → at < length text → bytes_written writes ≡ take at text → HaveTaken writes → bytes_written (last ∷ []) ≡ [] → is_stopped last ≡ true → WentAs false text (writes ++ last ∷ [])
cut_at text at writes last less are taken none stopped =
    let all : bytes_written (writes ++ last ∷ []) ≡ take at text = written_join writes (last ∷ []) ∙ ap (λ l. bytes_written writes ++ l) none ∙ append-nil (bytes_written writes) ∙ are in
    let many = ap length all ∙ length-take-le at text (omega (arith, less)) in (
      (drop at text, sym (take-append-drop at text) ∙ ap (λ l. l ++ drop at text) (sym all)),
      record { before = writes; last = last; are = refl; taken = taken; stopped = stopped },
      omega (arith, many, less),
    )

-- ---- two texts

pub cut_first : (first second : List ℕ) (writes : List Written) → WentAs false first writes → WentAs false (first ++ second) writes
cut_first first second writes cut = (
  (cut.0.0 ++ second, ap (λ l. l ++ second) cut.0.1 ∙ append_assoc (bytes_written writes) cut.0.0 second),
  cut.1,
  let long = length-append first second in let less = cut.2 in omega (arith, long, less),
)

broken_join : (first second : List Written) → HaveTaken first → HasBroken second → HasBroken (first ++ second)
broken_join first second taken broken = record {
  before = first ++ broken.before;
  last = broken.last;
  are = ap (λ l. first ++ l) broken.are ∙ sym (append_assoc first broken.before (broken.last ∷ []));
  taken = any_join is_stopped first broken.before taken broken.taken;
  stopped = broken.stopped;
}

pub went_join : (went : Bool) (first second : List ℕ) (writes later : List Written) → WentAs true first writes → WentAs went second later → WentAs went (first ++ second) (writes ++ later)
went_join true first second writes later one two = (
  written_join writes later ∙ ap (λ l. l ++ bytes_written later) one.0 ∙ ap (λ l. first ++ l) two.0,
  any_join is_stopped writes later one.1 two.1,
)
went_join false first second writes later one two = (
  (two.0.0, ap (λ l. first ++ l) two.0.1 ∙ ap (λ l. l ++ (bytes_written later ++ two.0.0)) (sym one.0) ∙ sym (append_assoc (bytes_written writes) (bytes_written later) two.0.0) ∙ ap (λ l. l ++ two.0.0) (sym (written_join writes later))),
  broken_join writes later one.1 two.1,
  let long = length-append first second in
      let went = ap length (written_join writes later ∙ ap (λ l. l ++ bytes_written later) one.0) ∙ length-append first (bytes_written later) in
      let less = two.2 in omega (arith, long, went, less),
)

-- ---- what was read, in the buffer that it was read into

pub filled_on : (at n k : ℕ) (old part : List ℕ) → at ≤ length old → n ≤ length part → take (at + n) (put_mid at k old part) ≡ take at old ++ take n part
filled_on at n k old part fits few =
    let whole = take-put_mid at k old part (at + length part) refl fits in
    let fewer : at + n ≤ at + length part = omega arith in
    let many : length (take at old) ≡ at = length-take-le at old fits in
    sym (take-take (at + n) (at + length part) (put_mid at k old part) fewer) ∙ ap (take (at + n)) whole
    ∙ ap (λ m. take (m + n) (take at old ++ part)) (sym many) ∙ take-append-add (take at old) part n

pub same_room : (at k : ℕ) (old part : List ℕ) → k ≡ length old - at → at ≤ length old → length part ≡ k → length (put_mid at k old part) ≡ length old
same_room at k old part e fits many =
    let left = length-drop at old in
    let middle : length (mid_of at k old) ≡ k = length-take-le k (drop at old) (omega (arith, left, e)) in
    same_len_mid at k old part (many ∙ sym middle)

pub left_len : (at : ℕ) (old : List ℕ) → at ≤ length old → length (take (length old - at) (drop at old)) ≡ length old - at
left_len at old fits = let left = length-drop at old in length-take-le (length old - at) (drop at old) (omega (arith, left))

pub room_left : (at n : ℕ) (old part : List ℕ) → at ≤ length old → length part ≡ length (take (length old - at) (drop at old)) → n ≤ length part → at + n ≤ length old
room_left at n old part fits many few = let left = left_len at old fits in omega (arith, fits, many, few, left)
