-- What the reads of a body come to, one after another.
use Rattle.std.proofs.Common.{◌≡◌, ◌⊎◌, inl, inr, ℕ, ◌+◌, ◌<◌, ◌≤◌, Bool, true, false, ◌||◌, IsTrue, List, [], ◌∷◌, ◌++◌, length, take, refl, sym, ap, subst, ◌∙◌, arith, append_assoc, append-nil}
use Rattle.std.proofs.lemmas.List.{length-append}
use Rattle.std.proofs.Math.Seq.{take-append-add}
use Rattle.std.specs.List.{list_any}
use Rattle.byte_io.specs.Outcomes.{Outcome, Gave, Failed, bytes_of, is_end}
use Rattle.byte_io.specs.Reads.{Reads}
use Rattle.http_exchange.specs.Streams.{IsFront}
use Rattle.http_exchange.specs.Received.{is_short}
use Rattle.http_exchange.specs.Bodies.{held, BodyRead, IsBodyOf}
use Rattle.http_exchange.specs.declared.bodies.Body.{Body}

-- a piece in front of what the later reads came to
pub one_more : (n m : ℕ) (piece text : List ℕ) (bytes : List ℕ) → n ≡ length piece + m → IsFront bytes (take m text) → IsFront (piece ++ bytes) (take n (piece ++ text))
one_more n m piece text bytes e front = (
  front.0,
  ap (λ k. take k (piece ++ text)) e ∙ take-append-add piece text m ∙ ap (λ l. piece ++ l) front.1 ∙ sym (append_assoc piece bytes front.0),
)

whole_on : (n m : ℕ) (piece text : List ℕ) (bytes : List ℕ) → n ≡ length piece + m → (bytes ≡ take m text) × (m ≤ length text) → (piece ++ bytes ≡ take n (piece ++ text)) × (n ≤ length (piece ++ text))
whole_on n m piece text bytes e whole =
    let long = length-append piece text in (
      ap (λ l. piece ++ l) whole.0 ∙ sym (ap (λ k. take k (piece ++ text)) e ∙ take-append-add piece text m),
      omega (arith, long, e, whole.1),
    )

no_end : (piece : List ℕ) → 0 < length piece → is_end (Gave piece) ≡ false
no_end [] some = absurd (omega (arith, some))
no_end (b ∷ piece) some = refl

drop_first : (first rest : Bool) → first ≡ false → IsTrue (first || rest) → IsTrue rest
drop_first first rest e h = subst (λ b. IsTrue (b || rest)) e h

or_later : (first rest : Bool) → IsTrue rest → IsTrue (first || rest)
or_later true rest h = refl
or_later false rest h = h

nothing_read : (read : Outcome) (reads : List Outcome) → bytes_of (read ∷ []) ≡ [] → bytes_of reads ≡ bytes_of (read ∷ reads)
nothing_read (Gave piece) reads e = ap (λ l. l ++ bytes_of reads) (sym e ∙ append-nil piece)
nothing_read Failed reads e = refl

nothing : (n : ℕ) (text bytes : List ℕ) → n ≡ 0 → IsFront bytes (take n text) → bytes ≡ take n text
nothing n text [] e front = sym (ap (λ k. take k text) e)
nothing n text (b ∷ bytes) e front = let no : [] ≡ b ∷ (bytes ++ front.0) = sym (ap (λ k. take k text) e) ∙ front.1 in cc

-- ---- a body, after one read more

-- the reads of the stream stay within a body of n bytes
abbrev StayWithin : ℕ → List ℕ → List Outcome → Type 0
StayWithin n after reads = (reads ≡ []) ⊎ ((length after < n) × (length after + length (bytes_of reads) ≤ n))

few : (n : ℕ) (after : List ℕ) (reads : List Outcome) → StayWithin n after reads → length (bytes_of reads) ≤ n
few n after reads (inl none) = let no_byte : length (bytes_of reads) ≡ 0 = ap (λ r. length (bytes_of r)) none in omega (arith, no_byte)
few n after reads (inr within) = omega (arith, within.1)

held_within : (n m : ℕ) (piece after rest : List ℕ) (reads : List Outcome) → after ≡ piece ++ rest → n ≡ length piece + m → StayWithin m rest reads → StayWithin n after reads
held_within n m piece after rest reads parts left (inl none) = inl none
held_within n m piece after rest reads parts left (inr within) =
    let long = ap length parts ∙ length-append piece rest in inr (omega (arith, long, left, within.0), omega (arith, long, left, within.1))

read_within : (n m : ℕ) (after rest : List ℕ) (read : Outcome) (reads : List Outcome) → after ≡ [] → 0 < n → n ≡ length (bytes_of (read ∷ [])) + m → StayWithin m rest reads → StayWithin n after (read ∷ reads)
read_within n m after rest read reads none some left within =
    let empty = ap length none in
    let long = one_first read reads in
    let most = few m rest reads within in inr (omega (arith, empty, some), omega (arith, empty, long, left, most))
  where
    one_first : (read : Outcome) (reads : List Outcome) → length (bytes_of (read ∷ reads)) ≡ length (bytes_of (read ∷ [])) + length (bytes_of reads)
    one_first (Gave piece) reads = length-append piece (bytes_of reads) ∙ ap (λ l. length l + length (bytes_of reads)) (sym (append-nil piece))
    one_first Failed reads = omega arith

-- a piece was read
with_piece : (n m : ℕ) (piece after rest : List ℕ) (reads later more : List Outcome) → 0 < length piece → n ≡ length piece + m → after ++ bytes_of reads ≡ piece ++ (rest ++ bytes_of later)
    → (IsTrue (list_any is_short later) → IsTrue (list_any is_short reads)) → StayWithin n after reads → IsBodyOf m rest later more → IsBodyOf n after reads (Gave piece ∷ more)
with_piece n m piece after rest reads later more some left text short within body = record {
  front = subst (λ l. IsFront (piece ++ bytes_of more) (take n l)) (sym text) (one_more n m piece (rest ++ bytes_of later) (bytes_of more) left body.front);
  whole = λ h. subst (λ l. (piece ++ bytes_of more ≡ take n l) × (n ≤ length l)) (sym text) (whole_on n m piece (rest ++ bytes_of later) (bytes_of more) left (body.whole (drop_first (is_end (Gave piece)) (list_any is_end more) (no_end piece some) h)));
  short = λ h. short (body.short h);
  within = within;
}

module _ {T : Type 0} (reads : T → Outcome → T → Type 0) where
  -- the reads of the stream, and the body that they bring
  abbrev pub Comes : Body T → List Outcome → Body T → Type 0
  Comes old outcomes new = (stream_reads : List Outcome) × Reads reads old.stream stream_reads new.stream × IsBodyOf old.left (held old) stream_reads outcomes

  none_comes : (old new : Body T) → old ≡ new → Comes old [] new
  none_comes old new e = (
    [],
    ap (λ (x : Body T). x.stream) e,
    record { front = (take old.left (held old ++ []), refl); whole = λ h. cc; short = λ h. cc; within = inl refl },
  )

  over_comes : (old new : Body T) (more : List Outcome) → old.left ≡ 0 → Comes old more new → Comes old (Gave [] ∷ more) new
  over_comes old new more none later = (
    later.0,
    later.1,
    record {
      front = later.2.front;
      whole = λ _. (nothing old.left (held old ++ bytes_of later.0) (bytes_of more) none later.2.front, omega (arith, none));
      short = later.2.short;
      within = later.2.within;
    },
  )

  held_comes : (old mid new : Body T) (more : List Outcome) (piece : List ℕ) → 0 < length piece → held old ≡ piece ++ held mid → old.left ≡ length piece + mid.left → mid.stream ≡ old.stream → Comes mid more new → Comes old (Gave piece ∷ more) new
  held_comes old mid new more piece some parts left same later = (
    later.0,
    subst (λ s. Reads reads s later.0 new.stream) same later.1,
    with_piece old.left mid.left piece (held old) (held mid) later.0 later.0 more some left
        (ap (λ l. l ++ bytes_of later.0) parts ∙ append_assoc piece (held mid) (bytes_of later.0)) (λ h. h)
        (held_within old.left mid.left piece (held old) (held mid) later.0 parts left later.2.within) later.2,
  )

  new_comes : (old mid new : Body T) (more : List Outcome) (piece : List ℕ) → 0 < length piece → held old ≡ [] → held mid ≡ [] → old.left ≡ length piece + mid.left → reads old.stream (Gave piece) mid.stream → Comes mid more new → Comes old (Gave piece ∷ more) new
  new_comes old mid new more piece some none still left came later =
      let text : held old ++ (piece ++ bytes_of later.0) ≡ piece ++ (held mid ++ bytes_of later.0) = ap (λ l. l ++ (piece ++ bytes_of later.0)) none ∙ ap (λ l. piece ++ (l ++ bytes_of later.0)) (sym still) in
      let size : old.left ≡ length (bytes_of (Gave piece ∷ [])) + mid.left = left ∙ ap (λ l. length l + mid.left) (sym (append-nil piece)) in (
        Gave piece ∷ later.0,
        (mid.stream, came, later.1),
        with_piece old.left mid.left piece (held old) (held mid) (Gave piece ∷ later.0) later.0 more some left text
            (or_later (is_short (Gave piece)) (list_any is_short later.0))
            (read_within old.left mid.left (held old) (held mid) (Gave piece) later.0 none (omega (arith, left, some)) size later.2.within) later.2,
      )

  short_comes : (old mid new : Body T) (more : List Outcome) (read : Outcome) → bytes_of (read ∷ []) ≡ [] → is_short read ≡ true → held old ≡ [] → held mid ≡ [] → 0 < old.left → old.left ≡ mid.left → reads old.stream read mid.stream → Comes mid more new → Comes old (Failed ∷ more) new
  short_comes old mid new more read no_byte short none still some left came later =
      let text : take mid.left (held mid ++ bytes_of later.0) ≡ take old.left (held old ++ bytes_of (read ∷ later.0)) =
      ap (λ n. take n (held mid ++ bytes_of later.0)) (sym left) ∙ ap (λ l. take old.left (l ++ bytes_of later.0)) (still ∙ sym none) ∙ ap (λ l. take old.left (held old ++ l)) (nothing_read read later.0 no_byte) in
      let long : length (held mid ++ bytes_of later.0) ≡ length (held old ++ bytes_of (read ∷ later.0)) =
      ap (λ l. length (l ++ bytes_of later.0)) (still ∙ sym none) ∙ ap (λ l. length (held old ++ l)) (nothing_read read later.0 no_byte) in
      let size : old.left ≡ length (bytes_of (read ∷ [])) + mid.left = let none = ap length no_byte in omega (arith, left, none) in (
        read ∷ later.0,
        (mid.stream, came, later.1),
        record {
          front = subst (λ l. IsFront (bytes_of more) l) text later.2.front;
          whole = λ h. let whole = later.2.whole h in (whole.0 ∙ text, let all = whole.1 in omega (arith, left, long, all));
          short = λ _. ap (λ b. b || list_any is_short later.0) short;
          within = read_within old.left mid.left (held old) (held mid) read later.0 none some size later.2.within;
        },
      )

  -- what the reads of a body came to, told of the reads of its stream
  pub came_of : (old : Body T) (outcomes : List Outcome) (new : Body T) → Reads (BodyRead reads) old outcomes new → Comes old outcomes new
  came_of old [] new e = none_comes old new e
  came_of old (one ∷ more) new led = go (came_of led.0 more new led.2) led.1
    where
      go : Comes led.0 more new → BodyRead reads old one led.0 → Comes old (one ∷ more) new
      go later (inl over) = subst (λ o. Comes old (o ∷ more) new) (sym over.outcome_is) (over_comes old new more over.over (subst (λ b. Comes b more new) over.same later))
      go later (inr (inl kept)) = subst (λ o. Comes old (o ∷ more) new) (sym kept.outcome_is) (held_comes old led.0 new more kept.piece kept.some kept.held_is kept.left_is kept.stream later)
      go later (inr (inr (inl fresh))) = subst (λ o. Comes old (o ∷ more) new) (sym fresh.outcome_is) (new_comes old led.0 new more fresh.piece fresh.some fresh.none_held fresh.none_held_still fresh.left_is fresh.came later)
      go later (inr (inr (inr missing))) = subst (λ o. Comes old (o ∷ more) new) (sym missing.outcome_is) (of_missing missing.came)
        where
          of_missing : (reads old.stream (Gave []) led.0.stream ⊎ reads old.stream Failed led.0.stream) → Comes old (Failed ∷ more) new
          of_missing (inl ended) = short_comes old led.0 new more (Gave []) refl refl missing.none_held missing.none_held_still missing.some_left missing.left_is ended later
          of_missing (inr failed) = short_comes old led.0 new more Failed refl refl missing.none_held missing.none_held_still missing.some_left missing.left_is failed later
