-- A text that is printed a piece at a time.
use Rattle.std.proofs.Common.{[], ◌∷◌, Result, Ok, Err, OnOk, OnErr, ◌≡◌, ◌∙◌, inl, inr, ℕ, List, ◌++◌, take, drop, length, Option, refl, sym, ap, subst, append_assoc, take-append-drop}
use Rattle.std.specs.Io.KnownBytes.{Appends}
use Rattle.std.proofs.KnownBytes.{Appends-nil, Appends-trans}
use Rattle.std.proofs.Math.Seq.{take-append_seam}
use Rattle.byte_io.specs.Sinks.{HasGone, HasGoneInPart, HasStopped}
use Rattle.byte_io.proofs.SinkLemmas.{gone_as, stopped_part}
use Rattle.histories.specs.declared.answers.Answer.TheVariants.{Text}
use Rattle.program_stores.specs.Sessions.{Prints}
use Rattle.program_stores.proofs.SessionLemmas.{part_printed, whole_printed}
use Rattle.program_stores.specs.declared.session.Session.{Session}

-- the known bytes grew by the first bytes of a text
abbrev pub AppendsPart : Option (List ℕ) → Option (List ℕ) → List ℕ → Type 0
AppendsPart from to text = (n : ℕ) × Appends from to (take n text)

front_of : (from to : Option (List ℕ)) (front more text : List ℕ) → front ++ more ≡ text → Appends from to front → AppendsPart from to text
front_of from to front more text whole is = (length front, subst (Appends from to) (sym (take-append_seam front more) ∙ ap (take (length front)) whole) is)

module _ {R W S N : Type 0} (contents : W → Option (List ℕ)) where
  abbrev pub Takes : Session R W S N → List ℕ → Session R W S N → Type 0
  Takes old piece new = Appends (contents old.out) (contents new.out) piece × (new.warehouse ≡ old.warehouse) × (new.status ≡ old.status)

  abbrev pub Stops : Session R W S N → List ℕ → Session R W S N → Type 0
  Stops old piece new = ((n : ℕ) × Appends (contents old.out) (contents new.out) (take n piece)) × (new.warehouse ≡ old.warehouse) × (new.status ≡ old.status)

  pub all_printed : (from : Session R W S N) (text : List ℕ) (to : Session R W S N) → HasGone Takes from text to → Takes from text to
  all_printed = gone_as Takes Takes (λ s. (Appends-nil (contents s.out), refl, refl))
      (λ a b c x y one more. (Appends-trans (contents a.out) (contents b.out) (contents c.out) x y one.0 more.0, more.1 ∙ one.1, more.2 ∙ one.2))

  -- the last piece was printed in part
  stopped_at : (from : Session R W S N) (before piece rest text : List ℕ) (between to : Session R W S N) → before ++ (piece ++ rest) ≡ text → Takes from before between → Stops between piece to → Stops from text to
  stopped_at from before piece rest text between to whole taken stopped =
      let n = stopped.0.0 in
      let front = take n piece in
      let all : (before ++ front) ++ (drop n piece ++ rest) ≡ text = append_assoc before front (drop n piece ++ rest)
      ∙ ap (λ l. before ++ l) (sym (append_assoc front (drop n piece) rest) ∙ ap (λ l. l ++ rest) (take-append-drop n piece)) ∙ whole in (
        front_of (contents from.out) (contents to.out) (before ++ front) (drop n piece ++ rest) text all (Appends-trans (contents from.out) (contents between.out) (contents to.out) before front taken.0 stopped.0.1),
        stopped.1 ∙ taken.1,
        stopped.2 ∙ taken.2,
      )

  -- there was no more
  ended_at : (from : Session R W S N) (before rest text : List ℕ) (between to : Session R W S N) → before ++ rest ≡ text → Takes from before between → to ≡ between → Stops from text to
  ended_at from before rest text between to whole taken same = (
    front_of (contents from.out) (contents to.out) before rest text whole (subst (λ (s : Session R W S N). Appends (contents from.out) (contents s.out) before) (sym same) taken.0),
    ap (λ (s : Session R W S N). s.warehouse) same ∙ taken.1,
    ap (λ (s : Session R W S N). s.status) same ∙ taken.2,
  )

  pub printed_in_part : (from : Session R W S N) (text : List ℕ) (to : Session R W S N) → HasGoneInPart Takes Stops from text to → Stops from text to
  printed_in_part from text to it =
      let before = all_printed from it.before it.between it.gone in
      elim it.last [
        | inl same ↦ ended_at from it.before (it.piece ++ it.rest) text it.between to it.whole before same
        | inr stopped ↦ stopped_at from it.before it.piece it.rest text it.between to it.whole before stopped
      ]

  -- a text was printed, or its first bytes
  pub written_as : {E : Type 0} (result : Result Unit E) (from : Session R W S N) (text : List ℕ) (to : Session R W S N)
      → OnOk result (HasGone Takes from text to) → OnErr result (HasStopped Takes Stops from text to)
      → (to.warehouse ≡ from.warehouse) × (to.status ≡ from.status) × Prints result (Text text ∷ []) (contents from.out) (contents to.out)
  written_as (Ok done) from text to whole part =
      let all = all_printed from text to whole in
      (all.1, all.2, whole_printed text (contents from.out) (contents to.out) all.0)
  written_as (Err e) from text to whole part =
      let all = printed_in_part from text to (stopped_part Takes Stops from text to part) in
      (all.1, all.2, part_printed text (contents from.out) (contents to.out) all.0)
