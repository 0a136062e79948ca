-- A text that is sent as it is made, behind a head.
use Rattle.std.proofs.Common.{◌≡◌, ◌⊎◌, ◌∙◌, inl, inr, ℕ, true, false, Bool, List, [], ◌++◌, refl, sym, ap, subst, append_assoc, append-nil}
use Rattle.byte_io.specs.Sinks.{HasGone, HasGoneInPart, HasStopped}
use Rattle.byte_io.proofs.SinkLemmas.{gone_as}
use Rattle.http_exchange.specs.Streams.{HaveTaken, IsFront, Written, Writes, WentAs, bytes_written}
use Rattle.http_exchange.proofs.Steps.{cut_first, went_join, wrote_join}
use Rattle.prof_http.specs.Replies.{IsSentAs}
use Rattle.prof_http.specs.declared.replies.Exchange.{Exchange}
use Rattle.prof_http.specs.declared.replies.Exchange.TheVariants as exchanges
use Rattle.prof_http.specs.declared.sending.Sending.{Sending}

module _ {T : Type 0} (writes : T → Written → T → Type 0) where
  -- these bytes went, or a front of them up to a write that stopped
  abbrev pub Went : Bool → T → List ℕ → T → Type 0
  Went whole from text to = (written : List Written) × Writes writes from written to × WentAs whole text written

  -- a front of them went, and no write stopped
  abbrev pub WentShort : T → List ℕ → T → Type 0
  WentShort from text to = (written : List Written) × Writes writes from written to × IsFront (bytes_written written) text × HaveTaken written

  abbrev pub Takes : Sending T → List ℕ → Sending T → Type 0
  Takes old piece new = Went true old.stream (old.head.now ++ piece) new.stream × (new.head.now ≡ [])

  abbrev pub Stops : Sending T → List ℕ → Sending T → Type 0
  Stops old piece new = Went false old.stream (old.head.now ++ piece) new.stream

  pub join : (whole : Bool) (from between to : T) (first second : List ℕ) → Went true from first between → Went whole between second to → Went whole from (first ++ second) to
  join whole from between to first second one two = (one.0 ++ two.0, wrote_join writes from between to one.0 two.0 one.1 two.1, went_join whole first second one.0 two.0 one.2 two.2)

  pub went_first : (from to : T) (first second all : List ℕ) → first ++ second ≡ all → Went false from first to → Went false from all to
  went_first from to first second all whole cut = (cut.0, cut.1, subst (λ l. WentAs false l cut.0) whole (cut_first first second cut.0 cut.2))

  -- bytes went, and with the head that has not they are the head and the text
  abbrev pub Sent : Sending T → List ℕ → Sending T → Type 0
  Sent from text to = (bytes : List ℕ) × Went true from.stream bytes to.stream × (bytes ++ to.head.now ≡ from.head.now ++ text)

  sent_none : (sending : Sending T) → Sent sending [] sending
  sent_none sending = ([], ([], refl, (refl, refl)), sym (append-nil sending.head.now))

  sent_more : (from between to : Sending T) (piece text : List ℕ) → Takes from piece between → Sent between text to → Sent from (piece ++ text) to
  sent_more from between to piece text one more =
      let bytes = (from.head.now ++ piece) ++ more.0 in
      let later : more.0 ++ to.head.now ≡ text = more.2 ∙ ap (λ l. l ++ text) one.1 in (
        bytes,
        join true from.stream between.stream to.stream (from.head.now ++ piece) more.0 one.0 more.1,
        append_assoc (from.head.now ++ piece) more.0 to.head.now ∙ ap (λ l. (from.head.now ++ piece) ++ l) later ∙ append_assoc from.head.now piece text,
      )

  pub sent_all : (from : Sending T) (text : List ℕ) (to : Sending T) → HasGone Takes from text to → Sent from text to
  sent_all = gone_as Takes Sent sent_none sent_more

  -- the front of a text went before the sink stopped, or memory ran out
  short_of : (from : Sending T) (before rest : List ℕ) (between to : Sending T) → Sent from before between → to ≡ between → WentShort from.stream (from.head.now ++ (before ++ rest)) to.stream
  short_of from before rest between to sent same =
      let written = sent.1.0 in
      let whole = sym (append_assoc from.head.now before rest) ∙ ap (λ l. l ++ rest) (sym sent.2) ∙ append_assoc sent.0 between.head.now rest in (
        written,
        subst (λ (s : Sending T). Writes writes from.stream written s.stream) (sym same) sent.1.1,
        (between.head.now ++ rest, whole ∙ ap (λ l. l ++ (between.head.now ++ rest)) (sym sent.1.2.0)),
        sent.1.2.1,
      )

  stopped_at : (from : Sending T) (before piece rest : List ℕ) (between to : Sending T) → Sent from before between → Stops between piece to → Went false from.stream (from.head.now ++ (before ++ (piece ++ rest))) to.stream
  stopped_at from before piece rest between to sent stopped =
      let front = sent.0 ++ (between.head.now ++ piece) in
      let whole : front ++ rest ≡ from.head.now ++ (before ++ (piece ++ rest)) =
      ap (λ l. l ++ rest) (sym (append_assoc sent.0 between.head.now piece) ∙ ap (λ l. l ++ piece) sent.2)
      ∙ append_assoc (from.head.now ++ before) piece rest ∙ append_assoc from.head.now before (piece ++ rest) in
      went_first from.stream to.stream front rest (from.head.now ++ (before ++ (piece ++ rest))) whole (join false from.stream between.stream to.stream sent.0 (between.head.now ++ piece) sent.1 stopped)

  pub sent_stopped : (from : Sending T) (text : List ℕ) (to : Sending T) → HasStopped Takes Stops from text to → Went false from.stream (from.head.now ++ text) to.stream
  sent_stopped from text to it =
      subst (λ l. Went false from.stream (from.head.now ++ l) to.stream) it.whole (stopped_at from it.before it.piece it.rest it.between to (sent_all from it.before it.between it.gone) it.last)

  pub sent_part : (from : Sending T) (text : List ℕ) (to : Sending T) → HasGoneInPart Takes Stops from text to → Went false from.stream (from.head.now ++ text) to.stream ⊎ WentShort from.stream (from.head.now ++ text) to.stream
  sent_part from text to it =
      let before = sent_all from it.before it.between it.gone in
      elim it.last [
        | inl same ↦ inr (subst (λ l. WentShort from.stream (from.head.now ++ l) to.stream) it.whole (short_of from it.before (it.piece ++ it.rest) it.between to before same))
        | inr stopped ↦ inl (subst (λ l. Went false from.stream (from.head.now ++ l) to.stream) it.whole (stopped_at from it.before it.piece it.rest it.between to before stopped))
      ]

  -- the head that has not gone goes behind it, where there is one
  pub sent_as : (from : Sending T) (text : List ℕ) (between : Sending T) (to : T) (exchange : Exchange) → Sent from text between
      → (written : List Written) × Writes writes between.stream written to × IsSentAs 200 between.head.now exchange written
      → (written : List Written) × Writes writes from.stream written to × IsSentAs 200 (from.head.now ++ text) exchange written
  sent_as from text between to (exchanges.Sent code) sent last =
      let all = join true from.stream between.stream to sent.0 between.head.now sent.1 (last.0, last.1, last.2.1) in
      (all.0, all.1, (last.2.0, subst (λ l. WentAs true l all.0) sent.2 all.2))
  sent_as from text between to (exchanges.WriteFault code) sent last =
      let all = join false from.stream between.stream to sent.0 between.head.now sent.1 (last.0, last.1, last.2.1) in
      (all.0, all.1, (last.2.0, subst (λ l. WentAs false l all.0) sent.2 all.2))
  sent_as from text between to exchanges.ReadFault sent last = absurd last.2
