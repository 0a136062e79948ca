use Rattle.std.proofs.Common.{◌∙◌, false, inl, inr, ◌++◌, sym, refl, ap, subst}
use Rattle.report_texts.specs.Csv.{csv_text}
use Rattle.http_exchange.specs.Streams.{IsFront, WentAs, Writes, bytes_written}
use Rattle.prof_http.specs.Replies.{IsSentAs}
use Rattle.prof_http.specs.declared.replies.Exchange.TheVariants.{WriteFault}
use Rattle.prof_http.specs.declared.sending.Sending.{Sending}
use Rattle.prof_http.proofs.SendingLemmas.{sent_all, sent_as, sent_part}
use Rattle.prof_http.proofs.sending.send_csv.Goals as goal

pub returns-in-Ok-clause-sent : goal.returns-in-Ok-clause-sent
returns-in-Ok-clause-sent g c =
    let text = csv_text c.args.sums.now in
    let from : Sending g.row.T.Denot = record { stream = c.args.stream; head = c.args.head } in
    let between = c.write_csv.new.out in
    let exchange = c.send_end-exchange.result in
    let sent = sent_all g.T.Stream.writes from text between c.in-Ok.ensures.whole in
    let all = sent_as g.T.Stream.writes from text between c.send_end-exchange.new.stream exchange sent c.send_end-exchange.ensures in
    (all.0, all.1, inl (subst (λ l. IsSentAs 200 (l ++ text) exchange all.0) c.requires all.2))

pub returns-in-Err-Memory-clause-none : goal.returns-in-Err-Memory-clause-none
returns-in-Err-Memory-clause-none g c is = c.into_stream.ensures ∙ ap (λ s. s.stream) (c.in-Err-Memory.ensures.none c.in-Err-Memory.field-0-is)

pub returns-in-Err-Failed-clause-sent : goal.returns-in-Err-Failed-clause-sent
returns-in-Err-Failed-clause-sent g c =
    let text = csv_text c.args.sums.now in
    let from : Sending g.row.T.Denot = record { stream = c.args.stream; head = c.args.head } in
    let to = sym c.into_stream-in-Err-Failed.ensures in
    elim (sent_part g.T.Stream.writes from text c.write_csv.new.out c.in-Err-Failed.ensures.part) [
      | inl cut ↦ (cut.0, subst (λ (t : g.row.T.Denot). Writes g.T.Stream.writes c.args.stream cut.0 t) to cut.1, inl (c.as_u16-code.ensures.value, subst (λ l. WentAs false (l ++ text) cut.0) c.requires cut.2))
      | inr short ↦ (
        short.0,
        subst (λ (t : g.row.T.Denot). Writes g.T.Stream.writes c.args.stream short.0 t) to short.1,
        inr (inr (record {
          sums = c.args.sums.now;
          answer_is = refl;
          exchange_is = ap WriteFault c.as_u16-code.ensures.value;
          front = subst (λ l. IsFront (bytes_written short.0) (l ++ text)) c.requires short.2;
          taken = short.3;
        })),
      )
    ]
