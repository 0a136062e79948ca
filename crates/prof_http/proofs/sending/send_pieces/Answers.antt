use Rattle.std.proofs.Common.{false, ◌++◌, sym, subst}
use Rattle.http_exchange.specs.Streams.{WentAs, Writes}
use Rattle.prof_http.specs.Replies.{IsSentAs}
use Rattle.prof_http.specs.declared.sending.Sending.{Sending}
use Rattle.prof_http.proofs.SendingLemmas.{sent_all, sent_as, sent_stopped}
use Rattle.prof_http.proofs.sending.send_pieces.Goals as goal

pub returns-in-Ok : goal.returns-in-Ok
returns-in-Ok g c =
    let text = c.args.text.now in
    let from : Sending g.row.T.Denot = record { stream = c.args.stream; head = c.args.head } in
    let between = c.write.new.out in
    let exchange = c.send_end-exchange.result in
    let sent = sent_all g.T.Stream.writes from text between c.in-Ok.ensures.whole in
    let all = sent_as g.T.Stream.writes from text between c.send_end-exchange.new.stream exchange sent c.send_end-exchange.ensures in
    (all.0, all.1, subst (λ l. IsSentAs 200 (l ++ text) exchange all.0) c.requires all.2)

pub returns-in-Err : goal.returns-in-Err
returns-in-Err g c =
    let text = c.args.text.now in
    let from : Sending g.row.T.Denot = record { stream = c.args.stream; head = c.args.head } in
    let cut = sent_stopped g.T.Stream.writes from text c.write.new.out c.in-Err.ensures.part in
    (cut.0, subst (λ (t : g.row.T.Denot). Writes g.T.Stream.writes c.args.stream cut.0 t) (sym c.into_stream.ensures) cut.1, (c.as_u16-code.ensures.value, subst (λ l. WentAs false (l ++ text) cut.0) c.requires cut.2))
