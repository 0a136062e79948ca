use Rattle.std.proofs.Common.{◌≤◌, length, take, drop, inl, sym, subst, arith}
use Rattle.std.proofs.lemmas.List.{length-take}
use Rattle.http_exchange.specs.Heads.{BeginsWith, IsHeadFound, head_limit}
use Rattle.http_exchange.specs.declared.heads.Head.TheVariants.{Complete}
use Rattle.prof_http.proofs.Heads.{begins_at}
use Rattle.prof_http.proofs.exchange.answer.Goals as goal

pub returns-in-Ok-clause-exchanged : goal.returns-in-Ok-clause-exchanged
returns-in-Ok-clause-exchanged g c =
    let came = c.in-Ok.ensures in
    let got = came.2 in
    let spans = c.in-Ok.spans in
    let filled = c.in-Ok.filled in
    let front = take filled c.read_head.new.buffer in
    let fields = c.read_head.new.fields in
    let found = subst (λ b. IsHeadFound b fields (Complete spans)) got.held got.found in
    let head = found.1 in
    let long = length-take filled c.read_head.new.buffer in
    let short : length front ≤ head_limit = omega (arith, long, got.within) in
    let body = c.reply_to-reply.ensures.replied head found.2 in
    let sent = c.send_reply.ensures in
    inl (record {
      head_reads = came.0;
      headed = c.read_head.new.stream;
      head_came = came.1;
      awaited = got.awaited;
      head = head;
      after = drop spans.len front;
      begins = subst (λ b. BeginsWith b head (drop spans.len front)) (sym got.held) (begins_at front fields spans head short found.0 found.2);
      told = c.head_came.new.self;
      heard = c.head_came.ensures;
      responded = record {
        body_reads = body.0;
        bodied = c.reply_to-reply.result.1;
        body_came = body.1;
        reply = sent.0;
        replied = body.2 sent.0 sent.1;
        written = sent.2;
        went = sent.3;
        sent = sent.4;
      };
    })
