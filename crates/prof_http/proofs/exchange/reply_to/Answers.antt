use Rattle.std.proofs.Common.{◌≡◌, ◌⊎◌, ◌∙◌, ◌-◌, [], take, drop, length, length-drop, Result, Err, refl, sym, ap, subst}
use Rattle.std.proofs.Math.Seq.{take-length}
use Rattle.histories.specs.declared.answers.Answer.{Answer}
use Rattle.histories.specs.declared.limits.Limits.{Limits}
use Rattle.histories.specs.Requests.{command_read}
use Rattle.histories.specs.Answered.{Answers}
use Rattle.http_exchange.specs.Bodies.{IsBodyOf}
use Rattle.http_exchange.specs.Requests.{request_of}
use Rattle.http_exchange.specs.declared.failings.Failing.{Failing}
use Rattle.http_exchange.specs.declared.failings.Failing.TheVariants.{NoMemory}
use Rattle.prof_http.specs.Exchanges.{IsReplied}
use Rattle.prof_http.proofs.exchange.reply_to.Goals as goal

pub returns-in-Ok-clause-replied : goal.returns-in-Ok-clause-replied
returns-in-Ok-clause-replied g c head is =
    let old = c.args.warehouse.now in
    let new = c.fulfil-replied.new.warehouse.store in
    let done = c.fulfil-replied.ensures.done in
    let bytes = c.args.bytes.now in
    let len = c.args.spans.len in
    let after = drop len bytes in
    let wanted = request_of old.limits.bytes head in
    let whole : take (length bytes - len) after ≡ after = subst (λ n. take n after ≡ after) (length-drop len bytes) (take-length after) in (
      done.handed.stream_reads,
      done.handed.came,
      λ said says.
          let it = done.answers said says in
          subst (λ (r : Result Answer Failing). IsReplied g.S.StoreState old.limits wanted after done.handed.stream_reads r old.store new) (sym it.1) (record {
            request = c.in-Ok.request;
            is_wanted = ap (λ (l : Limits). request_of l.bytes head) (sym c.limits-limit.ensures) ∙ c.in-Ok.ensures head is;
            outcomes = done.outcomes;
            body = subst (λ held. IsBodyOf c.in-Ok.request.length held done.handed.stream_reads done.outcomes) whole done.handed.made;
            answers = λ clean. subst (λ asked. Answers g.S.StoreState old.limits (command_read asked done.outcomes) it.0 old.store new) c.lent.ensures (it.2 clean);
          }),
    )

pub returns-in-Err-clause-replied : goal.returns-in-Err-clause-replied
returns-in-Err-clause-replied g c head is =
    let old = c.args.warehouse.now in
    let failing = c.in-Err.failing in (
      [],
      refl,
      λ said says. subst (λ (r : Result Answer Failing). IsReplied g.S.StoreState old.limits (request_of old.limits.bytes head) (drop c.args.spans.len c.args.bytes.now) [] r old.store old.store) (sym says) (record {
        why = subst (λ (l : Limits). (failing ≡ NoMemory) ⊎ (request_of l.bytes head ≡ Err failing)) c.limits-limit.ensures (c.in-Err.ensures head is);
        unread = refl;
        same = refl;
      }),
    )
