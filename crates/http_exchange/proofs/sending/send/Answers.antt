use Rattle.std.proofs.Common.{◌++◌, ◌≡◌, ◌-◌, ℕ, List, take, drop, length, ap, ◌∙◌, append_assoc, subst}
use Rattle.std.proofs.lemmas.List.{take-append-drop, take_rest}
use Rattle.http_exchange.specs.Responses.{head_text}
use Rattle.http_exchange.specs.Streams.{WentAs}
use Rattle.http_exchange.proofs.sending.send.Goals as goal

whole : (front head body : List ℕ) (count : ℕ) → front ≡ head ++ take count body → front ++ take (length body - count) (drop count body) ≡ head ++ body
whole front head body count e =
    ap (λ l. l ++ take (length body - count) (drop count body)) e ∙ ap (λ l. (head ++ take count body) ++ l) (take_rest body count)
    ∙ append_assoc head (take count body) (drop count body) ∙ ap (λ l. head ++ l) (take-append-drop count body)

pub returns : goal.returns
returns g c =
    let sent = c.write_two.ensures in
    let count = c.put_body-end.result - c.put_head-at.result in
    let head = ap (λ l. l ++ take count c.args.body.now) c.put_head-at.ensures.text in
    let text = whole _ (head_text c.args.status c.args.allow.now (length c.args.body.now)) c.args.body.now count (c.put_body-end.ensures.text ∙ head) in
    (sent.0, sent.1, subst (λ l. WentAs c.write_two.result l sent.0) text sent.2)
