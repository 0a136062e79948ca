use Rattle.std.proofs.Common.{Ok, Err, refl, sym, subst}
use Rattle.prof_http.specs.Replies.{Says}
use Rattle.prof_http.specs.declared.replies.Reply.{Reply}
use Rattle.prof_http.proofs.replies.send_reply.Goals as goal

pub returns-in-Failed : goal.returns-in-Failed
returns-in-Failed g c = let it = c.send_failing-exchange.ensures in (Err c.in-Failed.failing, subst (λ (r : Reply). Says r (Err c.in-Failed.failing)) (sym c.in-Failed.is) refl, it.0, it.1, it.2)

pub returns-in-Answered : goal.returns-in-Answered
returns-in-Answered g c = let it = c.send_answer.ensures in (Ok c.in-Answered.answer, subst (λ (r : Reply). Says r (Ok c.in-Answered.answer)) (sym c.in-Answered.is) refl, it.0, it.1, it.2)

pub returns-in-Summed : goal.returns-in-Summed
returns-in-Summed g c = let it = c.send_sums.ensures in (Ok it.0, subst (λ (r : Reply). Says r (Ok it.0)) (sym c.in-Summed.is) (it.0, it.1, refl), it.2, it.3, it.4)
