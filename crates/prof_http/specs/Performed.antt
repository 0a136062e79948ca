-- A command is done over a body that is handed on to it.
use Rattle.std.specs.Prelude.{◌≡◌, List, Result, Ok}
use Rattle.run_stores.specs.declared.states.StoreState.{Ghosts}
use Rattle.run_stores.specs.Calls.{IsFaithful}
use Rattle.byte_io.specs.Outcomes.{Outcome}
use Rattle.byte_io.specs.Reads.{Reads}
use Rattle.histories.specs.History.{Command}
use Rattle.histories.specs.declared.answers.Answer.{Answer}
use Rattle.histories.specs.declared.limits.Limits.{Limits}
use Rattle.histories.specs.Answered.{Answers}
use Rattle.http_exchange.specs.Bodies.{IsBodyOf}
use Rattle.http_exchange.specs.declared.bodies.Body.{Body}
use Rattle.http_exchange.specs.declared.failings.Failing.{Failing}
use Rattle.prof_http.specs.Replies.{Says}
use Rattle.prof_http.specs.declared.replies.Reply.{Reply}

-- the reads of a body came to these outcomes, and left the stream so
pub record HandsOn {T : Type 0} (reads : T → Outcome → T → Type 0) (body : Body T) (outcomes : List Outcome) (to : T) : Type 0 where
  pub stream_reads : List Outcome
  pub came : Reads reads body.stream stream_reads to
  pub made : IsBodyOf body.left body.held.now stream_reads outcomes

-- a command was done over a body, and replied to: what the reply says is its answer; where the disk returned what was written, that is one of the history
pub record IsFulfilled {S T : Type 0} (g : Ghosts S) (reads : T → Outcome → T → Type 0) (limits : Limits) (command : List Outcome → Command) (body : Body T) (reply : Reply) (to : T) (old new : S) : Type 0 where
  pub outcomes : List Outcome
  pub handed : HandsOn reads body outcomes to
  pub answers : (said : Result Answer Failing) → Says reply said → (answer : Answer) × (said ≡ Ok answer) × (IsFaithful g new → Answers g limits (command outcomes) answer old new)
