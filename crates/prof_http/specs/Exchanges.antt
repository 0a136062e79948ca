-- One exchange over a stream: a request is read, its command is done, and the response is sent.
use Rattle.std.specs.Prelude.{◌≡◌, ◌⊎◌, ℕ, List, [], Result, Ok, Err}
use Rattle.run_stores.specs.declared.states.StoreState.{Ghosts}
use Rattle.run_stores.specs.Calls.{IsFaithful}
use Rattle.byte_io.specs.Outcomes.{Outcome, bytes_of}
use Rattle.byte_io.specs.Reads.{Reads}
use Rattle.histories.specs.declared.answers.Answer.{Answer}
use Rattle.histories.specs.declared.limits.Limits.{Limits}
use Rattle.histories.specs.Answered.{Answers}
use Rattle.httparse.specs.Grammar.{RequestHead}
use Rattle.http_exchange.specs.Heads.{BeginsWith}
use Rattle.http_exchange.specs.Requests.{request_of}
use Rattle.http_exchange.specs.declared.failings.Failing.{Failing}
use Rattle.http_exchange.specs.declared.failings.Failing.TheVariants.{BadRequest, NoMemory}
use Rattle.http_exchange.specs.declared.checks.Request.{Request}
use Rattle.http_exchange.specs.Streams.{Written, Writes}
use Rattle.http_exchange.specs.Received.{IsBadHead, IsCutOff, WereAwaited}
use Rattle.http_exchange.specs.Bodies.{IsBodyOf}
use Rattle.prof_http.specs.Replies.{IsFailingSent, IsReplySent}
use Rattle.histories.specs.Requests.{command_read}
use Rattle.prof_http.specs.declared.replies.Exchange.{Exchange}
use Rattle.prof_http.specs.declared.replies.Exchange.TheVariants as exchanges

module _ {S : Type 0} (g : Ghosts S) (limits : Limits) where
  -- a command was asked for, and answered; its body is made of the bytes behind the head and of these reads; where the disk returned what was written, the answer is one of the history
  pub record IsDone (wanted : Result Request Failing) (after : List ℕ) (reads : List Outcome) (answer : Answer) (old new : S) : Type 0 where
    pub request : Request
    pub is_wanted : wanted ≡ Ok request
    pub outcomes : List Outcome
    pub body : IsBodyOf request.length after reads outcomes
    pub answers : IsFaithful g new → Answers g limits (command_read request.asked outcomes) answer old new

  -- no command was run: a check failed, or there was no memory for the request; nothing more was read
  pub record IsTurnedAway (wanted : Result Request Failing) (reads : List Outcome) (failing : Failing) (old new : S) : Type 0 where
    pub why : (failing ≡ NoMemory) ⊎ (wanted ≡ Err failing)
    pub unread : reads ≡ []
    pub same : new ≡ old

  -- a request was replied to, by an answer or by a check that it fails
  abbrev pub IsReplied : Result Request Failing → List ℕ → List Outcome → Result Answer Failing → S → S → Type 0
  IsReplied wanted after reads (Ok answer) old new = IsDone wanted after reads answer old new
  IsReplied wanted after reads (Err failing) old new = IsTurnedAway wanted reads failing old new

  module _ {T : Type 0} (reads : T → Outcome → T → Type 0) (writes : T → Written → T → Type 0) (hears : T → T → Type 0) where
    -- a request was replied to, over the body that came; and the response was sent
    pub record IsResponded (wanted : Result Request Failing) (after : List ℕ) (exchange : Exchange) (from to : T) (old new : S) : Type 0 where
      pub body_reads : List Outcome
      pub bodied : T
      pub body_came : Reads reads from body_reads bodied
      pub reply : Result Answer Failing
      pub replied : IsReplied wanted after body_reads reply old new
      pub written : List Written
      pub went : Writes writes bodied written to
      pub sent : IsReplySent reply exchange written

    -- a head came, and nothing was read once it was there but the body; its request was responded to
    pub record IsServed (exchange : Exchange) (from to : T) (old new : S) : Type 0 where
      pub head_reads : List Outcome
      pub headed : T
      pub head_came : Reads reads from head_reads headed
      pub awaited : WereAwaited head_reads
      pub head : RequestHead
      pub after : List ℕ
      pub begins : BeginsWith (bytes_of head_reads) head after
      pub told : T
      pub heard : hears headed told
      pub responded : IsResponded (request_of limits.bytes head) after exchange told to old new

    -- what came is no head, which is said
    pub record IsRejected (exchange : Exchange) (from to : T) (old new : S) : Type 0 where
      pub head_reads : List Outcome
      pub headed : T
      pub head_came : Reads reads from head_reads headed
      pub bad : IsBadHead head_reads
      pub same : new ≡ old
      pub written : List Written
      pub went : Writes writes headed written to
      pub sent : IsFailingSent BadRequest exchange written

    -- a read failed before a head was there: nothing was written
    pub record IsDropped (exchange : Exchange) (from to : T) (old new : S) : Type 0 where
      pub head_reads : List Outcome
      pub head_came : Reads reads from head_reads to
      pub cut : IsCutOff head_reads
      pub same : new ≡ old
      pub exchange_is : exchange ≡ exchanges.ReadFault

    abbrev pub WasExchanged : Exchange → T → T → S → S → Type 0
    WasExchanged exchange from to old new =
        IsServed exchange from to old new ⊎ (IsRejected exchange from to old new ⊎ IsDropped exchange from to old new)
