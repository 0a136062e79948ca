-- What is replied to a request, and how it is sent.
use Rattle.std.specs.Prelude.{◌≡◌, ◌⊎◌, ℕ, true, false, IsTrue, List, [], Result, Ok, Err}
use Rattle.report_texts.specs.Csv.{EventSpot, csv_text}
use Rattle.histories.specs.declared.answers.Answer.{Answer}
use Rattle.histories.specs.declared.answers.Answer.TheVariants as answers
use Rattle.histories.specs.declared.answers.Refusal.{Refusal}
use Rattle.histories.specs.declared.answers.Refusal.TheVariants as reasons
use Rattle.warehouse.specs.Answers.{line_text, takes_memory}
use Rattle.http_exchange.specs.Failings as checks
use Rattle.http_exchange.specs.Responses.{response_text}
use Rattle.http_exchange.specs.declared.failings.Failing.{Failing}
use Rattle.http_exchange.specs.declared.failings.Failing.TheVariants.{NoMemory}
use Rattle.warehouse.specs.Answered.{IsGivenFor}
use Rattle.http_exchange.specs.Streams.{HaveTaken, IsFront, Written, WentAs, bytes_written}
use Rattle.prof_http.specs.declared.replies.Exchange.{Exchange}
use Rattle.prof_http.specs.declared.replies.Exchange.TheVariants as exchanges
use Rattle.prof_http.specs.declared.replies.Reply.{Reply}
use Rattle.prof_http.specs.declared.replies.Reply.TheVariants as replies

-- the status of a refusal
abbrev pub refused_status : Refusal → ℕ
refused_status reasons.Memory = 507
refused_status reasons.Store = 500
refused_status reasons.ReadFault = 400
refused_status reasons.TooLong = 413
refused_status (reasons.File fault line) = 422
refused_status (reasons.Overflow excess) = 422
refused_status reasons.Full = 409
refused_status reasons.NumbersSpent = 409
refused_status reasons.NoSuchRun = 404
refused_status reasons.NoSuchGroup = 404
refused_status reasons.GroupTaken = 409
refused_status reasons.BadName = 400
refused_status reasons.NoSuchEvent = 404
refused_status reasons.NoSuchName = 404
refused_status reasons.NoBaseline = 404

-- the status of an answer
abbrev pub status_of : Answer → ℕ
status_of (answers.Run n) = 201
status_of (answers.Held n) = 200
status_of answers.Done = 200
status_of (answers.Text text) = 200
status_of (answers.Refused refusal) = refused_status refusal

-- what a reply says: that a check failed, or an answer; of sums their text, or that there is no memory for it
abbrev pub Says : Reply → Result Answer Failing → Type 0
Says (replies.Failed failing) said = said ≡ Err failing
Says (replies.Answered answer) said = said ≡ Ok answer
Says (replies.Summed sums) said = (answer : Answer) × IsGivenFor answer (Ok sums) × (said ≡ Ok answer)

-- ---- what is sent

-- all of a text was written, under this status; or only its front, since a write failed
abbrev pub IsSentAs : ℕ → List ℕ → Exchange → List Written → Type 0
IsSentAs status text (exchanges.Sent code) writes = (code ≡ status) × WentAs true text writes
IsSentAs status text (exchanges.WriteFault code) writes = (code ≡ status) × WentAs false text writes
IsSentAs status text exchanges.ReadFault writes = ⊥

-- the response of a check that failed
abbrev pub IsFailingSent : Failing → Exchange → List Written → Type 0
IsFailingSent failing exchange writes = IsSentAs (checks.status_of failing) (checks.failing_text failing) exchange writes

-- the response of an answer
abbrev pub IsAnswerSent : Answer → Exchange → List Written → Type 0
IsAnswerSent answer exchange writes = IsSentAs (status_of answer) (response_text (status_of answer) [] (line_text answer)) exchange writes

-- memory ran out within a text of CSV, which is written as it is made: its front was written, and no write failed
pub record IsCutShort (answer : Answer) (exchange : Exchange) (writes : List Written) : Type 0 where
  pub sums : List (EventSpot × ℕ)
  pub answer_is : answer ≡ answers.Text (csv_text sums)
  pub exchange_is : exchange ≡ exchanges.WriteFault 200
  pub front : IsFront (bytes_written writes) (response_text 200 [] (csv_text sums))
  pub taken : HaveTaken writes

-- the response of what a reply says was sent; where there is no memory for the line of an answer, that is said in its place
abbrev pub IsReplySent : Result Answer Failing → Exchange → List Written → Type 0
IsReplySent (Err failing) exchange writes = IsFailingSent failing exchange writes
IsReplySent (Ok answer) exchange writes =
    IsAnswerSent answer exchange writes ⊎ ((IsTrue (takes_memory answer) × IsFailingSent NoMemory exchange writes) ⊎ IsCutShort answer exchange writes)
