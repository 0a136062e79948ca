-- The body of a request: the bytes behind its head, as many as its length says.
use Rattle.std.specs.Prelude.{◌≡◌, ◌⊎◌, ℕ, ◌+◌, ◌<◌, ◌≤◌, IsTrue, List, [], ◌++◌, length, take}
use Rattle.std.specs.List.{list_any}
use Rattle.byte_io.specs.Outcomes.{Outcome, Gave, Failed, bytes_of, is_failed, is_end}
use Rattle.http_exchange.specs.Streams.{IsFront}
use Rattle.http_exchange.specs.Received.{is_short}
use Rattle.http_exchange.specs.declared.bodies.Body.{Body}

-- what is left of the bytes that came with the head
abbrev pub held : {T : Type 0} → Body T → List ℕ
held body = body.held.now

module _ {T : Type 0} (reads : T → Outcome → T → Type 0) where
  -- the whole body was read
  pub record IsOver (old : Body T) (outcome : Outcome) (new : Body T) : Type 0 where
    pub over : old.left ≡ 0
    pub outcome_is : outcome ≡ Gave []
    pub same : new ≡ old

  -- bytes that came with the head
  pub record IsHeld (old : Body T) (outcome : Outcome) (new : Body T) : Type 0 where
    pub piece : List ℕ
    pub some : 0 < length piece
    pub outcome_is : outcome ≡ Gave piece
    pub held_is : held old ≡ piece ++ held new
    pub left_is : old.left ≡ length piece + new.left
    pub stream : new.stream ≡ old.stream

  -- bytes of the stream
  pub record IsNew (old : Body T) (outcome : Outcome) (new : Body T) : Type 0 where
    pub piece : List ℕ
    pub some : 0 < length piece
    pub outcome_is : outcome ≡ Gave piece
    pub none_held : held old ≡ []
    pub none_held_still : held new ≡ []
    pub left_is : old.left ≡ length piece + new.left
    pub came : reads old.stream (Gave piece) new.stream

  -- the stream ended too soon, or failed
  pub record IsMissing (old : Body T) (outcome : Outcome) (new : Body T) : Type 0 where
    pub outcome_is : outcome ≡ Failed
    pub none_held : held old ≡ []
    pub none_held_still : held new ≡ []
    pub some_left : 0 < old.left
    pub left_is : old.left ≡ new.left
    pub came : reads old.stream (Gave []) new.stream ⊎ reads old.stream Failed new.stream

  -- what a read of a body may come to
  abbrev pub BodyRead : Body T → Outcome → Body T → Type 0
  BodyRead old outcome new = IsOver old outcome new ⊎ IsHeld old outcome new ⊎ IsNew old outcome new ⊎ IsMissing old outcome new

-- what the reads of a body of n bytes came to, where these bytes came with the head, behind it, and the reads of the
-- stream since came to these: a front of the body; all of it where they found its end; a failure only where the stream
-- gave no byte; and the stream was not asked for a byte behind the body
pub record IsBodyOf (n : ℕ) (after : List ℕ) (reads outcomes : List Outcome) : Type 0 where
  pub front : IsFront (bytes_of outcomes) (take n (after ++ bytes_of reads))
  pub whole : IsTrue (list_any is_end outcomes) → (bytes_of outcomes ≡ take n (after ++ bytes_of reads)) × (n ≤ length (after ++ bytes_of reads))
  pub short : IsTrue (list_any is_failed outcomes) → IsTrue (list_any is_short reads)
  pub within : (reads ≡ []) ⊎ ((length after < n) × (length after + length (bytes_of reads) ≤ n))
