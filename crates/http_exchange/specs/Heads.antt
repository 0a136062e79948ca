-- The head of a request, and what is known of it after the bytes that came so far.
use Rattle.std.specs.Prelude.{◌≡◌, ◌⊎◌, ℕ, ◌<◌, ◌≤◌, List, length}
use Rattle.httparse.specs.Grammar.{RequestHead, ReadsRequest, MayBecomeRequest, print_request}
use Rattle.httparse.specs.Spans.{RequestOverflows, IsRequestAt, IsRequestWithin}
use Rattle.httparse.specs.declared.spans.HeaderSpan.{HeaderSpan}
use Rattle.httparse.specs.declared.spans.RequestSpans.{RequestSpans}
use Rattle.http_exchange.specs.declared.heads.Head.{Head}
use Rattle.http_exchange.specs.declared.heads.Head.TheVariants.{Complete, Unfinished, Malformed}

abbrev pub head_limit : ℕ
head_limit = 16384

abbrev pub field_limit : ℕ
field_limit = 64

-- the bytes begin with this head, which is within the limits, and go on with the rest
pub record BeginsWith (bytes : List ℕ) (head : RequestHead) (rest : List ℕ) : Type 0 where
  pub reads : ReadsRequest bytes head rest
  pub fields : length head.fields ≤ field_limit
  pub short : length (print_request head) ≤ head_limit

-- no head within the limits stands at the front of the bytes
abbrev pub HasNoHead : List ℕ → Type 0
HasNoHead bytes = (head : RequestHead) (rest : List ℕ) → BeginsWith bytes head rest → ⊥

-- the spans are those of a head within the limits
pub record IsHeadAt (bytes : List ℕ) (fields : List HeaderSpan) (spans : RequestSpans) (head : RequestHead) : Type 0 where
  pub at : IsRequestAt bytes fields spans head
  pub few : length head.fields ≤ field_limit

-- what the bytes that came so far are: a head; none, but bytes can follow that make one; or none, and whatever follows
-- makes one of more fields, or of more bytes
abbrev pub IsHeadFound : List ℕ → List HeaderSpan → Head → Type 0
IsHeadFound bytes fields (Complete spans) = IsRequestWithin bytes fields spans × (head : RequestHead) × IsHeadAt bytes fields spans head
IsHeadFound bytes fields Unfinished = HasNoHead bytes × MayBecomeRequest bytes × (length bytes < head_limit)
IsHeadFound bytes fields Malformed = HasNoHead bytes × (RequestOverflows field_limit bytes ⊎ (length bytes ≡ head_limit))
