-- The head of a request, as the reads of a connection brought it.
use Rattle.std.specs.Prelude.{◌≡◌, ◌⊎◌, ℕ, ◌<◌, ◌≤◌, Bool, true, false, List, [], ◌∷◌, ◌++◌, length, take}
use Rattle.std.specs.List.{list_any}
use Rattle.httparse.specs.Grammar.{MayBecomeRequest}
use Rattle.httparse.specs.Spans.{RequestOverflows}
use Rattle.httparse.specs.declared.spans.HeaderSpan.{HeaderSpan}
use Rattle.httparse.specs.declared.spans.RequestSpans.{RequestSpans}
use Rattle.byte_io.specs.Outcomes as outcome
use Rattle.byte_io.specs.Outcomes.{Outcome, Gave, bytes_of}
use Rattle.http_exchange.specs.Heads.{head_limit, field_limit, HasNoHead, IsHeadFound}
use Rattle.http_exchange.specs.declared.heads.Head.TheVariants.{Complete}
use Rattle.http_exchange.specs.declared.receiving.HeadEnd.{HeadEnd}
use Rattle.http_exchange.specs.declared.receiving.HeadEnd.TheVariants.{Bad, Failed}

-- a read that brought no byte: it failed, or found the end
abbrev pub is_short : Outcome → Bool
is_short (Gave []) = true
is_short (Gave (b ∷ bytes)) = false
is_short outcome.Failed = true

-- each of these reads gave bytes; together they are no head, and bytes can follow that make one
pub record IsAwaiting (reads : List Outcome) : Type 0 where
  pub gave : list_any is_short reads ≡ false
  pub none : HasNoHead (bytes_of reads)
  pub may : MayBecomeRequest (bytes_of reads)
  pub short : length (bytes_of reads) < head_limit

-- the last read came to this
abbrev pub EndWith : List Outcome → Outcome → Type 0
EndWith reads last = (before : List Outcome) × (reads ≡ before ++ last ∷ [])

-- each read but the first was made where the ones before it left a head to wait for
abbrev pub WereAwaited : List Outcome → Type 0
WereAwaited reads = (before : List Outcome) × (last : Outcome) × (reads ≡ before ++ last ∷ []) × IsAwaiting before

-- a head was found in what was read, which fills the front of the buffer
pub record IsReceived (reads : List Outcome) (buffer : List ℕ) (fields : List HeaderSpan) (spans : RequestSpans) (count : ℕ) : Type 0 where
  pub within : count ≤ head_limit
  pub held : bytes_of reads ≡ take count buffer
  pub buffer_kept : length buffer ≡ head_limit
  pub fields_kept : length fields ≡ field_limit
  pub found : IsHeadFound (bytes_of reads) fields (Complete spans)
  pub awaited : WereAwaited reads

-- what was read has no head within the limits, and none will come of it: no bytes can follow that make one, it is as
-- long as a head may be, or the last read found the end
pub record IsBadHead (reads : List Outcome) : Type 0 where
  pub none : HasNoHead (bytes_of reads)
  pub why : RequestOverflows field_limit (bytes_of reads) ⊎ (length (bytes_of reads) ≡ head_limit) ⊎ EndWith reads (Gave [])
  pub awaited : WereAwaited reads

-- what was read has no head, and the last read failed
pub record IsCutOff (reads : List Outcome) : Type 0 where
  pub none : HasNoHead (bytes_of reads)
  pub failed : EndWith reads outcome.Failed
  pub awaited : WereAwaited reads

-- why no head came
abbrev pub IsEndedBy : List Outcome → HeadEnd → Type 0
IsEndedBy reads Bad = IsBadHead reads
IsEndedBy reads Failed = IsCutOff reads
