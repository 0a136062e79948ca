-- From a head that was found to one that the bytes begin with.
use Rattle.std.proofs.Common.{ℕ, ◌≤◌, List, length, drop, arith}
use Rattle.httparse.specs.Grammar.{RequestHead}
use Rattle.httparse.specs.Spans.{IsRequestWithin}
use Rattle.httparse.specs.declared.spans.HeaderSpan.{HeaderSpan}
use Rattle.httparse.specs.declared.spans.RequestSpans.{RequestSpans}
use Rattle.http_exchange.specs.Heads.{BeginsWith, IsHeadAt, head_limit}

pub begins_at : (bytes : List ℕ) (fields : List HeaderSpan) (spans : RequestSpans) (head : RequestHead) → length bytes ≤ head_limit → IsRequestWithin bytes fields spans → IsHeadAt bytes fields spans head
    → BeginsWith bytes head (drop spans.len bytes)
begins_at bytes fields spans head short within is =
    let fits = within.section.len_fits in
    let long = is.at.len in
    record { reads = is.at.reads; fields = is.few; short = omega (arith, short, fits, long) }
