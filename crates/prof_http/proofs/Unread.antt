-- A body that is not read.
use Rattle.std.proofs.Common.{◌≡◌, inl, [], refl, sym}
use Rattle.byte_io.specs.Outcomes.{Outcome}
use Rattle.http_exchange.specs.declared.bodies.Body.{Body}
use Rattle.prof_http.specs.Performed.{HandsOn}

pub unread : {T : Type 0} (reads : T → Outcome → T → Type 0) (body : Body T) (to : T) → to ≡ body.stream → HandsOn reads body [] to
unread reads body to same = record {
  stream_reads = [];
  came = sym same;
  made = record { front = (_, refl); whole = λ h. cc; short = λ h. cc; within = inl refl };
}
