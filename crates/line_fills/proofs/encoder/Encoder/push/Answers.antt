use Rattle.std.proofs.Common.{T, refl, sym, subst, rules}
use Rattle.std.specs.Float.{binary64, NotNan}
use Rattle.std.specs.Float.Ieee
use Rattle.sqlite_record.specs.Record.{IsBodyOf}
use Rattle.sqlite_record.proofs.SerialLemmas.{blob_body, null_body, real_body, text_body}
use Rattle.sqlite_value.specs.declared.value.Value.TheVariants.{Null, Real, Text, Blob}
use Rattle.line_fills.proofs.encoder.Encoder.push.Goals as goal

pub returns-in_ok-push_as-in-Null-clause-taken : goal.returns-in_ok-push_as-in-Null-clause-taken
returns-in_ok-push_as-in-Null-clause-taken c = rw c.in-Null.is (c.in_ok-push_as-in-Null.ensures Null refl null_body)

pub returns-in_ok-push_as-in-Text-clause-taken : goal.returns-in_ok-push_as-in-Text-clause-taken
returns-in_ok-push_as-in-Text-clause-taken c = rw c.in-Text.is (c.in_ok-push_as-in-Text.ensures (Text c.in-Text.text.now) refl (text_body c.in-Text.text.now))

pub returns-in_ok-push_as-in-Blob-clause-taken : goal.returns-in_ok-push_as-in-Blob-clause-taken
returns-in_ok-push_as-in-Blob-clause-taken c = rw c.in-Blob.is (c.in_ok-push_as-in-Blob.ensures (Blob c.in-Blob.blob.now) refl (blob_body c.in-Blob.blob.now))

pub returns-in_ok-push_as-in-Real-clause-taken : goal.returns-in_ok-push_as-in-Real-clause-taken
returns-in_ok-push_as-in-Real-clause-taken c =
    let x = c.in-Real.x in
    let fits : T (Ieee.fits binary64 x) = search rules in
    let number : NotNan x = c.if-not-is_nan.ensures.not_nan in
    rw c.in-Real.is (c.in_ok-push_as-in-Real.ensures (Real x) refl (subst (λ l. IsBodyOf l (Real x)) (sym c.to_be_bytes.ensures) (real_body x fits number)))
