use Rattle.std.proofs.Common.{◌≡◌, [], ◌∷◌, ◌++◌, ◌+◌, ◌<◌, ◌≤◌, length, arith, refl, inr, sym, ap, subst, ◌∙◌, length-append}
use Rattle.sqlite_record.specs.Record.{decode}
use Rattle.sqlite_record.proofs.RecordLemmas.{decode-written}
use Rattle.sqlite_record.proofs.StrictLemmas.{IsRecord-written}
use Rattle.line_fills.specs.Records.{IsWritable}
use Rattle.line_fills.proofs.Encoded.{few_values, header_of, record_of, some_values}
use Rattle.line_fills.proofs.Refused.{none_with_many, none_with_much, none_without_types}
use Rattle.line_fills.proofs.encoder.Encoder.record.Goals as goal
use Rattle.line_fills.proofs.encoder.Encoder.record.Goals.{then-header-eq0-via-then-header-eq0, then-header-eq0-via-else-header-eq0+then-header-gt126, then-header-eq0-via-else-header-eq0+else-header-gt126+then-len-gt-MAX_LEN}

pub returns : goal.returns
returns c =
    let types = c.args.self.now.types.items in
    let body = c.args.self.now.body.items in
    let count : c.len-header.result ≡ length types = omega (arith, c.len-header.ensures, c.args.self.now.types.ok.0) in
    let few : length types < 127 = omega (arith, count, c.if-header-gt126.false) in
    let some : 0 < length types = omega (arith, count, c.if-header-eq0.false) in
    let long : length body ≤ 1000000000 = omega (arith, c.len.ensures, c.if-len-gt-MAX_LEN.false, c.args.self.now.body.ok.0) in
    let both = length-append types body in
    let is : c.as_slice.result.now ≡ (length types + 1) ∷ (types ++ body) = c.as_slice.ensures.value ∙ c.in_ok-finish.ensures ∙ ap (λ n. (n + 1) ∷ (types ++ body)) count in
    record {
      decoded = λ row was. ap decode is ∙ decode-written row ((length types + 1) ∷ []) types body (header_of types few) was.typed was.filled;
      writable = λ row was.
          subst IsWritable (sym is) (record {
            short = omega (arith, both, few, long);
            strict = IsRecord-written _ row (record_of types body row was.typed was.filled few) (some_values types row was.typed some) (omega (arith, few_values types row was.typed, few));
          });
      refused = λ row was. tt;
    }

pub returns-then-header-eq0 : goal.returns-then-header-eq0
returns-then-header-eq0 c = record {
  decoded = λ row was. tt;
  writable = λ row was. tt;
  refused = λ row was.
      let it = c.args.self.now in
      let count : c.len-header.result ≡ length it.types.items = omega (arith, c.len-header.ensures, it.types.ok.0) in
      inr (
        refl,
        elim c.then-header-eq0.branch [
          | then-header-eq0-via-then-header-eq0 w ↦ none_without_types it.types.items it.body.items row was.typed was.filled (omega (arith, count, w.if-header-eq0.true))
          | then-header-eq0-via-else-header-eq0+then-header-gt126 w ↦ none_with_many it.types.items it.body.items row was.typed was.filled (omega (arith, count, w.if-header-gt126.true))
          | then-header-eq0-via-else-header-eq0+else-header-gt126+then-len-gt-MAX_LEN w ↦ none_with_much it.types.items it.body.items row was.typed was.filled (omega (arith, w.len.ensures, w.if-len-gt-MAX_LEN.true, it.body.ok.0))
        ],
      );
}
