use Rattle.std.proofs.Common.{◌≡◌, ◌≢◌, ◌-◌, [], ◌∷◌, ◌++◌, take, drop, sym, ap, subst, ◌∙◌, arith, rules, to_z-of_z, SFits, w64, of_z}
use Rattle.std.specs.Int.{bytes_high_first}
use Rattle.std.proofs.lemmas.List.{take_rest}
use Rattle.sqlite_record.specs.Record.{AreBodiesOf, AreTypesOf}
use Rattle.sqlite_record.specs.Serial.{int_serial, serial_size}
use Rattle.sqlite_record.proofs.SerialLemmas.{int_body, int_size}
use Rattle.sqlite_format.specs.Varint.{IsVarintOf}
use Rattle.sqlite_value.specs.declared.value.Value.TheVariants.{Int}
use Rattle.line_fills.proofs.Encoded.{one_body, one_type, small_varint}
use Rattle.line_fills.proofs.encoder.Encoder.push_int.Goals as goal

pub returns : goal.returns
returns c = λ row was.
    let n = c.args.n in
    let fits : SFits w64 n = search rules in
    let kind = c.type_of-kind.result in
    let serial : kind ≡ int_serial n = grind (arith, to_z-of_z) in
    let size = c.size_of.ensures.size ∙ ap serial_size serial in
    let bits : c.cast_unsigned.result ≡ of_z w64 n = grind (arith, to_z-of_z) in
    let all : c.to_be_bytes-bytes.result ≡ bytes_high_first 8 (of_z w64 n) = c.to_be_bytes-bytes.ensures ∙ ap (bytes_high_first 8) bits in
    let part : take (8 - (8 - c.size_of.result)) (drop (8 - c.size_of.result) c.to_be_bytes-bytes.result) ≡ bytes_high_first (serial_size (int_serial n)) (of_z w64 n) =
    rw (all, size) (take_rest (bytes_high_first 8 (of_z w64 n)) (8 - serial_size (int_serial n)) ∙ (int_size n).1) in
    let short : kind ≢ 128 = λ e. omega (arith, e, c.type_of-kind.ensures.small) in
    let types : AreTypesOf c.push.new.self.items (row ++ Int n ∷ []) =
    subst (λ l. AreTypesOf l (row ++ Int n ∷ [])) (sym c.in_ok-push.ensures.items)
    (one_type c.args.self.now.types.items row (kind ∷ []) (Int n) was.typed (subst (IsVarintOf (kind ∷ [])) serial (small_varint kind (omega (arith, c.type_of-kind.ensures.small)))) short) in
    record {
      typed = types;
      filled = subst (λ l. AreBodiesOf l (row ++ Int n ∷ [])) (sym (c.in_ok-extend_from_slice.ensures.items ∙ ap (λ l. c.args.self.now.body.items ++ l) part)) (one_body c.args.self.now.body.items row _ (Int n) was.filled (int_body n fits));
    }
