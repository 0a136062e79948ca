use Rattle.std.proofs.Common.{◌≡◌, ◌≢◌, ◌<◌, [], ◌∷◌, ◌++◌, add-zero, drop, get_or, get_or-drop, sym, ap, subst, ◌∙◌, inl, inr, arith, length-drop, take_all}
use Rattle.std.proofs.lemmas.Bool.{cases_eq}
use Rattle.sqlite_format.specs.Varint.{IsVarintOf}
use Rattle.sqlite_record.specs.Record.{AreBodiesOf, AreTypesOf}
use Rattle.line_fills.proofs.Encoded.{one_body, one_byte, one_type}
use Rattle.line_fills.proofs.encoder.Encoder.push_as.Goals as goal

pub returns : goal.returns
returns c = λ value kind_is body_is row was.
    let start = c.put-start.result in
    let buf = c.put-start.new.buf in
    let digits = drop start buf in
    let put = c.put-start.ensures in
    let len = length-drop start buf in
    let some : 0 < start = elim (cases_eq start 0) [ inl none ↦ absurd (omega (arith, put.long.0 none, c.requires)) | inr other ↦ omega arith ] in
    let short : get_or digits 0 0 ≢ 128 = elim (cases_eq start 8) [
      | inl last ↦ one_byte digits (omega arith) put.reads_back.whole
      | inr before ↦ λ e. put.shortest some (omega arith) (ap (λ k. get_or buf k 0) (sym (add-zero start)) ∙ sym (get_or-drop start buf 0 0) ∙ e)
    ] in
    let pushed : c.extend_from_slice.new.self.items ≡ c.args.self.now.types.items ++ digits =
    c.in_ok-extend_from_slice.ensures.items ∙ ap (λ l. c.args.self.now.types.items ++ l) (take_all _ digits (omega arith)) in
    let types : AreTypesOf c.extend_from_slice.new.self.items (row ++ value ∷ []) =
    subst (λ l. AreTypesOf l (row ++ value ∷ [])) (sym pushed) (one_type c.args.self.now.types.items row digits value was.typed (subst (IsVarintOf digits) kind_is put.reads_back) short) in
    record {
      typed = types;
      filled = subst (λ l. AreBodiesOf l (row ++ value ∷ [])) (sym c.in_ok-extend_from_slice-2.ensures.items) (one_body c.args.self.now.body.items row c.args.body.now value was.filled body_is);
    }
