use Rattle.std.proofs.Common.{◌≡◌, ℕ, ◌+◌, ◌<◌, List, ◌++◌, length, get_or, drop, sym, ap, ◌∙◌, arith, append_assoc, append-nil}
use Rattle.std.proofs.lemmas.List.{at_drop_more, at_drop_all}
use Rattle.std.proofs.lemmas.Result.{IfOk-from_err}
use Rattle.byte_io.specs.Escapes.{escape, escaped}
use Rattle.byte_io.proofs.escapes.push_escaped.Goals as goal

more_escaped : (old new name whole : List ℕ) (i d : ℕ) → i < length name → new ≡ old ++ escape (get_or name i d) → old ++ escaped (drop i name) ≡ whole → new ++ escaped (drop (i + 1) name) ≡ whole
more_escaped old new name whole i d below is was =
    ap (λ l. l ++ escaped (drop (i + 1) name)) is ∙ append_assoc old (escape (get_or name i d)) (escaped (drop (i + 1) name))
    ∙ ap (λ l. old ++ l) (sym (at_drop_more escaped name i d below)) ∙ was

pub returns-in_err-push_byte : goal.returns-in_err-push_byte
returns-in_err-push_byte c = IfOk-from_err c.from_residual.result _ c.from_residual.ensures.0

pub loop-byte-preserved : goal.loop-byte-preserved
loop-byte-preserved c =
    more_escaped c.loop-byte.text.items _ c.args.name.now _ c.loop-byte.byte-index _ c.loop-byte-test.true c.in_ok-push_byte.ensures c.loop-byte.invariant

pub returns : goal.returns
returns c =
    sym (append-nil c.loop-byte.text.items) ∙ ap (λ l. c.loop-byte.text.items ++ l) (sym (at_drop_all escaped c.args.name.now c.loop-byte.byte-index (omega arith))) ∙ c.loop-byte.invariant
