use Rattle.std.proofs.Common.{ℕ, List, [], flat_map, refl, sym, subst}
use Rattle.byte_io.specs.Gone.{IsOn}
use Rattle.byte_io.specs.Parts.{part_text, text_of}
use Rattle.byte_io.proofs.OnLemmas.{if_ok, if_err, on_error, on_none, part_of}
use Rattle.byte_io.proofs.gathering.put_all.Goals as goal

pub returns-in_err-put_parts-clause-part : goal.returns-in_err-put_parts-clause-part
returns-in_err-put_parts-clause-part g c =
    let takes = g.W.TextSink.takes in
    let from = c.args.out.now in
    let none = subst (λ (l : List ℕ). IsOn takes from l from []) (sym c.requires) (on_none takes from) in
    on_error c.from_residual.result _ (part_of takes from g.W.TextSink.stops c.put_parts.new.out (flat_map part_text c.args.parts.now) c.args.rest.now (text_of c.args.parts.now c.args.rest.now) refl (c.in_err-put_parts.ensures from [] none))

pub returns-in_err-put-clause-part : goal.returns-in_err-put-clause-part
returns-in_err-put-clause-part g c =
    let takes = g.W.TextSink.takes in
    let from = c.args.out.now in
    let none = subst (λ (l : List ℕ). IsOn takes from l from []) (sym c.requires) (on_none takes from) in
    on_error c.from_residual-in_err-put.result _ (c.in_err-put.ensures from (flat_map part_text c.args.parts.now) (c.in_ok-put_parts.ensures from [] none))

pub returns-clause-whole : goal.returns-clause-whole
returns-clause-whole g c =
    let takes = g.W.TextSink.takes in
    let from = c.args.out.now in
    let none = subst (λ (l : List ℕ). IsOn takes from l from []) (sym c.requires) (on_none takes from) in
    let all = c.in_ok-put.ensures from (flat_map part_text c.args.parts.now) (c.in_ok-put_parts.ensures from [] none) in
    if_ok c.hand_on.result _ _ _ (c.hand_on.ensures from (text_of c.args.parts.now c.args.rest.now) all)

pub returns-clause-part : goal.returns-clause-part
returns-clause-part g c =
    let takes = g.W.TextSink.takes in
    let from = c.args.out.now in
    let none = subst (λ (l : List ℕ). IsOn takes from l from []) (sym c.requires) (on_none takes from) in
    let all = c.in_ok-put.ensures from (flat_map part_text c.args.parts.now) (c.in_ok-put_parts.ensures from [] none) in
    if_err c.hand_on.result _ _ (c.hand_on.ensures from (text_of c.args.parts.now c.args.rest.now) all)
