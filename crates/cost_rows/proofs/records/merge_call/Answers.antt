use Rattle.std.proofs.Common.{List, ℕ, ◌∙◌, ap}
use Rattle.std.proofs.lemmas.Result.{on_ok_weaker}
use Rattle.cost_rows.specs.Calls.{calls_added}
use Rattle.cost_rows.specs.Content.{names_with_callee}
use Rattle.cost_rows.specs.Lent.{callee_of, cost_of}
use Rattle.cost_rows.specs.Marks.{known_by}
use Rattle.cost_rows.specs.Merging.{merge}
use Rattle.cost_rows.specs.Places.{call_cmp}
use Rattle.cost_rows.specs.Trimmed.{trimmed}
use Rattle.cost_rows.specs.declared.places.Call.{Call}
use Rattle.cost_rows.proofs.GrowingLemmas.{call-numbered, grows-more}
use Rattle.cost_rows.proofs.MarksLemmas.{agrees-own, agrees-called, learns-both}
use Rattle.cost_rows.proofs.records.merge_call.Goals as goal

pub place_lent-requires-clause-agrees : goal.place_lent-requires-clause-agrees
place_lent-requires-clause-agrees c = agrees-own (known_by c.args.names.now c.args.marks.now) c.args.r.names c.args.r.called c.requires.agrees

pub place_lent-requires-2-clause-agrees : goal.place_lent-requires-2-clause-agrees
place_lent-requires-2-clause-agrees c =
    agrees-called (known_by c.args.names.now c.args.marks.now) (known_by c.place_lent.new.names c.place_lent.new.marks) c.args.r.names c.args.r.called
    c.requires.agrees c.in_ok-place.ensures.learns.learns

pub returns-clause-calls : goal.returns-clause-calls
returns-clause-calls c =
    let called = c.in_ok-called.called in
    let call : Call = record { place = c.in_ok-place.place; object = called.object; file = called.file; function = called.function } in
    on_ok_weaker c.merge.result
    (λ merged. merged
    ∙ ap (λ (costs : List ℕ). merge call_cmp calls_added c.args.edges.now call (record { count = c.args.r.count; costs = costs })) c.trimmed.ensures
    ∙ ap (λ call. merge call_cmp calls_added c.args.edges.now call (record { count = c.args.r.count; costs = trimmed c.args.r.costs.now }))
    (call-numbered c.args.names.now c.place_lent.new.names c.place_lent-2.new.names (callee_of c.args.r) (cost_of c.args.r) c.in_ok-place.place c.in_ok-called.called
    c.in_ok-place.ensures.names c.in_ok-place.ensures.place c.in_ok-called.ensures.names c.in_ok-called.ensures.place))
    c.merge.ensures.ok

pub returns-clause-learns : goal.returns-clause-learns
returns-clause-learns c =
    on_ok_weaker c.merge.result
    (λ merged. record {
      named = c.in_ok-called.ensures.learns.named;
      learns = learns-both (known_by c.args.names.now c.args.marks.now) (known_by c.place_lent.new.names c.place_lent.new.marks) (known_by c.place_lent-2.new.names c.place_lent-2.new.marks)
          c.args.r.names c.args.r.called c.in_ok-place.ensures.learns.learns c.in_ok-called.ensures.learns.learns;
    })
    c.merge.ensures.ok

pub returns-clause-names : goal.returns-clause-names
returns-clause-names c =
    on_ok_weaker c.merge.result (λ merged. c.in_ok-called.ensures.names ∙ ap (names_with_callee (callee_of c.args.r)) c.in_ok-place.ensures.names) c.merge.ensures.ok

pub returns-clause-grows : goal.returns-clause-grows
returns-clause-grows c = grows-more c.args.names.now c.place_lent.new.names c.place_lent-2.new.names c.place_lent.ensures.grows c.place_lent-2.ensures.grows

pub returns-clause-err : goal.returns-clause-err
returns-clause-err c = c.merge.ensures.err

pub returns-in_err-called-clause-grows : goal.returns-in_err-called-clause-grows
returns-in_err-called-clause-grows c = grows-more c.args.names.now c.place_lent.new.names c.place_lent-2.new.names c.place_lent.ensures.grows c.place_lent-2.ensures.grows
