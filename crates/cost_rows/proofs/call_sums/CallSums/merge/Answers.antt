use Rattle.std.proofs.Common.{◌≡◌, [], ◌∷◌, ◌++◌, All, sym, ◌∙◌, ap, subst}
use Rattle.std.proofs.lemmas.Result.{on_ok_weaker}
use Rattle.std.specs.Map.{values_of}
use Rattle.profile_records.specs.Columns.{added}
use Rattle.cost_rows.specs.Calls.{AreSmall, calls_added, calls_in}
use Rattle.cost_rows.specs.Merging.{merge}
use Rattle.cost_rows.specs.Places.{call_cmp}
use Rattle.cost_rows.proofs.CallsLemmas.{calls-merged, room-of_calls}
use Rattle.cost_rows.proofs.call_sums.CallSums.merge.Goals as goal

pub merge-requires : goal.merge-requires
merge-requires c = room-of_calls c.self.inside.sums (subst (λ calls. All AreSmall (values_of calls)) (sym c.self.view_is) c.requires)

pub returns-clause-ok : goal.returns-clause-ok
returns-clause-ok c =
    let sums = c.self.inside.sums in
    let amount : c.as_slice.result.now ≡ c.args.count ∷ c.args.costs.now =
    c.as_slice.ensures.value ∙ c.in_ok-extend_from_slice.ensures.items
    ∙ ap (λ xs. xs ++ c.args.costs.now) (c.in_ok-push.ensures.items ∙ ap (λ xs. xs ++ c.args.count ∷ []) c.clear.ensures.items) in
    on_ok_weaker c.merge.result
    (λ merged. ap calls_in merged ∙ ap (λ xs. calls_in (merge call_cmp added sums c.args.call xs)) amount ∙ calls-merged sums c.args.call c.args.count c.args.costs.now
    ∙ ap (λ calls. merge call_cmp calls_added calls c.args.call (record { count = c.args.count; costs = c.args.costs.now })) c.self.view_is)
    c.merge.ensures.ok
