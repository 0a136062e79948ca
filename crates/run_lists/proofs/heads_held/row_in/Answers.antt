use Rattle.std.proofs.Common.{◌≡◌, ◌<◌, ◌+◌, ◌∙◌, ◌++◌, ◌∷◌, [], map, take, drop, length, get_or, sym, ap, arith}
use Rattle.std.proofs.lemmas.List.{get_or_default, length_push}
use Rattle.run_stores.specs.HeldHeads.{coefs_at}
use Rattle.run_lists.specs.HeadLines.{entry_of_coef}
use Rattle.run_lists.proofs.HeadReading.{coefs_at-one_more, read_part, part_within, rest_is}
use Rattle.run_lists.proofs.HeadServed.{one_more, rest_of_row}
use Rattle.run_lists.proofs.Steps.{no_err}
use Rattle.run_lists.proofs.heads_held.row_in.Goals as goal

pub events-preserved : goal.events-preserved
events-preserved c =
    let row = c.events.row in
    let place = c.args.place in
    let coefs = c.args.coefs.now in
    let times = c.first_times-times.result.0 in
    let pushed : c.push.new.self ≡ row ++ times ∷ [] = no_err c.push.result (sym c.is_err.ensures.value ∙ c.if-is_err.false) c.push.ensures.ok in (
      ap length pushed ∙ length_push row times ∙ omega (arith, c.events.invariant.0),
      part_within coefs c.events.used c.first_times-times.result.1 c.events.invariant.1 c.first_times-times.ensures.within,
      read_part entry_of_coef coefs c.events.used c.first_times-times.result.1 (coefs_at place 0 row) _ c.events.invariant.1 c.events.invariant.2 c.first_times-times.ensures.said
          ∙ ap (λ k. coefs_at place 0 row ++ coefs_at place k (times ∷ [])) (sym c.events.invariant.0)
          ∙ sym (coefs_at-one_more place row times)
          ∙ sym (ap (coefs_at place 0) pushed),
      λ wanted rows many all.
          (let low : c.events.event < length wanted = omega (arith, many, c.events-test.true) in
          let was : row ≡ take c.events.event wanted = c.events.invariant.3 wanted rows many all in
          let rest = rest_of_row place c.events.event c.events.used coefs row wanted rows low was c.events.invariant.2 all in
          let next : times ≡ get_or wanted c.events.event 0 = c.first_times-times.ensures.all (get_or wanted c.events.event 0) (drop (c.events.event + 1) wanted) rows (ap (map entry_of_coef) (rest_is c.events.used coefs) ∙ rest) in
          one_more wanted c.events.event row c.push.new.self times low was pushed (next ∙ get_or_default wanted c.events.event 0 times low)),
    )
