use Rattle.std.proofs.Common.{◌++◌, ℕ, List, [], MatchResult, refl, subst}
use Rattle.csv.specs.Writing.{default_writer, row_text}
use Rattle.report_texts.specs.Csv.{EventSpot, csv_header, csv_rows, csv_text}
use Rattle.cost_exports.specs.Pieces.{IsCut, IsOut}
use Rattle.cost_exports.specs.Views.{sums_in}
use Rattle.cost_exports.proofs.PieceLemmas.{cut_here, gathered_on, passed}
use Rattle.cost_exports.proofs.csv_texts.put_all.Goals as goal

pub returns-in_err-write_header : goal.returns-in_err-write_header
returns-in_err-write_header g c from on =
    passed c.from_residual.result _ _ _ c.from_residual.ensures.1 (cut_here g.W.TextSink.takes from g.W.TextSink.stops c.args.pieces.now _ c.args.out.now [] (csv_text c.args.sums.now) refl on)

pub returns-in_err-put_places : goal.returns-in_err-put_places
returns-in_err-put_places g c from on =
    let header = row_text default_writer csv_header in
    let begun = gathered_on g.W.TextSink.takes from c.args.pieces.now _ c.args.out.now [] header refl on (c.in_ok-write_header.ensures on.held on.gathered) in
    let cut = c.in_err-put_places.ensures from header begun in
    passed c.from_residual-in_err-put_places.result _ _ _ c.from_residual-in_err-put_places.ensures.1
    (subst (λ (sums : List (EventSpot × ℕ)). IsCut g.W.TextSink.takes g.W.TextSink.stops from c.put_places.new.pieces c.put_places.new.out (csv_text sums)) c.places.ensures cut)

pub returns : goal.returns
returns g c from on =
    let header = row_text default_writer csv_header in
    let rows = csv_rows (sums_in c.places.result.now) in
    let begun = gathered_on g.W.TextSink.takes from c.args.pieces.now _ c.args.out.now [] header refl on (c.in_ok-write_header.ensures on.held on.gathered) in
    let all = c.in_ok-put_places.ensures from header begun in
    let to = c.hand_on.new.out in
    subst (λ (sums : List (EventSpot × ℕ)). MatchResult c.hand_on.result (λ done. IsOut g.W.TextSink.takes from c.hand_on.new.self to (csv_text sums)) (λ e. IsCut g.W.TextSink.takes g.W.TextSink.stops from c.hand_on.new.self to (csv_text sums))) c.places.ensures
    (c.hand_on.ensures from (header ++ rows) all)
