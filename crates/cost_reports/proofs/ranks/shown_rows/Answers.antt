use Rattle.std.proofs.Common.{◌≡◌, ◌*◌, ap, ◌∙◌, arith}
use Rattle.cost_rows.specs.KeySums.{total_of}
use Rattle.report_texts.specs.KeyReports.{rank_cmp, reaching, limited}
use Rattle.report_texts.specs.Ranking.{ranked}
use Rattle.cost_reports.specs.Rows.{given_sums, plain_rows, shown_of}
use Rattle.cost_reports.proofs.CutLemmas.{shown_of_within, total_ranked}
use Rattle.cost_reports.proofs.ranks.shown_rows.Goals as goal

pub keep_enough-requires : goal.keep_enough-requires
keep_enough-requires c =
    let sum = ap total_of c.rank.ensures ∙ total_ranked (plain_rows c.in_ok-rows.rows.items) ∙ ap total_of c.in_ok-rows.ensures in
    omega (arith, sum, c.requires.within, c.requires.small)

pub returns-clause-within : goal.returns-clause-within
returns-clause-within c =
    let cut = c.args.cut in
    let total = c.args.total in
    let sums = given_sums c.args.sums.now in
    let is : plain_rows c.keep_first.new.rows.items ≡ shown_of cut total sums =
    c.keep_first.ensures
    ∙ ap (limited cut.limit) (c.keep_enough.ensures
    ∙ ap (λ n. reaching (n * total) 0 (plain_rows c.rank.new.rows.items)) c.from.ensures
    ∙ ap (reaching (cut.threshold * total) 0) (c.rank.ensures ∙ ap (ranked rank_cmp) c.in_ok-rows.ensures)) in
    let same = ap total_of is in
    let shows = shown_of_within cut total sums in
    omega (arith, same, shows, c.requires.within)
