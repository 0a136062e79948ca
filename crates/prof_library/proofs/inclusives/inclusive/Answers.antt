use Rattle.std.proofs.Common.{◌≡◌, ◌+◌, ℕ, List, [], ◌++◌, fold, sum_by, sym, ap, ap₂, ◌∙◌, arith}
use Rattle.std.proofs.lemmas.Grind.{fold-append}
use Rattle.std.proofs.lemmas.Result.{IfOk-weaker}
use Rattle.cost_rows.specs.KeySums.{Sums, rows_of, total_of, with_row}
use Rattle.cost_rows.specs.Sums.{Spot}
use Rattle.cost_rows.specs.declared.keys.Key.TheVariants.{Function}
use Rattle.cost_rows.specs.declared.rows.CellRow.{CellRow}
use Rattle.cost_reports.proofs.AddedLemmas.{keeps_key}
use Rattle.report_texts.specs.Inclusive.{RankedCosts, inclusive_report, inclusive_rows, outward_costs, row_costs, rows_count}
use Rattle.prof_library.specs.Given.{calls_in, plain_cells, plain_stacks}
use Rattle.prof_library.proofs.Lemmas.{cost_is_sum, rows_added}
use Rattle.prof_library.proofs.inclusives.inclusive.Goals as goal

-- all rows, in the order in which they are added
added_in_order : (start cells arcs stacks : Sums) (xs : List (CellRow (List ℕ))) (ys zs : List (Spot × ℕ))
    → cells ≡ fold with_row start xs → arcs ≡ fold with_row cells (rows_of ys) → stacks ≡ fold with_row arcs (rows_of zs)
    → stacks ≡ fold with_row start (xs ++ rows_of (ys ++ zs))
added_in_order start cells arcs stacks xs ys zs one two three =
    three ∙ ap (λ s. fold with_row s (rows_of zs)) (two ∙ ap (λ s. fold with_row s (rows_of ys)) one) ∙ rows_added (fold with_row start xs) ys zs
    ∙ sym (fold-append with_row start xs (rows_of (ys ++ zs)))

pub new-sums-requires-2-clause-key : goal.new-sums-requires-2-clause-key
new-sums-requires-2-clause-key c =
    let all = added_in_order c.new-sums.result c.add_cells.new.sums c.add_arcs.new.sums c.add_stacks.new.sums (plain_cells c.args.cells.now)
    (outward_costs (calls_in c.args.arcs.now)) (row_costs (plain_stacks c.args.stacks.now)) c.in_ok-add_cells.ensures.sums c.in_ok-add_arcs.ensures.sums c.in_ok-add_stacks.ensures.sums in
    ap (λ (s : Sums). s.key) all ∙ keeps_key c.new-sums.result (plain_cells c.args.cells.now ++ rows_of (outward_costs (calls_in c.args.arcs.now) ++ row_costs (plain_stacks c.args.stacks.now))) ∙ c.new-sums.ensures.key

pub returns : goal.returns
returns c =
    let cells = plain_cells c.args.cells.now in
    let arcs = calls_in c.args.arcs.now in
    let stacks = plain_stacks c.args.stacks.now in
    let all = added_in_order c.new-sums.result c.add_cells.new.sums c.add_arcs.new.sums c.add_stacks.new.sums cells
    (outward_costs arcs) (row_costs stacks) c.in_ok-add_cells.ensures.sums c.in_ok-add_arcs.ensures.sums c.in_ok-add_stacks.ensures.sums in
    let start : c.new-sums.result ≡ record { key = Function; sums = [] } = ap₂ (λ key sums. record { key = key; sums = sums }) c.new-sums.ensures.key c.new-sums.ensures.sums in
    let sums = c.new-sums-2.ensures.sums ∙ ap (λ (s : Sums). s.sums) all ∙ ap (λ s. (fold with_row s (cells ++ rows_of (outward_costs arcs ++ row_costs stacks))).sums) start in
    let self_cost = c.total-self_cost.ensures.value in
    let empty : total_of c.new-sums.result.sums ≡ 0 = ap total_of c.new-sums.ensures.sums in
    let total : c.new-sums-2.result.total ≡ sum_by (λ (r : CellRow (List ℕ)). r.cost) cells + rows_count stacks =
    omega (arith, c.new-sums-2.ensures.total, self_cost, c.in_ok-add_cells.ensures.total, empty, cost_is_sum cells, c.count_of.ensures) in
    IfOk-weaker c.inclusive.result _ (λ (report : RankedCosts). report ≡ inclusive_report (inclusive_rows cells arcs stacks))
    (λ report is. is ∙ ap inclusive_report (ap₂ (λ s t. record { sums = s; total = t }) sums total)) c.inclusive.ensures
