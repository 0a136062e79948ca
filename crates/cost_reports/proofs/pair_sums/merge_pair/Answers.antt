use Rattle.std.proofs.Common.{refl, sym, ◌∙◌, ap, arith}
use Rattle.std.specs.BTreeMap.{is_at, insert_entry}
use Rattle.std.proofs.lemmas.Cmp.{on_total}
use Rattle.cost_rows.specs.Keys.{lent_place, named_cmp}
use Rattle.cost_rows.proofs.KeysLemmas.{named_cmp-total}
use Rattle.cost_rows.proofs.MergeLemmas.{merge-new, merge-written}
use Rattle.cost_rows.proofs.SeenLemmas.{key_cmp, seen-lookup, seen-with}
use Rattle.report_texts.specs.Pairs.{pairs_added, pair_total}
use Rattle.report_texts.specs.declared.pairs.Pair.{Pair}
use Rattle.cost_reports.specs.Rows.{lent_pairs}
use Rattle.cost_reports.proofs.PairLemmas.{pair_least, total_with}
use Rattle.cost_reports.proofs.pair_sums.merge_pair.Goals as goal

pub returns-in-Some-clause-ok : goal.returns-in-Some-clause-ok
returns-in-Some-clause-ok c =
    seen-with lent_place named_cmp pairs_added c.args.sums.now.entries _ c.args.place (lent_place c.args.place) c.args.pair
    (merge-written (on_total lent_place named_cmp-total) pairs_added c.args.sums.now (c.get_mut.follows.lender c.plus.result) c.args.place c.in-Some.sum.now c.plus.result c.args.pair
    (c.get_mut.follows.holds c.plus.result) c.get_mut.ensures.ordered c.in-Some.ensures.value c.plus.ensures) refl

pub returns-in_ok-insert-in-None-clause-ok : goal.returns-in_ok-insert-in-None-clause-ok
returns-in_ok-insert-in-None-clause-ok c =
    seen-with lent_place named_cmp pairs_added c.args.sums.now.entries c.insert.new.self.entries c.args.place (lent_place c.args.place) c.args.pair
    (c.in_ok-insert-in-None.ensures.entries ∙ ap (λ m. insert_entry (key_cmp lent_place named_cmp) m.entries c.args.place c.args.pair) c.get_mut.follows.holds-at-none
    ∙ merge-new (on_total lent_place named_cmp-total) pairs_added c.args.sums.now.entries c.args.place c.args.pair (sym c.in-None.ensures.value)) refl

pub plus-requires-clause-first : goal.plus-requires-clause-first
plus-requires-clause-first c =
    let found = c.in-Some.ensures.value ∙ seen-lookup lent_place named_cmp c.args.sums.now.entries (lent_place c.args.place) in
    let least = pair_least (λ (p : Pair). p.first) (is_at (named_cmp (lent_place c.args.place))) (lent_pairs c.args.sums.now.entries) c.in-Some.sum.now found in
    omega (arith, least, c.requires.first)

pub plus-requires-clause-second : goal.plus-requires-clause-second
plus-requires-clause-second c =
    let found = c.in-Some.ensures.value ∙ seen-lookup lent_place named_cmp c.args.sums.now.entries (lent_place c.args.place) in
    let least = pair_least (λ (p : Pair). p.second) (is_at (named_cmp (lent_place c.args.place))) (lent_pairs c.args.sums.now.entries) c.in-Some.sum.now found in
    omega (arith, least, c.requires.second)

pub returns-in-Some-clause-total : goal.returns-in-Some-clause-total
returns-in-Some-clause-total c = ap pair_total (returns-in-Some-clause-ok c) ∙ total_with (lent_place c.args.place) c.args.pair (lent_pairs c.args.sums.now.entries)

pub returns-in_ok-insert-in-None-clause-total : goal.returns-in_ok-insert-in-None-clause-total
returns-in_ok-insert-in-None-clause-total c = ap pair_total (returns-in_ok-insert-in-None-clause-ok c) ∙ total_with (lent_place c.args.place) c.args.pair (lent_pairs c.args.sums.now.entries)
