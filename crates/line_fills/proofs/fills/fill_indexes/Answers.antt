use Rattle.std.proofs.Common.{map, sym, subst, arith}
use Rattle.sqlite_pool.specs.StoredLaws.{Keeps-trans}
use Rattle.std.proofs.lemmas.Result.{err_from_is_err_and}
use Rattle.page_places.proofs.Failing.{store_fails_later}
use Rattle.line_fills.specs.Causes.{CanEnter}
use Rattle.line_fills.specs.Rows.{numbered}
use Rattle.line_fills.proofs.Indexes.{all_filled, next_one, one_more}
use Rattle.line_fills.proofs.fills.fill_indexes.Goals as goal

pub returns-in_err-fill_index-clause-keeps : goal.returns-in_err-fill_index-clause-keeps
returns-in_err-fill_index-clause-keeps g c = Keeps-trans _ _ _ c.loop-number.invariant.keeps c.fill_index.ensures.keeps

pub loop-number-preserved : goal.loop-number-preserved
loop-number-preserved g c =
    let mid = c.loop-number.file in
    let new = c.fill_index.new.file in
    let places = c.args.indexes.now in
    let news = numbered c.args.first (map g.L.PageLine.columns c.args.lines.now) in
    record {
      keeps = Keeps-trans _ _ _ c.loop-number.invariant.keeps c.fill_index.ensures.keeps;
      usable = λ ready. c.in_ok-fill_index.ensures.usable (c.loop-number.invariant.usable ready);
      part = λ faithful wanted roots was now indexes olds w all can.
          let part = c.loop-number.invariant.part (c.fill_index.ensures.keeps.stays.clean faithful) wanted roots was now indexes olds w all can in
          one_more wanted roots was now places indexes news c.loop-number.number mid part olds can _ c.loop-number-test.true new
          (λ i place. c.in_ok-fill_index.ensures.done faithful wanted roots was part.has.next i.tree part.has.writes place.at place.no_reals);
    }

pub returns-clause-done : goal.returns-clause-done
returns-clause-done g c faithful = λ wanted roots was now indexes olds w all can.
    let news = numbered c.args.first (map g.L.PageLine.columns c.args.lines.now) in
    all_filled wanted roots was now c.args.indexes.now indexes news c.loop-number.number c.loop-number.file (c.loop-number.invariant.part faithful wanted roots was now indexes olds w all can)
    (omega (arith, c.loop-number.auto.number-end, c.loop-number-test.false))

pub returns-in_err-fill_index-clause-done : goal.returns-in_err-fill_index-clause-done
returns-in_err-fill_index-clause-done g c faithful = λ wanted roots was now indexes olds w all can.
    let mid = c.loop-number.file in
    let new = c.fill_index.new.file in
    let places = c.args.indexes.now in
    let news = numbered c.args.first (map g.L.PageLine.columns c.args.lines.now) in
    let part = c.loop-number.invariant.part (c.fill_index.ensures.keeps.stays.clean faithful) wanted roots was now indexes olds w all can in
    let next = next_one wanted roots was now places indexes news c.loop-number.number mid part olds can _ c.loop-number-test.true new (λ i. CanEnter i.columns news) in
    let p = err_from_is_err_and c.from_residual.result c.from_residual.ensures.1 in
    rw (p.1, p.2) (store_fails_later c.args.file.now mid new _ c.loop-number.invariant.keeps (λ enter. subst (λ columns. CanEnter columns news) (sym next.1.columns) (next.2 enter))
    (c.in_err-fill_index.ensures.done faithful wanted roots was part.has.next next.0.tree part.has.writes next.1.at next.1.no_reals))
