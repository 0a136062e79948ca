use Rattle.std.proofs.Common.{◌≡◌, ◌++◌, List, refl, ap, subst, ◌∙◌, rules}
use Rattle.std.specs.List.{AllByRecursion}
use Rattle.report_texts.specs.Verifying.{verified, verify_text}
use Rattle.plain_tables.specs.RunRows.{cells_in}
use Rattle.plain_tables.specs.Tables.{NameRow}
use Rattle.run_stores.specs.Book.{CellIsNamed}
use Rattle.run_stores.proofs.Calls.{asked_reads}
use Rattle.store_reports.specs.CellSums.{AreOfCells}
use Rattle.store_reports.proofs.checking.push_sums.Goals as goal

pub returns-clause-told : goal.returns-clause-told
returns-clause-told g c clean t represents held head_is =
    let number = c.args.number in
    let head = c.args.head.now in
    let sums = c.in_ok-sums.sums in
    let early = (c.in_ok-check_cells.ensures.asks clean).stays.was_faithful in
    let mid = asked_reads g.S.StoreState t _ _ (c.in_ok-sums.ensures.asks early) represents in
    let checked : c.as_slice.result.now ≡ sums = search rules in
    let same : c.as_slice-2.result.now ≡ sums = search rules in (
      verify_text (verified number head.events sums head.stated),
      record {
        head = head;
        head_is = head_is;
        sums = sums;
        sums_are = c.in_ok-sums.ensures.told early t represents;
        cells_are = subst (AreOfCells (cells_in number t)) checked (c.in_ok-check_cells.ensures.told clean t mid);
        named = subst (λ (names : List NameRow). AllByRecursion (CellIsNamed names) (cells_in number t)) held (c.in_ok-check_cells.ensures.named clean t mid);
        lines_are = refl;
      },
      c.in_ok-push_lines.ensures ∙ ap (λ s. c.args.text.now.items ++ verify_text (verified number head.events s head.stated)) same,
    )
