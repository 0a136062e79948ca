use Rattle.std.proofs.Common.{sym, ap, ap₂, subst, ◌≡◌, ◌∙◌, true, false, Some, None, [], ◌∷◌, ◌++◌, to_z-of_z}
use Rattle.sqlite_value.specs.Order.{column}
use Rattle.sqlite_store.specs.Catalog.{page_number}
use Rattle.sqlite_store.specs.Db.{table_row}
use Rattle.page_rows.specs.Roots.{names_tree, root_in_list}
use Rattle.page_rows.proofs.Entries.{found_next, other_next}
use Rattle.page_rows.proofs.roots.SeekerRowSink.take.Goals as goal

pub returns-then-is_entry_of-clause-last : goal.returns-then-is_entry_of-clause-last
returns-then-is_entry_of-clause-last c ok start rows has =
    let row = c.read_row.new.row in
    let named : names_tree start.0 start.1 row ≡ true = ap₂ (λ k n. names_tree k n row) (sym has.0) (sym has.1) ∙ sym c.is_entry_of.ensures ∙ c.if-is_entry_of.true in (
      page_number (column row 4),
      subst (λ r. root_in_list start.0 start.1 (rows ++ r ∷ []) ≡ Some (page_number (column row 4))) (c.in_ok-read_row.ensures ∙ ap (λ i. table_row (i, c.args.payload.now)) (to_z-of_z c.ranges.rowid)) (found_next start.0 start.1 rows row has.3 named),
      ap Some (c.page_in.ensures ∙ ap page_number c.get.ensures),
    )

pub returns-clause-more : goal.returns-clause-more
returns-clause-more c ok start rows has =
    let row = c.read_row.new.row in
    let other : names_tree start.0 start.1 row ≡ false = ap₂ (λ k n. names_tree k n row) (sym has.0) (sym has.1) ∙ sym c.is_entry_of.ensures ∙ c.if-is_entry_of.false in (
      has.0,
      has.1,
      has.2,
      subst (λ r. root_in_list start.0 start.1 (rows ++ r ∷ []) ≡ None) (c.in_ok-read_row.ensures ∙ ap (λ i. table_row (i, c.args.payload.now)) (to_z-of_z c.ranges.rowid)) (other_next start.0 start.1 rows row has.3 other),
    )
