use Rattle.std.proofs.Common.{[], ◌∷◌, ◌++◌, refl, sym, ap, ◌∙◌, to_z-of_z}
use Rattle.sqlite_value.specs.declared.value.Value.TheVariants.{Int}
use Rattle.sqlite_value.specs.Order.{column}
use Rattle.sqlite_store.specs.Db.{table_row}
use Rattle.page_lists.specs.Walks.{natural}
use Rattle.page_runs.proofs.places.FirstRowSink.take.Goals as goal

pub returns-clause-last : goal.returns-clause-last
returns-clause-last c ok start rows has =
    let row = table_row (c.args.rowid, c.args.payload.now) in
    (_, refl, (row, [], ap (λ l. l ++ row ∷ []) has.0, ap Int (sym (to_z-of_z c.ranges.rowid)), ap (λ d. natural (column d 0)) (sym c.new.ensures ∙ c.in_ok-run.ensures)))
