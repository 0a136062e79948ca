use Rattle.std.proofs.Common.{◌≡◌, ap, subst, ◌∙◌, ◌||◌, to_z-of_z}
use Rattle.sqlite_store.specs.Db.{table_row}
use Rattle.page_lists.specs.Entries.{is_added, place_in_schema, IsCounted}
use Rattle.page_lists.proofs.Entries.{is_set, is_unset, taken}
use Rattle.page_lists.proofs.texts.ListedRowSink.take.Goals as goal

pub returns-clause-more : goal.returns-clause-more
returns-clause-more c ok start entries has =
    let row = table_row (c.args.rowid, c.args.payload.now) in
    let was = c.args.self.now in
    let now = c.take_entry.new.self in
    let read : c.read_row.new.row ≡ row = c.in_ok-read_row.ensures ∙ ap (λ i. table_row (i, c.args.payload.now)) (to_z-of_z c.ranges.rowid) in
    taken entries row was.ours now.ours was.has_more now.has_more has
    (subst (λ e. IsCounted (place_in_schema e) e was.ours now.ours) read (c.in_ok-take_entry.ensures.counted (is_unset _ ok)))
    (subst (λ e. now.has_more ≡ (was.has_more || is_added e)) read c.in_ok-take_entry.ensures.more)

pub returns-clause-last : goal.returns-clause-last
returns-clause-last c ok start entries has = is_set _ ok
