use Rattle.std.proofs.Common.{◌<◌, ◌+◌, ◌++◌, map, take, sym, ap, subst, ◌∙◌}
use Rattle.std.proofs.lemmas.List.{get_or-map, length-map}
use Rattle.sqlite_record.specs.Record.{decode}
use Rattle.page_lists.specs.Indexed.{key_of}
use Rattle.page_lists.proofs.Indexed.{key_is, next_key}
use Rattle.page_lists.proofs.indexes.ComparedEntrySink.take.Goals as goal

pub returns-clause-more : goal.returns-clause-more
returns-clause-more g c more start entries has =
    let columns = g.K.Key.columns in
    let lines = c.args.self.now.keys.now in
    let at = c.args.self.now.taken in
    let line = c.in-Some.key.now in
    let (test, there, sure, (low, same), last) = c.in-Some.ensures.lookup in
    let (rowid, left) = c.is_rowid_left.ensures c.if-not-is_rowid_left.false in
    let entry = sym c.new-fields.ensures ∙ c.is_next.ensures c.if-not-is_next.false ∙ ap (λ rest. columns line ++ rest) left in (
      has.0,
      next_key (map columns lines) entries at (columns line) (decode c.args.payload.now) (subst (λ n. at < n) (sym (length-map lines columns)) low) (ap columns there ∙ sym (get_or-map columns lines at line (columns line) low))
          (ap key_of entry ∙ key_is (columns line) rowid) (has.1 ∙ ap (take at) (sym has.0))
          ∙ ap (take (at + 1)) has.0,
    )
