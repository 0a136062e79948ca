use Rattle.std.proofs.Common.{◌≡◌, List, ◌++◌, [], filter, map, refl, sym, ap, subst, ◌∙◌, inl, inr, append-nil, IsPermutation}
use Rattle.std.proofs.lemmas.List.Sorted.{IsPermutation-refl}
use Rattle.sqlite_value.specs.Keys.{plain}
use Rattle.sqlite_value.specs.Order.{Row}
use Rattle.page_files.specs.Trees.{trees_of}
use Rattle.page_files.proofs.Standing.{entries_in_order}
use Rattle.page_rows.specs.Indexes.{begins_with, from_entry}
use Rattle.row_writes.specs.Under.{entry_id, ids_under}
use Rattle.row_writes.proofs.RowsUnder.{all_under}
use Rattle.row_writes.proofs.under.walk_under.Goals as goal

pub returns-in-Ok-clause-done : goal.returns-in-Ok-clause-done
returns-in-Ok-clause-done g c faithful = λ wanted t shows.
    let prefix = c.args.prefix.now in
    let entries = trees_of wanted c.args.file.now t in
    let es = from_entry plain prefix entries in
    let found = c.walk_entries.new.sink.rowids.items in
    let begin = λ (rest : List Row). ap (λ l. l ++ ids_under prefix rest) (sym c.new.ensures.items) in
    let all = all_under prefix entries (entries_in_order c.args.file.now shows) in
    let is : ids_under prefix es ≡ found = elim (c.in-Ok.ensures.done faithful wanted t shows prefix (refl, begin)) [
      | inl taken ↦ ap (ids_under prefix) (sym (append-nil es)) ∙ taken.1 [] ∙ append-nil found
      | inr some ↦ ap (ids_under prefix) some.2 ∙ some.3 some.1
    ] in
    subst (IsPermutation (map entry_id (filter (begins_with plain prefix) entries))) (all ∙ is) (IsPermutation-refl (map entry_id (filter (begins_with plain prefix) entries)))

pub returns-in-Err-Pages-clause-done : goal.returns-in-Err-Pages-clause-done
returns-in-Err-Pages-clause-done g c faithful = λ wanted t shows.
    let prefix = c.args.prefix.now in
    let begin = λ (rest : List Row). ap (λ l. l ++ ids_under prefix rest) (sym c.new.ensures.items) in
    rw c.in-Err-Pages.field-0-is at (c.in-Err-Pages.ensures.done faithful wanted t shows prefix (refl, begin))
