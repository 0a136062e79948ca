use Rattle.std.proofs.Common.{sym, subst, ◌∙◌, inl, inr}
use Rattle.page_files.specs.Files.{page_size, pages_of}
use Rattle.page_rows.specs.Rows.{rows_of}
use Rattle.page_rows.proofs.Cuts.{all_from_least}
use Rattle.page_lists.specs.Entries.{AreCounted}
use Rattle.page_lists.proofs.Entries.{none_taken}
use Rattle.page_lists.proofs.texts.find_tables.Goals as goal

pub returns-in-Ok-clause-found : goal.returns-in-Ok-clause-found
returns-in-Ok-clause-found g c faithful has =
    let size = page_size c.args.file.now in
    let pages = pages_of c.args.file.now in
    let listed = c.walk.new.sink in
    c.tables_found.ensures (rows_of size pages 1) (λ none. elim (c.in-Ok.ensures.rows faithful has tt none_taken) [
      | inl all ↦ subst (λ entries. AreCounted entries listed.ours listed.has_more) (all_from_least size pages 1 has) all
      | inr (front, rest, parts, other) ↦ absurd (let both = sym other ∙ none in cc)
    ])
