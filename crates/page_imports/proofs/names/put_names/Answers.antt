use Rattle.std.proofs.Common.{refl}
use Rattle.prof_store.specs.Schema.{schema_two, name_at}
use Rattle.page_imports.specs.declared.numbering.NewName.{NewName}
use Rattle.page_imports.specs.Names.{bytes_of, name_line}
use Rattle.page_imports.proofs.Named.{names_filled}
use Rattle.page_imports.proofs.Put.{lines_put}
use Rattle.page_imports.proofs.Mapped.{mapped_twice}
use Rattle.page_places.proofs.Showing.{table_at}
use Rattle.page_imports.proofs.names.put_names.Goals as goal

pub returns-clause-done : goal.returns-clause-done
returns-clause-done g c clean = λ wanted known was t shows are unheld.
    let file = c.args.file.now in
    let news = c.args.news.now in
    let now = shows.next in
    let at = table_at file shows.writes shows.holds 5 name_at refl _ (c.place.ensures known name_at (c.name_table.ensures known are)) in
    let columns = mapped_twice name_line (λ (new : NewName). new.name.now) news in
    lines_put file c.fill.new.file shows name_at refl c.fill.result columns (λ next. names_filled t now next shows.holds (bytes_of news) unheld) (λ put. put)
    (c.fill.ensures.done clean schema_two wanted known was now name_at at)

pub returns-clause-leaves : goal.returns-clause-leaves
returns-clause-leaves g c = c.fill.ensures.leaves
