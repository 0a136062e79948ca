use Rattle.run_stores.proofs.Books.{book_grouped, named_grouped, book_new, named_new}
use Rattle.run_stores.proofs.book_laws.groups_leave_the_runs.Goals as goal

pub returns-clause-book : goal.returns-clause-book
returns-clause-book c = λ groups members t. book_grouped t groups members

pub returns-clause-named : goal.returns-clause-named
returns-clause-named c = λ groups members t. named_grouped t groups members

pub returns-clause-new : goal.returns-clause-new
returns-clause-new c = book_new

pub returns-clause-new_named : goal.returns-clause-new_named
returns-clause-new_named c = named_new
