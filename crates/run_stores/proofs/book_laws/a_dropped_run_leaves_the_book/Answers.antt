use Rattle.run_stores.proofs.Books.{book_dropped, named_dropped}
use Rattle.run_stores.proofs.book_laws.a_dropped_run_leaves_the_book.Goals as goal

pub returns-clause-book : goal.returns-clause-book
returns-clause-book c = book_dropped

pub returns-clause-named : goal.returns-clause-named
returns-clause-named c = named_dropped
