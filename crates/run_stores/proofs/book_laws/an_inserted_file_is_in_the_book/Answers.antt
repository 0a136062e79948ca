use Rattle.run_stores.specs.BookRuns.{filed}
use Rattle.run_stores.proofs.Filed.{goes_in_book, head_of_run}
use Rattle.run_stores.proofs.book_laws.an_inserted_file_is_in_the_book.Goals as goal

pub returns : goal.returns
returns c' = λ number kind digest label head c. goes_in_book (filed number kind digest label head c) (head_of_run number head c)
