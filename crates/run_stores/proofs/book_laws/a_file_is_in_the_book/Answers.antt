use Rattle.run_stores.proofs.Filed.{goes_in_book}
use Rattle.run_stores.proofs.book_laws.a_file_is_in_the_book.Goals as goal

pub returns : goal.returns
returns c = goes_in_book
