use Rattle.std.proofs.Common.{refl}
use Rattle.histories.specs.Files.{rows_of}
use Rattle.byte_io.specs.Outcomes.{bytes_of}
use Rattle.histories.proofs.Put.{tell_insert}
use Rattle.histories.proofs.laws.an_inserted_file_is_an_import.Goals as goal

pub returns : goal.returns
returns c = λ kind label outcomes head t insert limits h represent legal.
    tell_insert limits h kind label outcomes head (rows_of kind (bytes_of outcomes)) t insert.was insert.is represent legal insert.head_is refl
