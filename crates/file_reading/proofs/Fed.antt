-- What readers make of a piece and of the end, by the kind of the file.
use Rattle.std.proofs.Common.{◌≡◌, ℕ, ◌+◌, List, ◌++◌, length, fold, Result, Ok, Err, OnOk, sym, ap, subst, ◌∙◌, arith}
use Rattle.std.proofs.lemmas.Grind.{fold-append}
use Rattle.std.proofs.lemmas.List.{length-append}
use Rattle.std.specs.declared.alloc.AllocError.{AllocError}
use Rattle.cg_text.specs.declared.faults.ReadEnd.{ReadEnd}
use Rattle.cg_text.specs.declared.faults.ReadEnd.TheVariants as ends
use Rattle.cg_formulas.specs.declared.heads.FileHead.{FileHead}
use Rattle.text_pieces.specs.Readers.{GoesOn, HandsAll, HandsPart}
use Rattle.callgrind_reader.specs.Files as callgrind
use Rattle.callgrind_reader.specs.Reads as records
use Rattle.profile_records.specs.Records.{Record}
use Rattle.callgrind_reader.specs.declared.reader.Reader.{Reader}
use Rattle.folded_reader.specs.Files as folded
use Rattle.profile_records.specs.Stacks.{Seen}
use Rattle.folded_reader.specs.Reads as stacks
use Rattle.folded_reader.specs.declared.reader.FoldedReader.{FoldedReader}
use Rattle.cost_rows.specs.Content.{Content, empty, with_record, with_stack}
use Rattle.cost_rows.specs.Rows.{content_of, known_of}
use Rattle.histories.specs.Files.{content_of_text, content_of_folded}
use Rattle.cost_rows.specs.declared.file_rows.FileRows.{FileRows}
use Rattle.profile_records.specs.declared.kinds.Kind.{Kind}
use Rattle.profile_records.specs.declared.kinds.Kind.TheVariants as kinds
use Rattle.file_reading.specs.FileParsers.{ReadsRecords, ReadsStacks, Stands, HasEndedAs}
use Rattle.file_reading.specs.declared.parser.FileReader.{FileReader}
use Rattle.file_reading.specs.declared.parser.FileReader.TheVariants as readers

-- the fold goes on where it stood
folded_on : {X : Type 0} (step : Content → X → Content) (told more : List X) (before after : Content) → before ≡ fold step empty told → after ≡ fold step before more → after ≡ fold step empty (told ++ more)
folded_on step told more before after was is = is ∙ ap (λ m. fold step m more) was ∙ sym (fold-append step empty told more)

less_room : (now before : ℕ) (piece bytes : List ℕ) → now + length piece ≡ before → before + length bytes ≡ 1073741824 → now + length (bytes ++ piece) ≡ 1073741824
less_room now before piece bytes e h = let joined = length-append bytes piece in omega (arith, joined)

module _ (r r' : Reader) (rows rows' : FileRows) (self : FileReader) (is : self ≡ readers.Callgrind r) where
  pub fed_records : (piece : List ℕ) (result : Result Unit AllocError)
      → OnOk result (GoesOn records.Reads with_record r (content_of rows) piece r' (content_of rows')) → OnOk result (records.StaysOpen r (length piece) r' rows'.last rows'.width (known_of rows'))
      → OnOk result ((kind : Kind) (bytes : List ℕ) → Stands self rows kind bytes → Stands (readers.Callgrind r') rows' kind (bytes ++ piece))
  fed_records piece (Ok x) reads stays = λ kind bytes s. go kind bytes (subst (λ f. Stands f rows kind bytes) is s)
    where
      go : (kind : Kind) (bytes : List ℕ) → Stands (readers.Callgrind r) rows kind bytes → Stands (readers.Callgrind r') rows' kind (bytes ++ piece)
      go kinds.Callgrind bytes s = let on = reads bytes s.told s.reads in record {
        told = s.told ++ on.0;
        reads = on.1;
        rows_are = folded_on with_record s.told on.0 (content_of rows) (content_of rows') s.rows_are on.2;
        takes = stays.takes;
        room = less_room (records.room_of r') (records.room_of r) piece bytes stays.room s.room;
      }
      go kinds.Folded bytes s = absurd s
  fed_records piece (Err e) reads stays = tt

module _ (r : Reader) (rows rows' : FileRows) (self : FileReader) (is : self ≡ readers.Callgrind r) where
  at_end : (bytes : List ℕ) (s : ReadsRecords r rows bytes) → HandsAll callgrind.records_of_file with_record bytes s.told (content_of rows) (content_of rows') → content_of rows' ≡ content_of_text bytes
  at_end bytes s on = folded_on with_record s.told on.0 (content_of rows) (content_of rows') s.rows_are on.2 ∙ ap (fold with_record empty) (sym on.1)

  pub ended_records : (result : Result FileHead ReadEnd)
      → ((text : List ℕ) (told : List Record) → records.Reads r text told → records.Ended result text)
      → ((text : List ℕ) (told : List Record) → records.Reads r text told → records.MatchMemory result (HandsAll callgrind.records_of_file with_record text told (content_of rows) (content_of rows')) (HandsPart callgrind.records_of_file with_record text told (content_of rows) (content_of rows')))
      → (kind : Kind) (bytes : List ℕ) → Stands self rows kind bytes → HasEndedAs kind bytes result rows'
  ended_records result ended told kind bytes s = go result ended told kind (subst (λ f. Stands f rows kind bytes) is s)
    where
      go : (result : Result FileHead ReadEnd)
          → ((text : List ℕ) (told : List Record) → records.Reads r text told → records.Ended result text)
          → ((text : List ℕ) (told : List Record) → records.Reads r text told → records.MatchMemory result (HandsAll callgrind.records_of_file with_record text told (content_of rows) (content_of rows')) (HandsPart callgrind.records_of_file with_record text told (content_of rows) (content_of rows')))
          → (kind : Kind) → Stands (readers.Callgrind r) rows kind bytes → HasEndedAs kind bytes result rows'
      go (Ok head) ended told kinds.Callgrind s = let at = ended bytes s.told s.reads in (at.0, at.1, at_end bytes s (told bytes s.told s.reads))
      go (Err (ends.Fault fault line)) ended told kinds.Callgrind s = ended bytes s.told s.reads
      go (Err ends.Memory) ended told kinds.Callgrind s = tt
      go result ended told kinds.Folded s = absurd s

module _ (r r' : FoldedReader) (rows rows' : FileRows) (self : FileReader) (is : self ≡ readers.Folded r) where
  pub fed_stacks : (piece : List ℕ) (result : Result Unit AllocError)
      → OnOk result (GoesOn stacks.Reads with_stack r (content_of rows) piece r' (content_of rows')) → OnOk result (stacks.StaysOpen r (length piece) r' rows'.last)
      → OnOk result ((kind : Kind) (bytes : List ℕ) → Stands self rows kind bytes → Stands (readers.Folded r') rows' kind (bytes ++ piece))
  fed_stacks piece (Ok x) reads stays = λ kind bytes s. go kind bytes (subst (λ f. Stands f rows kind bytes) is s)
    where
      go : (kind : Kind) (bytes : List ℕ) → Stands (readers.Folded r) rows kind bytes → Stands (readers.Folded r') rows' kind (bytes ++ piece)
      go kinds.Folded bytes s = let on = reads bytes s.told s.reads in record {
        told = s.told ++ on.0;
        reads = on.1;
        rows_are = folded_on with_stack s.told on.0 (content_of rows) (content_of rows') s.rows_are on.2;
        takes = stays.takes;
        room = less_room (stacks.room_of r') (stacks.room_of r) piece bytes stays.room s.room;
      }
      go kinds.Callgrind bytes s = absurd s
  fed_stacks piece (Err e) reads stays = tt

module _ (r : FoldedReader) (rows rows' : FileRows) (self : FileReader) (is : self ≡ readers.Folded r) where
  at_last : (bytes : List ℕ) (s : ReadsStacks r rows bytes) → HandsAll folded.stacks_of_file with_stack bytes s.told (content_of rows) (content_of rows') → content_of rows' ≡ content_of_folded bytes
  at_last bytes s on = folded_on with_stack s.told on.0 (content_of rows) (content_of rows') s.rows_are on.2 ∙ ap (fold with_stack empty) (sym on.1)

  pub ended_stacks : (result : Result FileHead ReadEnd)
      → ((text : List ℕ) (told : List Seen) → stacks.Reads r text told → stacks.Ended result text)
      → ((text : List ℕ) (told : List Seen) → stacks.Reads r text told → stacks.MatchMemory result (HandsAll folded.stacks_of_file with_stack text told (content_of rows) (content_of rows')) (HandsPart folded.stacks_of_file with_stack text told (content_of rows) (content_of rows')))
      → (kind : Kind) (bytes : List ℕ) → Stands self rows kind bytes → HasEndedAs kind bytes result rows'
  ended_stacks result ended told kind bytes s = go result ended told kind (subst (λ f. Stands f rows kind bytes) is s)
    where
      go : (result : Result FileHead ReadEnd)
          → ((text : List ℕ) (told : List Seen) → stacks.Reads r text told → stacks.Ended result text)
          → ((text : List ℕ) (told : List Seen) → stacks.Reads r text told → stacks.MatchMemory result (HandsAll folded.stacks_of_file with_stack text told (content_of rows) (content_of rows')) (HandsPart folded.stacks_of_file with_stack text told (content_of rows) (content_of rows')))
          → (kind : Kind) → Stands (readers.Folded r) rows kind bytes → HasEndedAs kind bytes result rows'
      go (Ok head) ended told kinds.Folded s = let at = ended bytes s.told s.reads in (at.0, at.1, at_last bytes s (told bytes s.told s.reads))
      go (Err (ends.Fault fault line)) ended told kinds.Folded s = ended bytes s.told s.reads
      go (Err ends.Memory) ended told kinds.Folded s = tt
      go result ended told kinds.Callgrind s = absurd s
