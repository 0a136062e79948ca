-- What a call does to a text that comes in pieces, to what takes its lines, and to the sink of what these hand on.
use Rattle.std.specs.Prelude.{◌≡◌, ℕ, ◌+◌, ◌≤◌, List, ◌++◌, fold, length, Result, OnOk, OnErr}
use Rattle.text_pieces.specs.Backwards.{back_of, end_of, handed_on, IsPrefix}
use Rattle.text_pieces.specs.Kept.{Keeps, taken_of, IsSpent}
use Rattle.text_pieces.specs.declared.pieces.Pieces.{Pieces}
use Rattle.text_pieces.specs.declared.takes.LineSink.{Ghosts}

-- the pieces, what takes their lines, and the sink, at one moment
pub record Moment (T S : Type 0) : Type 0 where
  pub pieces : Pieces
  pub state : T
  pub sink : S

abbrev pub at : {T S : Type 0} → Pieces → T → S → Moment T S
at pieces state sink = record { pieces = pieces; state = state; sink = sink }

module _ {T S : Type 0} (t : Ghosts T S) where
  -- a text was taken: its last line is kept, and the state represents the lines before
  pub record Took (m : Moment T S) (text : List ℕ) : Type 0 where
    pub keeps : Keeps m.pieces text
    pub represents : t.represents m.state (back_of t.reading_of text)

  -- so many more bytes may be taken
  pub record Ready (m : Moment T S) (count : ℕ) : Type 0 where
    pub room : taken_of m.pieces + count ≤ 1073741824
    pub lines : t.lines m.state ≤ taken_of m.pieces
    pub fits : t.fits m.state m.sink
    pub fresh : IsSpent m.pieces → ⊥

  -- the sink was told what the later lines add to the earlier ones
  pub record Told (old new : S) (earlier later : List t.Reading) : Type 0 where
    pub more : List t.Record
    pub adds : handed_on t.adds later ≡ handed_on t.adds earlier ++ more
    pub means : t.meaning new ≡ fold t.step (t.meaning old) more

  -- bytes were taken: they go on the text, the state represents its whole lines, and the sink was told what these add
  pub record Moves (old : Moment T S) (bytes : List ℕ) (new : Moment T S) : Type 0 where
    pub keeps : (text : List ℕ) → Keeps old.pieces text → Keeps new.pieces (text ++ bytes)
    pub represents : (text : List ℕ) → Took old text → t.represents new.state (back_of t.reading_of (text ++ bytes))
    pub told : (text : List ℕ) → Took old text → Told old.sink new.sink (back_of t.reading_of text) (back_of t.reading_of (text ++ bytes))
    pub taken : taken_of new.pieces ≡ taken_of old.pieces + length bytes
    pub lines : t.lines new.state ≤ taken_of new.pieces
    pub fits : t.fits new.state new.sink
    pub fresh : IsSpent new.pieces → ⊥

  -- the next line was refused, and the sink means what it meant
  pub record Refused (old new : Moment T S) : Type 0 where
    pub untouched : t.meaning new.sink ≡ t.meaning old.sink
    pub lines : t.lines new.state ≤ taken_of new.pieces

  -- a line of the bytes was refused: the sink was told what comes first among what all lines add
  pub record ToldPart (old new : S) (earlier all : List t.Reading) : Type 0 where
    pub more : List t.Record
    pub first : IsPrefix (handed_on t.adds earlier ++ more) (handed_on t.adds all)
    pub means : t.meaning new ≡ fold t.step (t.meaning old) more

  pub record Stops (old : Moment T S) (bytes : List ℕ) (new : Moment T S) : Type 0 where
    pub told : (text : List ℕ) → Took old text → ToldPart old.sink new.sink (back_of t.reading_of text) (end_of t.reading_of (text ++ bytes))
    pub lines : t.lines new.state ≤ taken_of new.pieces

  -- a line's bytes are taken, or it is refused
  pub record TakesLine {X E : Type 0} (result : Result X E) (old : Moment T S) (bytes : List ℕ) (new : Moment T S) : Type 0 where
    pub done : OnOk result (Moves old bytes new)
    pub refused : OnErr result (Refused old new)

  -- bytes are taken, or a line of them is refused
  pub record TakesBytes {X E : Type 0} (result : Result X E) (old : Moment T S) (bytes : List ℕ) (new : Moment T S) : Type 0 where
    pub done : OnOk result (Moves old bytes new)
    pub stopped : OnErr result (Stops old bytes new)

  -- the text has ended: the state represents all its lines, and the sink was told what the last adds
  pub record Ends (old : Moment T S) (state : T) (sink : S) : Type 0 where
    pub represents : (text : List ℕ) → Took old text → t.represents state (end_of t.reading_of text)
    pub told : (text : List ℕ) → Took old text → Told old.sink sink (back_of t.reading_of text) (end_of t.reading_of text)
