-- What takes the bytes of a file, and what a call does to it.
use Rattle.std.specs.Prelude.{ℕ, ◌+◌, ◌≤◌, List, ◌++◌, length}

module _ {T Form : Type 0} (has_taken : T → Form → List ℕ → Type 0) where
  -- so many more bytes are still taken: a file has 2^30 at most
  abbrev pub HasRoom : T → ℕ → Type 0
  HasRoom t count = (form : Form) × (bytes : List ℕ) × has_taken t form bytes × (length bytes + count ≤ 1073741824)

  -- more bytes were taken, of whatever file it has taken bytes of
  abbrev pub Takes : T → List ℕ → T → Type 0
  Takes old more new = (form : Form) (bytes : List ℕ) → has_taken old form bytes → has_taken new form (bytes ++ more)
