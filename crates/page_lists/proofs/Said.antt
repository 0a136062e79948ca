-- Rows that were read in form are the lines as which they are read.
use Rattle.std.proofs.Common.{◌≡◌, ◌<◌, ◌≤◌, ◌^◌, ℕ, suc, pos, negsuc, eqb, true, false, List, [], ◌∷◌, map, filter, drop, if◌then◌else◌, Bool, refl, sym, ap, ap₂, subst, ◌∙◌, arith}
use Rattle.std.specs.List.{AllZip}
use Rattle.std.proofs.lemmas.Bool.Decides.{nat_tests}
use Rattle.sqlite_schema.specs.declared.schema.Column.{Column}
use Rattle.sqlite_schema.specs.declared.schema.Table.{Table}
use Rattle.sqlite_value.specs.declared.value.Value.{Value}
use Rattle.sqlite_value.specs.declared.value.Value.TheVariants.{Null, Int, Real, Text, Blob}
use Rattle.sqlite_value.specs.Order.{Row, column}
use Rattle.prof_store.specs.Readings.{as_read, places_from, SaysBehind}
use Rattle.prof_store.specs.Tables.{number}
use Rattle.page_lists.specs.Walks.{AreOfRun, is_of, natural, run_in}

-- the columns of a row behind its first
behind_first : (far : ℕ → ℕ) (v : Value) (row : Row) (at : ℕ) (cs : List Column)
    → map (λ k. as_read far (column (v ∷ row) k)) (places_from (suc at) cs) ≡ map (λ k. as_read far (column row k)) (places_from at cs)
behind_first far v row at [] = refl
behind_first far v row at (c ∷ cs) = ap (λ l. as_read far (column row at) ∷ l) (behind_first far v row (suc at) cs)

-- columns that are in form are read as they are
abbrev pub ReadPlain : {L : Type 0} → (ℕ → ℕ) → Table → (L → Row) → Type 0
ReadPlain {L} far table columns = (l : L) → map (λ k. as_read far (column (columns l) k)) (places_from 0 table.columns) ≡ columns l

module _ {X : Type 0} (far : ℕ → ℕ) (table : Table) (columns : X → Row) (plain : ReadPlain far table columns) (filled : (x : X) → columns x ≡ [] → ⊥) where
  -- so a row of such columns says this line alone
  pub one_line : (r : Row) (x l : X) → SaysBehind far table columns r x → columns l ≡ drop 1 r → columns l ≡ columns x
  one_line [] x l says is = absurd (filled l is)
  one_line (v ∷ row) x l says is =
      sym (plain l) ∙ ap (λ (it : Row). map (λ k. as_read far (column it k)) (places_from 0 table.columns)) is
      ∙ sym (behind_first far v row 0 table.columns) ∙ ap (drop 1) says.1

-- rows that were read as lines are those that they say
module _ {L R : Type 0} (line : L → R) (columns : R → Row) (one : (a b : R) → columns a ≡ columns b → a ≡ b) (seen : Row → Row) (Said : Row → R → Type 0)
    (same : (r : Row) (x l : R) → Said r x → columns l ≡ seen r → columns l ≡ columns x) where
  pub read_as_said : (rows : List Row) (xs : List R) (lines : List L) → AllZip Said rows xs → map (λ l. columns (line l)) lines ≡ map seen rows → map line lines ≡ xs
  read_as_said [] [] [] all is = refl
  read_as_said [] [] (l ∷ lines) all is = absurd cc
  read_as_said [] (x ∷ xs) lines all is = absurd all
  read_as_said (r ∷ rows) [] lines all is = absurd all
  read_as_said (r ∷ rows) (x ∷ xs) [] all is = absurd cc
  read_as_said (r ∷ rows) (x ∷ xs) (l ∷ lines) all is =
      let here : columns (line l) ≡ seen r = cc in
      let later : map (λ l. columns (line l)) lines ≡ map seen rows = cc in
      ap₂ ◌∷◌ (one (line l) x (same r x (line l) all.0 here)) (read_as_said rows xs lines all.1 later)

-- ---- the lines of a run

-- a number that is not the run's is not read as it
other_number : (far : ℕ → ℕ) → ((n : ℕ) → 2 ^ 64 ≤ far n) → (v : Value) (m n : ℕ) → n < 2 ^ 64 → as_read far v ≡ number m → eqb (natural v) n ≡ false → eqb m n ≡ false
other_number far is_far Null m n low is other = absurd cc
other_number far is_far (Int (pos k)) m n low is other = let same : k ≡ m = cc in subst (λ i. eqb i n ≡ false) same other
other_number far is_far (Int (negsuc k)) m n low is other =
    let same : far k ≡ m = cc in
    let high : 2 ^ 64 ≤ m = subst (λ i. 2 ^ 64 ≤ i) same (is_far k) in
    grind (arith, nat_tests, high, low)
other_number far is_far (Real x) m n low is other = absurd cc
other_number far is_far (Text t) m n low is other = absurd cc
other_number far is_far (Blob b) m n low is other = absurd cc

pub second_is_first : (row : Row) → column row 1 ≡ column (drop 1 row) 0
second_is_first [] = refl
second_is_first (v ∷ row) = refl

module _ {X : Type 0} (far : ℕ → ℕ) (is_far : (n : ℕ) → 2 ^ 64 ≤ far n) (table : Table) (columns : X → Row) (run : X → ℕ) (plain : ReadPlain far table columns) (filled : (x : X) → columns x ≡ [] → ⊥)
    (one : (a b : X) → columns a ≡ columns b → a ≡ b) (first : (x : X) → column (columns x) 0 ≡ number (run x))
    (named : (r : Row) (x : X) → SaysBehind far table columns r x → as_read far (column r 1) ≡ number (run x)) (n : ℕ) (low : n < 2 ^ 64) where
  -- of the run is what was read as a line of it
  of_run : (r : Row) (x l : X) → SaysBehind far table columns r x → columns l ≡ drop 1 r → is_of n r ≡ true → (x ≡ l) × (eqb (run x) n ≡ true)
  of_run r x l says is of =
      let same : x ≡ l = one x l (sym (one_line far table columns plain filled r x l says is)) in
      let shown : run_in r ≡ run l = ap natural (second_is_first r ∙ ap (λ (row : Row). column row 0) (sym is) ∙ first l) in
      (same, ap (λ m. eqb m n) (ap run same ∙ sym shown) ∙ of)

  -- where its rows were read in form, the lines of a run are those that they say
  pub lines_are : (rows : List Row) (xs lines : List X) → AllZip (SaysBehind far table columns) rows xs → AreOfRun columns n rows lines → filter (λ x. eqb (run x) n) xs ≡ lines
  lines_are [] [] [] all are = refl
  lines_are [] [] (l ∷ lines) all are = absurd cc
  lines_are [] (x ∷ xs) lines all are = absurd all
  lines_are (r ∷ rows) [] lines all are = absurd all
  lines_are (r ∷ rows) (x ∷ xs) lines all are = go (is_of n r) refl lines are (λ given. lines_are rows xs given all.1)
    where
      go : (b : Bool) → is_of n r ≡ b → (given : List X) → map columns given ≡ map (drop 1) (if b then r ∷ filter (is_of n) rows else filter (is_of n) rows)
          → ((more : List X) → AreOfRun columns n rows more → filter (λ y. eqb (run y) n) xs ≡ more)
          → (if eqb (run x) n then x ∷ filter (λ y. eqb (run y) n) xs else filter (λ y. eqb (run y) n) xs) ≡ given
      go true of [] is later = absurd cc
      go true of (l ∷ given) is later =
          let here : columns l ≡ drop 1 r = cc in
          let others : map columns given ≡ map (drop 1) (filter (is_of n) rows) = cc in
          let this = of_run r x l all.0 here of in
          rw this.1 (ap₂ ◌∷◌ this.0 (later given others))
      go false of given is later =
          let other : eqb (run x) n ≡ false = other_number far is_far (column r 1) (run x) n low (named r x all.0) of in
          rw other (later given is)
