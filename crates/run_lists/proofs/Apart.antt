-- Each name is under one number.
use Rattle.std.proofs.Common.{◌≡◌, ℕ, List, [], ◌∷◌, Bool, true, false, ◌==◌, ◌||◌, inl, inr, refl, sym, ◌∙◌, arith, if◌then◌else◌}
use Rattle.std.proofs.lemmas.Bool.Decides.{nat_tests}
use Rattle.std.specs.List.{list_any}
use Rattle.sqlite_catalog.specs.Listing.{IsSound}
use Rattle.sqlite_trees.specs.Tree.{Trees}
use Rattle.sqlite_rules.specs.Lists.{Has}
use Rattle.plain_tables.specs.Tables.{Tables, NameRow}
use Rattle.prof_store.specs.Schema.{schema_two}
use Rattle.prof_store.specs.Names.{SayNames}
use Rattle.prof_store.proofs.Names.{same_number}
use Rattle.run_stores.specs.Book.{name_of, IsHeld}
use Rattle.run_stores.specs.Names.{AreApart}

-- a number that is held is that of a line, whose name it has
line_of : (names : List NameRow) (n : ℕ) → IsHeld names n → (line : NameRow) × Has names line × (line.number ≡ n) × (name_of names n ≡ line.name)
line_of [] n held = cc
line_of (line ∷ lines) n held = go (line.number == n) refl held (line_of lines n)
  where
    go : (b : Bool) → (line.number == n) ≡ b → (b || list_any (λ (l : NameRow). l.number == n) lines) ≡ true
        → (IsHeld lines n → (later : NameRow) × Has lines later × (later.number ≡ n) × (name_of lines n ≡ later.name))
        → (found : NameRow) × Has (line ∷ lines) found × (found.number ≡ n) × ((if b then line.name else name_of lines n) ≡ found.name)
    go true is h more = (line, inl refl, grind (arith, nat_tests), refl)
    go false is h more = let found = more h in (found.0, inr found.1, found.2, found.3)

-- names that rows of a sound database say, whatever stands in its other tables
pub apart_named : (t : Tables) (db : Trees) → IsSound schema_two db → SayNames (db 11) t.names → AreApart t.names
apart_named t db sound are n m held other same =
    let a = line_of t.names n held in
    let b = line_of t.names m other in
    sym a.2 ∙ same_number t db sound are a.0 b.0 a.1 b.1 (sym a.3 ∙ same ∙ b.3) ∙ b.2
