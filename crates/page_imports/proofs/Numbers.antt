-- The numbers of names, as rowids.
use Rattle.std.proofs.Common.{◌≡◌, ℕ, suc, Bool, true, false, ◌||◌, if◌then◌else◌, bytes_eq, pos, List, [], ◌∷◌, ◌++◌, ap, refl, ◌∙◌}
use Rattle.std.specs.List.{list_any}
use Rattle.std.proofs.lemmas.List.Sums.{fold-append}
use Rattle.std.proofs.lemmas.Slice.Eq.{bytes_eq-Decides}
use Rattle.sqlite_rules.specs.Edit.{next_rowid}
use Rattle.sqlite_trees.specs.Tree.{Trees}
use Rattle.plain_tables.specs.Changes.{has_name, next_name, with_new_name}
use Rattle.plain_tables.specs.Files.{number_in}
use Rattle.plain_tables.specs.Tables.{Tables, NameRow}
use Rattle.sql_tables.proofs.Contents.{content_there}
use Rattle.prof_store.specs.Schema.{schema_two, name_at}
use Rattle.prof_store.specs.Tables.{Holds, contents_of}
use Rattle.prof_store.proofs.Rows.{next_is}

module _ (t : Tables) (now : Trees) (holds : Holds t now) where
  -- the next rowid is the number of the next name
  pub next_rowid_is : next_rowid (now 11) ≡ pos (next_name t.names)
  next_rowid_is = ap next_rowid (content_there schema_two.tables (contents_of t) now 5 name_at refl holds.contain.contents_are).rows_are ∙ next_is t.names 1

-- the last of these lines is the first of its name
last_number : (lines : List NameRow) (line : NameRow) → list_any (λ (l : NameRow). bytes_eq l.name line.name) lines ≡ false → number_in (lines ++ line ∷ []) line.name ≡ line.number
last_number [] line none = ap (λ b. if b then line.number else 0) ((bytes_eq-Decides line.name line.name).1 refl)
last_number (first ∷ lines) line none = step (bytes_eq first.name line.name) none (last_number lines line)
  where
    step : (b : Bool) → (b || list_any (λ (l : NameRow). bytes_eq l.name line.name) lines) ≡ false → (list_any (λ (l : NameRow). bytes_eq l.name line.name) lines ≡ false → number_in (lines ++ line ∷ []) line.name ≡ line.number)
        → (if b then first.number else number_in (lines ++ line ∷ []) line.name) ≡ line.number
    step true h more = absurd cc
    step false h more = more h

-- a new name gets the next number
pub new_number : (t : Tables) (name : List ℕ) → has_name t name ≡ false → number_in (with_new_name name t).names name ≡ next_name t.names
new_number t name none = last_number t.names (record { number = next_name t.names; name = name }) none

-- and the next one the number above that
pub new_next : (t : Tables) (name : List ℕ) → next_name (with_new_name name t).names ≡ suc (next_name t.names)
new_next t name = fold-append (λ _ (line : NameRow). suc line.number) 1 t.names (record { number = next_name t.names; name = name } ∷ [])
