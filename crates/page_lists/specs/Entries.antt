-- When the tables of a file are ours, as the entries of sqlite_schema tell it: a rowid, then type, name, table, root page and SQL text.
use Rattle.std.specs.Prelude.{◌≡◌, ◌⊎◌, ℕ, ◌+◌, ◌-◌, ◌^◌, min, Bool, true, false, ◌&&◌, ◌||◌, codes, if◌then◌else◌, List, count_by, Option, None, Some, is_some, IfSome}
use Rattle.std.specs.List.{AllByRecursion, list_any, position_from}
use Rattle.sqlite_disk.specs.declared.Disk.{Ghosts}
use Rattle.sqlite_trees.specs.Sound.{is_text, is_word}
use Rattle.sqlite_value.specs.declared.value.Value.{Value}
use Rattle.sqlite_value.specs.declared.value.Value.TheVariants.{Text}
use Rattle.sqlite_value.specs.Order.{Row, column}
use Rattle.page_files.specs.declared.files.PageFile.{PageFile}
use Rattle.page_files.specs.Files.{page_size, pages_of}
use Rattle.page_rows.specs.Rows.{HasTable, rows_of}
use Rattle.page_lists.specs.Alike.{MakeAlike}
use Rattle.page_lists.specs.Texts.{our_text, table_names}
use Rattle.page_lists.specs.declared.texts.Found.{Found}
use Rattle.page_lists.specs.declared.texts.Found.TheVariants.{Ours, OursWithMore, Others}

-- the place of our table with this name
unfoldable pub place_named : Value → Option ℕ
place_named name = position_from (λ word. is_word word name) 0 table_names

-- the place of our table whose entry in sqlite_schema this is, by its type and its name
abbrev pub place_in_schema : Row → Option ℕ
place_in_schema entry = if is_word (codes "table") (column entry 1) then place_named (column entry 2) else None

-- the entry has our text of the table at this place, or one that makes a table alike
abbrev pub IsMadeAs : ℕ → Row → Type 0
IsMadeAs at entry = (text : List ℕ) × (column entry 5 ≡ Text text) × ((text ≡ our_text at) ⊎ MakeAlike text (our_text at))

-- the entry of a table of ours is made as ours
abbrev pub IsOurs : Row → Type 0
IsOurs entry = IfSome (place_in_schema entry) (λ at. IsMadeAs at entry)

-- how many entries are those of tables of ours
abbrev pub count_of_ours : List Row → ℕ
count_of_ours entries = count_by (λ entry. is_some (place_in_schema entry)) entries

-- each entry of a table of ours is made as ours, and there are as many as we have tables
pub record AreOurs (entries : List Row) : Type 0 where
  pub each : AllByRecursion IsOurs entries
  pub count : count_of_ours entries ≡ 11

-- the entry is of a trigger, or of an index with a text of its own, on a table of ours
abbrev pub is_added : Row → Bool
is_added entry =
    (is_word (codes "trigger") (column entry 1) || (is_word (codes "index") (column entry 1) && is_text (column entry 5)))
    && is_some (place_named (column entry 3))

-- nothing else stands on them
abbrev pub AreAlone : List Row → Type 0
AreAlone entries = list_any is_added entries ≡ false

-- what was found of the entries is so: of others nothing is said
abbrev pub IsFoundOf : List Row → Found → Type 0
IsFoundOf entries Ours = AreOurs entries × AreAlone entries
IsFoundOf entries OursWithMore = AreOurs entries
IsFoundOf entries Others = Unit {0}

-- the entry at this place, if it is of a table of ours, is made as ours and counted
abbrev pub IsCounted : Option ℕ → Row → ℕ → ℕ → Type 0
IsCounted None entry before after = after ≡ before
IsCounted (Some at) entry before after = IsMadeAs at entry × (after ≡ min (before + 1) (2 ^ 64 - 1))

-- of the entries that were taken those of tables of ours are made as ours, so many were counted, and more may stand on them
pub record AreCounted (entries : List Row) (ours : ℕ) (has_more : Bool) : Type 0 where
  pub each : AllByRecursion IsOurs entries
  pub count : ours ≡ min (count_of_ours entries) (2 ^ 64 - 1)
  pub more : has_more ≡ list_any is_added entries

-- the tables are ours, and nothing else stands on them where that is said
pub record AreOpened (entries : List Row) (is_alone : Bool) : Type 0 where
  pub ours : AreOurs entries
  pub alone : is_alone ≡ true → AreAlone entries

module _ {D : Type 0} {g : Ghosts D} where
  -- the pages of the file hold sqlite_schema
  abbrev pub HasSchema : PageFile D g → Type 0
  HasSchema file = HasTable (page_size file) (pages_of file) 1

  -- its entries
  abbrev pub entries_in : PageFile D g → List Row
  entries_in file = rows_of (page_size file) (pages_of file) 1
