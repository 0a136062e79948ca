-- The first entry of an index that begins with a prefix.
use Rattle.std.specs.Prelude.{◌≡◌, ℕ, Bool, true, false, List, Result, MatchResult}
use Rattle.sqlite_pages.specs.declared.error.Error.{Error}
use Rattle.sqlite_pages.specs.declared.pages.Pages.{Ghosts}
use Rattle.sqlite_pages.specs.Calls.{IsClean, FailsFor}
use Rattle.sqlite_btree.specs.Chain.{Layout}
use Rattle.sqlite_btree.specs.Cut.{Each, IsIn}
use Rattle.sqlite_btree.specs.Stored.{IsIndex, IsLaidIn}
use Rattle.sqlite_record.specs.Record.{decode}
use Rattle.sqlite_store.specs.Db.{record_order}
use Rattle.sqlite_value.specs.declared.keys.Order.{Order}
use Rattle.sqlite_value.specs.Order.{Row}
use Rattle.page_files.specs.Removals.{has_prefix}

-- this record is one of those that begin so, or there is none
abbrev pub IsUnder : Order → Row → List (List ℕ) → List ℕ → Bool → Type 0
IsUnder order prefix records found true = IsIn found records × (has_prefix order prefix (decode found) ≡ true)
IsUnder order prefix records found false = Each (λ r. has_prefix order prefix (decode r) ≡ false) records

-- in the index with this root, such a record was found
abbrev pub FindsUnder : {P : Type 0} (g : Ghosts P) (old new : P) (root : ℕ) (order : Order) (prefix : Row) (found : List ℕ) → Result Bool Error → Type 0
FindsUnder g old new root order prefix found result =
    IsClean g new → (layout : Layout) (records : List (List ℕ)) → IsLaidIn layout (g.pages old) → IsIndex (record_order order) (g.size old) layout root records
    → MatchResult result (IsUnder order prefix records found) (FailsFor g old new ⊥)
