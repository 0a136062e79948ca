-- The keys in the entries of an index, as they are compared.
use Rattle.std.proofs.Common.{◌≡◌, ◌<◌, ◌+◌, ◌++◌, ℕ, List, [], ◌∷◌, map, take, length, get_or, IsPermutation, Vec, Global, Result, Ok, Err, IfOk, IsOkAnd, refl, sym, ap, ap₂, subst, ◌∙◌}
use Rattle.std.proofs.lemmas.List.{map_push, take_more}
use Rattle.std.specs.declared.alloc.AllocError.{AllocError}
use Rattle.sqlite_disk.specs.declared.Disk.{Ghosts}
use Rattle.sqlite_trees.specs.Tree.{Trees}
use Rattle.sqlite_value.specs.declared.keys.Order.{Order}
use Rattle.sqlite_value.specs.declared.value.Value.{Value}
use Rattle.sqlite_value.specs.Order.{Row}
use Rattle.page_rows.specs.Indexes.{from_entry}
use Rattle.page_files.specs.declared.files.PageFile.{PageFile}
use Rattle.page_files.specs.Files.{OnlyReads}
use Rattle.page_files.proofs.Reading.{index_after, trees_after}
use Rattle.page_places.specs.declared.roots.StoreRoots.{StoreRoots}
use Rattle.run_lists.specs.declared.listed.RunLists.{RunLists}
use Rattle.page_lists.specs.Indexed.{key_of, AreDerivedIndexed, AreEventsIndexed, AreGroupsIndexed, AreIndexed, HasKeys}

-- an entry with no column is above none
pub all_from_none : (order : Order) (entries : List Row) → from_entry order [] entries ≡ entries
all_from_none order [] = refl
all_from_none order ([] ∷ entries) = refl
all_from_none order ((value ∷ entry) ∷ entries) = refl

pub key_is : (key : Row) (rowid : Value) → key_of (key ++ rowid ∷ []) ≡ key
key_is [] rowid = refl
key_is (value ∷ []) rowid = refl
key_is (value ∷ next ∷ key) rowid = ap (λ row. value ∷ row) (key_is (next ∷ key) rowid)

-- an entry more has the next key
pub next_key : (keys entries : List Row) (at : ℕ) (key entry : Row) → at < length keys → key ≡ get_or keys at key → key_of entry ≡ key → map key_of entries ≡ take at keys
    → map key_of (entries ++ entry ∷ []) ≡ take (at + 1) keys
next_key keys entries at key entry low there is was =
    map_push key_of entries entry ∙ ap₂ (λ front k. front ++ k ∷ []) was is ∙ sym (take_more keys at key low ∙ ap (λ k. take at keys ++ k ∷ []) (sym there))

-- an index has the keys of these rows, where it has those that were made of them
pub keys_of_made : {D : Type 0} {g : Ghosts D} {K : Type 0} {made_of rows : List Row} (file : PageFile D g) (root : ℕ) (columns : K → Row) (made : Result (Vec K Global) AllocError)
    → IsOkAnd made (λ keys. HasKeys file root (map columns keys.items)) → IfOk made (λ keys. map columns keys.items ≡ made_of) → made_of ≡ rows → HasKeys file root rows
keys_of_made file root columns (Ok keys) has are same = subst (HasKeys file root) (are ∙ same) has
keys_of_made file root columns (Err end) has are same = absurd has

-- files of which the second was only read from the first: what an index has there it has here
module _ {D : Type 0} {g : Ghosts D} (old new : PageFile D g) (reads : OnlyReads old new) where
  pub keys_before : {root : ℕ} {keys : List Row} → HasKeys new root keys → HasKeys old root keys
  keys_before {root} {keys} has = λ wanted t shows.
      subst (λ (trees : Trees). IsPermutation keys (map key_of (trees t))) (trees_after old new reads wanted) (has wanted t (index_after old new reads shows))

  pub events_before : {roots : StoreRoots} {lists : RunLists} → AreEventsIndexed roots lists new → AreEventsIndexed roots lists old
  events_before is = record { digests = keys_before is.digests; places = keys_before is.places; names = keys_before is.names }

  pub derived_before : {roots : StoreRoots} {lists : RunLists} → AreDerivedIndexed roots lists new → AreDerivedIndexed roots lists old
  derived_before is = record { places = keys_before is.places; names = keys_before is.names; coefs = keys_before is.coefs }

  pub groups_before : {roots : StoreRoots} {lists : RunLists} → AreGroupsIndexed roots lists new → AreGroupsIndexed roots lists old
  groups_before is = record { names = keys_before is.names; members = keys_before is.members }

  pub indexed_before : {roots : StoreRoots} {lists : RunLists} → AreIndexed roots lists new → AreIndexed roots lists old
  indexed_before is = record {
    events = events_before is.events;
    derived = derived_before is.derived;
    groups = groups_before is.groups;
  }
