-- The tables and indexes of a store, under their roots.
use Rattle.std.proofs.Common.{◌≡◌, ℕ, ◌+◌, ◌<◌, List, map, length, set, get_or, slice_get, slice_index, option_map, Some, sym, ap, ◌∙◌, arith, below_more, get_or-set_other, get_or-set_same, Bor}
use Rattle.std.proofs.Math.ListN.{get_or-map}
use Rattle.std.proofs.lemmas.Option.{get_or_from_slice_get, slice_get-map}
use Rattle.sqlite_disk.specs.declared.Disk.{Ghosts}
use Rattle.sqlite_pages.specs.PageMap.{PageMap}
use Rattle.sqlite_store.specs.declared.catalog.Wanted.{Wanted}
use Rattle.sqlite_trees.specs.Tree.{Trees}
use Rattle.page_files.specs.declared.files.PageFile.{PageFile}
use Rattle.page_files.specs.Files.{OnlyReads}
use Rattle.page_files.specs.Held.{Rests}
use Rattle.page_files.proofs.Standing.{shows_resting, stands_after, stands_resting}
use Rattle.sqlite_catalog.specs.Listing.{IsSound}
use Rattle.prof_store.specs.Schema.{schema_two}
use Rattle.page_places.specs.Roots.{AreFound, AreNames, IsStoreOf}

module _ {D : Type 0} {g : Ghosts D} where
  -- a file that rests on a sound database is one
  pub store_resting : (file : PageFile D g) (db : Trees) (known : List ℕ) (wanted : List Wanted) → Rests wanted known db file → IsSound schema_two db → IsStoreOf file db known
  store_resting file db known wanted rests sound = record { wanted = wanted; stands = stands_resting file rests; no_zero = (shows_resting file rests).no_zero; sound = sound }

  -- calls that read leave the store
  pub store_after : (old new : PageFile D g) (db : Trees) (known : List ℕ) → OnlyReads old new → IsStoreOf old db known → IsStoreOf new db known
  store_after old new db known reads is =
      record { wanted = is.wanted; stands = stands_after old new reads is.stands; no_zero = ap (λ (p : PageMap). p 0) reads.pages ∙ is.no_zero; sound = is.sound }

-- one more is found
pub one_found : {X : Type 0} (items : List X) (tree : X → ℕ) (known roots : List ℕ) (at root : ℕ) → at < length roots → AreFound items tree known roots at → ((x : X) → slice_get items at ≡ Some x → root ≡ slice_index known (tree x))
    → AreFound items tree known (set roots at root) (at + 1)
one_found items tree known roots at root low found here = record {
  is = below_more _ at
      (λ k before x there. get_or-set_other roots at k root 0 (omega (arith, before)) ∙ found.is k before x there)
      (λ x there. get_or-set_same roots at root 0 low ∙ here x there);
}

-- the name of the table or index at a place
pub name_there : {X : Type 0} (items : List X) (name : X → List ℕ) (names : List (Bor (List ℕ))) (at : ℕ) (other : Bor (List ℕ)) → AreNames items name names → (x : X) → slice_get items at ≡ Some x → name x ≡ (get_or names at other).now
name_there items name names at other are x there =
    sym (get_or_from_slice_get (map name items) at (name x) other.now (slice_get-map name items at ∙ ap (option_map name) there))
    ∙ ap (λ list. get_or list at other.now) (sym are) ∙ get_or-map (λ (it : Bor (List ℕ)). it.now) names at other
