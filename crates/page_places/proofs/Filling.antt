-- A row's entries are edited in one index after another.
use Rattle.std.proofs.Common.{◌≡◌, ℕ, ◌+◌, ◌<◌, suc, List, [], ◌∷◌, ◌++◌, length, drop, get_or, refl, sym, ap, subst, ◌∙◌, inl, arith, append_assoc, append-nil, drop-cons}
use Rattle.std.proofs.lemmas.Grind.{fold-append}
use Rattle.std.proofs.lemmas.List.{drop_all}
use Rattle.sqlite_disk.specs.declared.Disk.{Ghosts}
use Rattle.sqlite_pool.specs.Pool.{state}
use Rattle.sqlite_pool.specs.Stored.{Keeps}
use Rattle.sqlite_rules.specs.Lists.{Has}
use Rattle.sqlite_rules.proofs.ListLemmas.{all_has, has_right}
use Rattle.sqlite_schema.specs.declared.schema.Index.{Index}
use Rattle.sqlite_sql.specs.Catalog.{entry_of}
use Rattle.sqlite_store.specs.declared.catalog.Wanted.{Wanted}
use Rattle.sqlite_trees.specs.Tree.{Trees, with_tree}
use Rattle.sqlite_trees.specs.View.{IsStorable}
use Rattle.sqlite_value.specs.Keys.{plain}
use Rattle.sqlite_value.specs.Order.{Row}
use Rattle.page_files.specs.declared.files.PageFile.{PageFile}
use Rattle.page_files.specs.Files.{IsFaithful, IsUsable}
use Rattle.page_files.specs.Held.{Writes}
use Rattle.page_files.specs.Writes.{FailsToWrite}
use Rattle.page_files.proofs.Causes.{fails_later}
use Rattle.page_places.specs.declared.errors.RowError.{RowError}
use Rattle.page_places.specs.declared.errors.RowError.TheVariants.{Pages, Unstorable, NoRowid}
use Rattle.page_places.specs.declared.places.IndexPlace.{IndexPlace}
use Rattle.page_places.specs.Causes.{FailsToChange, IsRefused}
use Rattle.page_places.specs.Changes.{AreStorable}
use Rattle.page_places.specs.Entries.{EntryEdit, with_entry, with_entries}
use Rattle.page_places.specs.Places.{AreIndexPlaces, IsIndexPlace}

-- the first of the places that are left is that of the first index that is left
pub first_place : (wanted : List Wanted) (roots : List ℕ) (place : IndexPlace) (places : List IndexPlace) (indexes : List Index) → AreIndexPlaces wanted roots (place ∷ places) indexes
    → (i : Index) × (rest : List Index) × (indexes ≡ i ∷ rest) × IsIndexPlace wanted roots place i × AreIndexPlaces wanted roots places rest
first_place wanted roots place places [] h = absurd h
first_place wanted roots place places (i ∷ rest) h = (i, rest, refl, h.0, h.1)

pub none_left : (wanted : List Wanted) (roots : List ℕ) (indexes : List Index) → AreIndexPlaces wanted roots [] indexes → indexes ≡ []
none_left wanted roots [] h = refl
none_left wanted roots (i ∷ rest) h = absurd h

module _ {D : Type 0} {g : Ghosts D} where
  -- the entries are edited in the indexes of the first k places
  pub record IsPart (wanted : List Wanted) (roots : List ℕ) (was now : Trees) (places : List IndexPlace) (indexes : List Index) (edit : EntryEdit) (row : Row) (k : ℕ) (file : PageFile D g) : Type 0 where
    pub done : List Index
    pub left : List Index
    pub split : indexes ≡ done ++ left
    pub places_left : AreIndexPlaces wanted roots (drop k places) left
    pub writes : Writes wanted roots was (with_entries edit row now done) file

  -- how far a loop has come that began with the file `old`
  pub record HasEdited (old file : PageFile D g) (places : List IndexPlace) (edit : EntryEdit) (row : Row) (k : ℕ) : Type 0 where
    pub keeps : Keeps (state old.pool) (state file.pool)
    pub usable : IsUsable old → IsUsable file
    pub part : IsFaithful file → (wanted : List Wanted) (roots : List ℕ) (was now : Trees) (indexes : List Index) → Writes wanted roots was now old → AreIndexPlaces wanted roots places indexes
        → IsPart wanted roots was now places indexes edit row k file

  pub none_edited : (file : PageFile D g) (places : List IndexPlace) (edit : EntryEdit) (row : Row) → Keeps (state file.pool) (state file.pool) → HasEdited file file places edit row 0
  none_edited file places edit row k = record {
    keeps = k;
    usable = λ ready. ready;
    part = λ faithful wanted roots was now indexes w all. record { done = []; left = indexes; split = refl; places_left = all; writes = w };
  }

  module _ (wanted : List Wanted) (roots : List ℕ) (was now : Trees) (places : List IndexPlace) (indexes : List Index) (edit : EntryEdit) (row : Row) (k : ℕ) (file : PageFile D g) (part : IsPart wanted roots was now places indexes edit row k file) where
    pub all_edited : length places ≡ k → Writes wanted roots was (with_entries edit row now indexes) file
    all_edited is =
        let none = none_left wanted roots part.left (subst (λ l. AreIndexPlaces wanted roots l part.left) (drop_all k places (omega arith)) part.places_left) in
        let all : indexes ≡ part.done = part.split ∙ ap (λ l. part.done ++ l) none ∙ append-nil part.done in
        subst (λ l. Writes wanted roots was (with_entries edit row now l) file) (sym all) part.writes

    next_place : (d : IndexPlace) → k < length places → (i : Index) × (rest : List Index) × (part.left ≡ i ∷ rest) × IsIndexPlace wanted roots (get_or places k d) i × AreIndexPlaces wanted roots (drop (suc k) places) rest
    next_place d low = first_place wanted roots (get_or places k d) (drop (suc k) places) part.left (subst (λ l. AreIndexPlaces wanted roots l part.left) (drop-cons places k d low) part.places_left)

    -- the index of the next place
    pub next_index : (d : IndexPlace) → k < length places → (i : Index) × IsIndexPlace wanted roots (get_or places k d) i × Has indexes i
    next_index d low =
        let n = next_place d low in
        (n.0, n.3, subst (λ l. Has l n.0) (sym part.split) (has_right part.done part.left n.0 (subst (λ l. Has l n.0) (sym n.2) (inl refl))))

    -- its entry is edited
    pub one_more : (d : IndexPlace) (low : k < length places) (entry : Row) (new : PageFile D g) → entry ≡ entry_of (get_or places k d).columns.now row
        → ((i : Index) → IsIndexPlace wanted roots (get_or places k d) i
        → Writes wanted roots was (with_tree (with_entries edit row now part.done) i.tree (edit plain entry (with_entries edit row now part.done i.tree))) new)
        → IsPart wanted roots was now places indexes edit row (k + 1) new
    one_more d low entry new is made =
        let n = next_place d low in
        let i = n.0 in
        let trees = with_entries edit row now part.done in
        let same : entry ≡ entry_of i.columns row = is ∙ ap (λ cs. entry_of cs row) n.3.columns in
        let later : suc k ≡ k + 1 = omega arith in
        record {
          done = part.done ++ i ∷ [];
          left = n.1;
          split = part.split ∙ ap (λ l. part.done ++ l) n.2 ∙ sym (append_assoc part.done (i ∷ []) n.1);
          places_left = subst (λ j. AreIndexPlaces wanted roots (drop j places) n.1) later n.4;
          writes = subst (λ t. Writes wanted roots was t new) (sym (fold-append (with_entry edit row) now part.done (i ∷ [])))
              (subst (λ e. Writes wanted roots was (with_tree trees i.tree (edit plain e (trees i.tree))) new) same (made i n.3));
        }

    -- the entry is not storable
    pub not_storable : (d : IndexPlace) (low : k < length places) (entry : Row) → entry ≡ entry_of (get_or places k d).columns.now row → AreStorable row indexes → IsStorable 0 entry × (0 < length entry)
    not_storable d low entry is all =
        let n = next_index d low in
        let same : entry_of n.0.columns row ≡ entry = ap (λ cs. entry_of cs row) (sym n.1.columns) ∙ sym is in
        let here = subst (IsStorable 0) same (all_has (λ (i : Index). IsStorable 0 (entry_of i.columns row)) indexes n.0 all n.2) in
        (here, here.columns.0)

  -- a row that is refused is a cause
  pub refused_fails : (old new : PageFile D g) (P Q : Type 0) (e : RowError) → (Q → P) → IsRefused P e → FailsToChange old new Q e
  refused_fails old new P Q (Pages e) so h = subst (FailsToWrite old new) (sym h) tt
  refused_fails old new P Q Unstorable so h = λ q. h (so q)
  refused_fails old new P Q NoRowid so h = absurd h

  -- a later call fails
  pub changes_later : (old mid new : PageFile D g) (P Q : Type 0) (e : RowError) → Keeps (state old.pool) (state mid.pool) → (Q → P) → FailsToChange mid new P e → FailsToChange old new Q e
  changes_later old mid new P Q (Pages e) k so h = fails_later old mid new e k h
  changes_later old mid new P Q Unstorable k so h = λ q. h (so q)
  changes_later old mid new P Q NoRowid k so h = absurd h
