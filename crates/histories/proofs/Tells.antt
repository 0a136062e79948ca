-- What tables that represent a history tell of it: runs, groups and digests.
use Rattle.std.proofs.Common.{◌≡◌, ◌≢◌, ℕ, suc, false, ◌||◌, ◌==◌, if◌then◌else◌, List, [], ◌∷◌, map, length, Option, Some, None, refl, sym, ap, ap₂, ◌∙◌, inl, inr}
use Rattle.std.specs.List.{list_any, AllByRecursion}
use Rattle.std.specs.Option.{MatchOption}
use Rattle.std.specs.Str.{bytes_eq}
use Rattle.std.proofs.lemmas.List.{length-map}
use Rattle.sha2.specs.Sha256.{sha256}
use Rattle.plain_tables.specs.Lists.{Has}
use Rattle.cost_rows.proofs.NamingLemmas.{bytes-same}
use Rattle.plain_tables.specs.Tables.{Tables, RunRow, GroupRow}
use Rattle.plain_tables.specs.Changes as changes
use Rattle.run_stores.specs.Book.{run_held}
use Rattle.run_stores.specs.BookEntries.{held_run}
use Rattle.histories.specs.History.{History, File, held, next, groups}
use Rattle.histories.specs.Legal.{number_of, has_run, has_group}
use Rattle.histories.specs.Representation.{AreBooksOf, TablesRepresent, file_run}
use Rattle.histories.proofs.Invariants.{OtherDigest, digests_apart}
use Rattle.histories.proofs.Tests.{Pairs, bytes_apart}

-- ---- runs, each a file that is held

module _ (t : Tables) where
  abbrev books : List RunRow → List File → Type 0
  books lines files = AreBooksOf files (map (run_held t) lines)

  runs_of : (n : ℕ) (lines : List RunRow) (files : List File) → books lines files → list_any (λ (r : RunRow). r.number == n) lines ≡ list_any (λ (f : File). f.number == n) files
  runs_of n [] [] all = refl
  runs_of n [] (f ∷ files) all = absurd all
  runs_of n (r ∷ lines) [] all = absurd all
  runs_of n (r ∷ lines) (f ∷ files) all = ap₂ (λ m b. (m == n) || b) all.0.number (runs_of n lines files all.1)

  many_of : (lines : List RunRow) (files : List File) → books lines files → length lines ≡ length files
  many_of [] [] all = refl
  many_of [] (f ∷ files) all = absurd all
  many_of (r ∷ lines) [] all = absurd all
  many_of (r ∷ lines) (f ∷ files) all = ap suc (many_of lines files all.1)

  told_of : (lines : List RunRow) (files : List File) → books lines files → map held_run lines ≡ map file_run files
  told_of [] [] all = refl
  told_of [] (f ∷ files) all = absurd all
  told_of (r ∷ lines) [] all = absurd all
  told_of (r ∷ lines) (f ∷ files) all = ap₂ ◌∷◌ (cc (all.0.number, all.0.kind, all.0.digest, all.0.label)) (told_of lines files all.1)

  -- ---- digests

  none_of : (digest : List ℕ) (lines : List RunRow) (files : List File) → books lines files → ((r : RunRow) → Has lines r → r.digest ≢ digest) → number_of digest files ≡ None
  none_of digest [] [] all none = refl
  none_of digest [] (f ∷ files) all none = absurd all
  none_of digest (r ∷ lines) [] all none = absurd all
  none_of digest (r ∷ lines) (f ∷ files) all none =
      ap (λ b. if b then Some f.number else number_of digest files) (bytes_apart (sha256 f.bytes) digest (λ same. none r (inl refl) (all.0.digest ∙ same)))
      ∙ none_of digest lines files all.1 (λ q there. none q (inr there))

  -- one of them has the digest, so an earlier one has another
  has_digest : (digest : List ℕ) (other : List ℕ) (lines : List RunRow) (files : List File) (r : RunRow) → books lines files → Has lines r → r.digest ≡ digest
      → AllByRecursion (λ (g : File). bytes_eq other (sha256 g.bytes) ≡ false) files → bytes_eq other digest ≡ false
  has_digest digest other [] files r all there is apart = absurd there
  has_digest digest other (q ∷ lines) [] r all there is apart = absurd all
  has_digest digest other (q ∷ lines) (g ∷ files) r all (inl same) is apart =
      ap (bytes_eq other) (sym is ∙ ap (λ (l : RunRow). l.digest) same ∙ all.0.digest) ∙ apart.0
  has_digest digest other (q ∷ lines) (g ∷ files) r all (inr later) is apart = has_digest digest other lines files r all.1 later is apart.1

  one_of : (digest : List ℕ) (lines : List RunRow) (files : List File) (r : RunRow) → books lines files → Pairs OtherDigest files → Has lines r → r.digest ≡ digest → number_of digest files ≡ Some r.number
  one_of digest [] files r all apart there is = absurd there
  one_of digest (q ∷ lines) [] r all apart there is = absurd all
  one_of digest (q ∷ lines) (f ∷ files) r all apart (inl same) is =
      ap (λ b. if b then Some f.number else number_of digest files) (bytes-same (sha256 f.bytes) digest (sym all.0.digest ∙ ap (λ (l : RunRow). l.digest) (sym same) ∙ is))
      ∙ ap (λ n. Some n) (sym all.0.number ∙ ap (λ (l : RunRow). l.number) (sym same))
  one_of digest (q ∷ lines) (f ∷ files) r all apart (inr later) is =
      ap (λ b. if b then Some f.number else number_of digest files) (has_digest digest (sha256 f.bytes) lines files r all.1 later is apart.0)
      ∙ one_of digest lines files r all.1 apart.1 later is

module _ (h : History) (t : Tables) (represent : TablesRepresent h t) where
  pub tells_next : t.next ≡ next h
  tells_next = represent.next

  pub tells_run : (n : ℕ) → changes.has_run t n ≡ has_run h n
  tells_run n = runs_of t n t.runs (held h) represent.runs

  pub tells_many : length t.runs ≡ length (held h)
  tells_many = many_of t t.runs (held h) represent.runs

  pub tells_runs : map held_run t.runs ≡ map file_run (held h)
  tells_runs = told_of t t.runs (held h) represent.runs

  pub tells_digest : (digest : List ℕ) (found : Option ℕ)
      → MatchOption found ((r : RunRow) → Has t.runs r → r.digest ≢ digest) (λ n. (r : RunRow) × Has t.runs r × (r.digest ≡ digest) × (r.number ≡ n))
      → number_of digest (held h) ≡ found
  tells_digest digest None none = none_of t digest t.runs (held h) represent.runs none
  tells_digest digest (Some n) one = one_of t digest t.runs (held h) one.0 represent.runs (digests_apart h represent.legal) one.1 one.2 ∙ ap (λ n. Some n) one.3

  -- ---- groups

  any_named : (name : List ℕ) (lines : List GroupRow) → list_any (changes.is_named name) lines ≡ list_any (λ other. bytes_eq other name) (map (λ (g : GroupRow). g.name) lines)
  any_named name [] = refl
  any_named name (g ∷ lines) = ap (λ b. bytes_eq g.name name || b) (any_named name lines)

  pub tells_group : (name : List ℕ) → changes.has_group t name ≡ has_group h name
  tells_group name = any_named name t.groups ∙ ap (list_any (λ other. bytes_eq other name)) represent.groups

  pub tells_groups : length t.groups ≡ length (groups h)
  tells_groups = sym (length-map t.groups (λ (g : GroupRow). g.name)) ∙ ap length represent.groups
