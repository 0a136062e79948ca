-- What files hold that were written on in an opening which failed.
use Rattle.std.proofs.Common.{◌≡◌, ◌≢◌, ℕ, ◌%◌, ◌≤◌, List, length, take, Option, Some, None, option_map, IsTrue, refl, sym, subst, ◌∙◌, inl, inr, arith, eq-eqb, ne_eqb, take_all}
use Rattle.std.proofs.lemmas.Bool.{cases_Bool, cases_eq}
use Rattle.std.proofs.Math.Path.{fun_ext}
use Rattle.sqlite_pages.specs.PageMap.{PageMap}
use Rattle.sqlite_pool.proofs.ProbeLemmas.{reserved_word, size_by_file, size_by_log}
use Rattle.sqlite_pool.proofs.ResealLemmas.{adopts_of}
use Rattle.sqlite_pool.specs.Stored.{is_among, is_summed, reserved, resealed, sealed, stored_size, Adopts, StandsAs}
use Rattle.sqlite_wal.specs.PageSize.{IsPageSize}
use Rattle.sqlite_wal.specs.Recovery as raw
use Rattle.sqlite_wal.specs.Recovery.{Image, AreWhole, IsIgnored}
use Rattle.sqlite.specs.Files.{NamesSize, SaysSums}
use Rattle.plain_tables.specs.Tables.{Tables}
use Rattle.page_runs.specs.States.{HoldsTables}
use Rattle.store_paths.specs.Shown.{HoldsRows}

one_again : (p : ℕ) (page : Option (List ℕ)) → p % 16 ≢ 8 → ((bytes : List ℕ) → page ≡ Some bytes → length bytes ≡ p) → option_map (λ bytes. sealed (take p bytes)) page ≡ page
unfolding sealed
one_again p None plain whole = refl
one_again p (Some bytes) plain whole =
    let len = whole bytes refl in
    rw (take_all p bytes (omega (arith, len)), len, ne_eqb (p % 16) 8 plain) refl

-- pages that end in no sums get none
plain_again : (p : ℕ) (numbers : List ℕ) (stored : PageMap) → p % 16 ≢ 8 → AreWhole p stored → resealed p numbers stored ≡ stored
unfolding resealed
plain_again p numbers stored plain whole =
    fun_ext λ n. elim (cases_Bool (is_among numbers n)) [ inl among ↦ rw among (one_again p (stored n) plain (whole.sized n)) | inr other ↦ rw other refl ]

module _ (t : Tables) (n : ℕ) (old : Image) (valid : IsPageSize (stored_size n)) (is : HoldsTables t (n, old)) where
  large : 504 ≤ n
  large = let few : reserved n ≤ 8 = grind arith in omega (arith, valid.0)

  adopts : Adopts n old is.at.pages
  adopts = adopts_of n old is.at.pages is.at.found

  -- the pages are as long as the files name
  same_size : (m : ℕ) → NamesSize old m → m ≡ stored_size n
  same_size m named = elim (cases_eq m (stored_size n)) [
    | inl same ↦ same
    | inr other ↦
        (let read = λ (seen : ¬ IsIgnored old.log). other (named.0 seen ∙ size_by_log n old is.at.pages adopts seen) in
        absurd (read (λ ignored. other (named.1 ignored ∙ size_by_file n old is.at.pages adopts large is.at.ours.file.sound ignored))))
  ]

  -- files that stand for pages of this database hold the same rows
  holds_there : (new : Image) → Adopts n new is.at.pages → HoldsRows new t
  holds_there new found = (
    is.db,
    (n, valid, record { pages = is.at.pages; wanted = is.at.wanted; schema = is.at.schema; found = found; ours = is.at.ours; reads = is.at.reads; sound = is.at.sound }),
    is.holds,
  )

  from_stored : (new : Image) → raw.Recovers (stored_size n) new is.at.found.stored → HoldsRows new t
  from_stored new now =
      holds_there new (adopts_of n new is.at.pages (record {
        stored = is.at.found.stored;
        found = now;
        whole = is.at.found.whole;
        sealed = is.at.found.sealed;
        shows = is.at.found.shows;
        present = now.present;
      }))

  -- where the first page says that they end in sums, they do
  summed : (p : ℕ) → stored_size p ≡ stored_size n → p % 16 ≡ 8 → SaysSums (stored_size p) old → p ≡ n
  summed p same on says =
      let (first, there, len, reads, begins) = reserved_word n old is.at.pages adopts large is.at.ours.file.sound in
      let word = says adopts.stored first (subst (λ m. raw.Recovers m old adopts.stored) (sym same) adopts.found) there (len ∙ sym same) in
      let eight : reserved p ≡ 8 = rw (eq-eqb (p % 16) 8 on) refl in
      let too : reserved n ≡ 8 = omega (arith, word, reads) in
      omega (arith, same, eight, too)

  -- files that stand for these hold the same rows
  pub stands_holding : (p : ℕ) (new : Image) → NamesSize old (stored_size p) → (IsTrue (is_summed p) → SaysSums (stored_size p) old) → StandsAs p old new → HoldsRows new t
  stands_holding p new named says stands =
      let same = same_size (stored_size p) named in
      let stored = is.at.found.stored in
      let there : raw.Recovers (stored_size p) old stored = subst (λ m. raw.Recovers m old stored) (sym same) is.at.found.found in
      let back = λ (now : raw.Recovers (stored_size p) new stored). from_stored new (subst (λ m. raw.Recovers m new stored) same now) in
      elim (cases_eq (p % 16) 8) [
        | inl on ↦
            (let here : p ≡ n = summed p same on (says (rw (eq-eqb (p % 16) 8 on) refl)) in
            holds_there new (subst (λ m. Adopts m new is.at.pages) here (stands.1 is.at.pages (subst (λ m. Adopts m old is.at.pages) (sym here) adopts))))
        | inr off ↦
            (let none : reserved p ≡ 0 = rw (ne_eqb (p % 16) 8 off) refl in
            let plain : stored_size n ≡ p = omega (arith, same, none) in
            let whole : AreWhole p stored = subst (λ m. AreWhole m stored) plain is.at.found.whole in
            elim stands.0 [
              | inl alike ↦ back (alike stored there)
              | inr sums ↦ elim (sums.2 stored there) [ inl now ↦ back now | inr now ↦ back (subst (λ s. raw.Recovers (stored_size p) new s) (plain_again p sums.0 stored off whole) now) ]
            ])
      ]
