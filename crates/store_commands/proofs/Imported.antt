-- What becomes of a store that a file is imported into, and what is told of it.
use Rattle.std.specs.Bool.{⊤}
use Rattle.std.proofs.Common.{◌≡◌, ℕ, Bool, true, false, List, Some, refl, inl, sym, subst}
use Rattle.cost_rows.specs.Rows.{content_of}
use Rattle.plain_tables.specs.Sound.{AreSound}
use Rattle.plain_tables.specs.Tables.{Tables}
use Rattle.run_stores.specs.declared.states.StoreState.{Ghosts}
use Rattle.run_stores.specs.declared.summed.SummedFile.{SummedFile}
use Rattle.run_stores.specs.Calls.{Asked, Become, Changed, Given, IsFaithful, KeepsShut, MakesOf, ReadsAs, Represents, Tells}
use Rattle.run_stores.specs.Runs.{with_summed}
use Rattle.run_stores.proofs.Calls.{asked_stands, become_at, changed_asked, changed_soundly, changed_then, given_at, shut_answered, shut_asked}
use Rattle.profile_records.specs.declared.kinds.Kind.{Kind}
use Rattle.byte_io.specs.Outcomes.{Outcome, bytes_of}
use Rattle.byte_io.specs.Reads.{HasEnded}
use Rattle.file_reading.specs.FileParsers.{IsParsedOf}
use Rattle.file_reading.specs.declared.parser.ParsedFile.{ParsedFile}
use Rattle.histories.specs.Formats.{today}
use Rattle.histories.specs.History.{History, Import, with_step}
use Rattle.histories.specs.Legal.{expected_answer, IsInForm}
use Rattle.histories.specs.Representation.{TablesRepresent}
use Rattle.histories.specs.declared.answers.Answer.{Answer}
use Rattle.histories.specs.declared.answers.Answer.TheVariants.{Run}
use Rattle.histories.specs.declared.limits.Limits.{Limits}
use Rattle.histories.specs.Answered.{Follows, RepresentsHistory, WasExpected, is_accepted}
use Rattle.histories.proofs.ExpectedLeft.{was_still}
use Rattle.histories.proofs.Questions.{stays_still}
use Rattle.store_commands.specs.FromTables.{GetsNumber, IsImported, IsKnown}
use Rattle.store_commands.proofs.Inserts.{is_known_expected, known_in, next_of, run_expected, run_in, run_told, unaccepted}

module _ {S : Type 0} (g : Ghosts S) (limits : Limits) (kind : Kind) (label : List ℕ) (parsed : ParsedFile) where
  -- ---- it was only asked, and the answer is known

  module _ (answer : Answer) (old new : S) (asks : IsFaithful g new → Asked g true old new) (known : Tells g old new (λ t. IsKnown limits parsed t answer)) where
    still : IsFaithful g new → (t : Tables) → ReadsAs g t old → is_accepted answer ≡ false
    still clean t reads = let it = known clean t reads in unaccepted limits t it.found parsed.file answer it.unchanged

    pub known_told : Tells g old new (λ t. IsImported limits kind label parsed (λ _. ⊤) t answer)
    known_told clean t reads = known_in limits kind label parsed (λ _. ⊤) t answer (known clean t reads) tt

    pub known_made : MakesOf g old new (λ t. IsImported limits kind label parsed (λ left. Represents g left new) t answer)
    known_made clean t represents =
        known_in limits kind label parsed (λ left. Represents g left new) t answer (known clean t (g.said t old represents)) (asked_stands g t old new (asks clean) represents)

    pub known_shut : KeepsShut g old new
    known_shut clean = shut_asked g true old new (asks clean)

    pub known_steps : (outcomes : List Outcome) → IsFaithful g new → Changed g TablesRepresent (Follows limits (Import (today kind) label outcomes)) true (is_accepted answer) old new
    known_steps outcomes clean =
        let same = changed_asked g TablesRepresent (Follows limits (Import (today kind) label outcomes)) true old new (asks clean) in
        record {
          stays = same.stays;
          done = λ accepted h before. let none = still clean before.t (g.said before.t old before.represents) in absurd (cc (accepted, none));
          kept = λ _. same.kept refl;
          crash = same.crash;
        }

    pub known_answered : (outcomes : List Outcome) → IsInForm (Import (today kind) label outcomes) → HasEnded limits.bytes outcomes → IsParsedOf kind (bytes_of outcomes) parsed → IsFaithful g new
        → (h : History) → RepresentsHistory g h old → WasExpected g limits h (Import (today kind) label outcomes) answer new
    known_answered outcomes form ended is clean h s =
        let reads = g.said s.t old s.represents in
        was_still limits h (Import (today kind) label outcomes) form g old new answer (stays_still answer (still clean s.t reads))
        (is_known_expected limits kind label outcomes ended parsed is h s.t (g.sound s.t old s.represents) s.agrees answer (known clean s.t reads)) s (asked_stands g s.t old new (asks clean) s.represents)

  -- ---- it was asked for a number, and then the file was put under it

  module _ (n : ℕ) (file : SummedFile) (old mid new : S) (asks : IsFaithful g mid → Asked g true old mid) (gets : Tells g old mid (λ t. GetsNumber limits parsed t n file)) where
    abbrev IsNext : Tables → Type 0
    IsNext t = t.next ≡ n

    abbrev with_run : Tables → Tables
    with_run t = with_summed n kind parsed.digest label file t

    is_next : (t : Tables) → GetsNumber limits parsed t n file → IsNext t
    is_next t it = next_of limits file.head.now (content_of file.rows.now) t n it.is_number

    -- what it made of the tables
    run_put : (answered : Bool) → Changed g (Given IsNext) (Become with_run) answered true mid new → (t : Tables) → Represents g t old → Represents g (with_run t) new
    run_put answered puts t represents =
        let early = puts.stays.was_faithful in
        become_at g with_run t new (puts.done refl t (given_at g IsNext t mid (is_next t (gets early t (g.said t old represents))) (asked_stands g t old mid (asks early) represents)))

    pub run_shut : (answered done : Bool) → (IsFaithful g new → Changed g (Given IsNext) (Become with_run) answered done mid new) → KeepsShut g old new
    run_shut answered done puts clean = shut_answered g old mid new (asks (puts clean).stays.was_faithful)

    pub run_told_in : (answered done : Bool) → (IsFaithful g new → Changed g (Given IsNext) (Become with_run) answered done mid new) → Tells g old new (λ t. IsImported limits kind label parsed (λ _. ⊤) t (Run n))
    run_told_in answered done puts clean t reads = run_in limits kind label parsed (λ _. ⊤) t n file (gets (puts clean).stays.was_faithful t reads) tt

    pub run_made_in : (answered : Bool) → (IsFaithful g new → Changed g (Given IsNext) (Become with_run) answered true mid new)
        → MakesOf g old new (λ t. IsImported limits kind label parsed (λ left. Represents g left new) t (Run n))
    run_made_in answered puts clean t represents =
        run_in limits kind label parsed (λ left. Represents g left new) t n file (gets (puts clean).stays.was_faithful t (g.said t old represents)) (run_put answered (puts clean) t represents)

    module _ (outcomes : List Outcome) (form : IsInForm (Import (today kind) label outcomes)) (ended : HasEnded limits.bytes outcomes) (is : IsParsedOf kind (bytes_of outcomes) parsed) where
      is_expected : (h : History) (t : Tables) → AreSound t → TablesRepresent h t → GetsNumber limits parsed t n file → expected_answer limits h (Import (today kind) label outcomes) ≡ Some (Run n)
      is_expected h t sound represent it = run_expected limits kind label outcomes ended parsed is h t sound represent n file it

      agrees : (h : History) (t : Tables) → AreSound t → TablesRepresent h t → GetsNumber limits parsed t n file → AreSound (with_run t)
          → TablesRepresent (with_step h (Import (today kind) label outcomes) (Run n)) (with_run t)
      agrees h t sound represent it after = run_told limits kind label outcomes ended parsed is h t sound represent n file it form after

      pub run_steps : (answered done : Bool) → (IsFaithful g new → Changed g (Given IsNext) (Become with_run) answered done mid new) → IsFaithful g new
          → Changed g TablesRepresent (Follows limits (Import (today kind) label outcomes)) answered done old new
      run_steps answered done puts clean =
          let early = (puts clean).stays.was_faithful in
          changed_soundly g (Given IsNext) (Become with_run) TablesRepresent (Follows limits (Import (today kind) label outcomes)) answered done old new
          (λ h before.
          let t = before.t in
          let it = gets early t (g.said t old before.represents) in
          let sound = g.sound t old before.represents in (
            t,
            given_at g IsNext t old (is_next t it) before.represents,
            λ after after_sound is_after. subst (λ u. Follows limits (Import (today kind) label outcomes) h u) (sym is_after)
                (record { answer = Run n; accepted = refl; legal = inl (form, inl (is_expected h t sound before.holds it)); agrees = agrees h t sound before.holds it (subst AreSound is_after after_sound) }),
          ))
          (changed_then g (Given IsNext) (Become with_run) answered done old mid new (asks early) (puts clean))

      pub run_answered : (answered : Bool) → (IsFaithful g new → Changed g (Given IsNext) (Become with_run) answered true mid new) → IsFaithful g new
          → (h : History) → RepresentsHistory g h old → WasExpected g limits h (Import (today kind) label outcomes) (Run n) new
      run_answered answered puts clean h s =
          let it = gets (puts clean).stays.was_faithful s.t (g.said s.t old s.represents) in
          let sound = g.sound s.t old s.represents in
          let after = run_put answered (puts clean) s.t s.represents in
          record {
            is_expected = is_expected h s.t sound s.agrees it;
            after = record { t = with_run s.t; represents = after; agrees = agrees h s.t sound s.agrees it (g.sound (with_run s.t) new after) };
          }
