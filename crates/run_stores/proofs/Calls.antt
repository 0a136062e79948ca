-- Calls one after another.
use Rattle.std.specs.Result.{is_ok, IsErr}
use Rattle.std.proofs.Common.{◌≡◌, ◌≤◌, ◌&&◌, ◌∙◌, inl, inr, ℕ, Bool, true, false, Ok, Err, Result, IsTrue, refl, subst, sym, arith}
use Rattle.plain_tables.specs.Sound.{AreSound}
use Rattle.plain_tables.specs.Tables.{Tables}
use Rattle.run_stores.specs.Calls.{MoreFaults, Are, Given, Become, IsFaithful, Represents, ReadsAs, Rests, Stays, Keeps, Asked, Changed, KeepsIfShut}
use Rattle.run_stores.specs.declared.states.StoreState.{Ghosts}

more_before : (a b c : ℕ) → a ≤ b → MoreFaults b c → MoreFaults a c
more_before a b c h k = omega (arith, h, k)

first_is : (a b : Bool) → IsTrue (a && b) → IsTrue a
first_is true b is = refl
first_is false b is = is

second_is : (a b : Bool) → IsTrue (a && b) → IsTrue b
second_is true b is = is
second_is false b is = absurd (cc is)

both_are : (a b : Bool) → IsTrue a → IsTrue b → IsTrue (a && b)
both_are true b one two = two
both_are false b one two = one

module _ {S : Type 0} (g : Ghosts S) where
  -- ---- what stays

  -- nothing was called
  stays_none : (s : S) → IsFaithful g s → Stays g false s s
  stays_none s clean = record { was_faithful = clean; counts = omega arith; closes = λ is. inl is; was_usable = λ is. is; is_usable = λ (none : false ≡ true). absurd cc }

  -- what was answered may be refused all the same
  pub stays_less : (more less : Bool) (old new : S) → (IsTrue less → IsTrue more) → Stays g more old new → Stays g less old new
  stays_less more less old new so h = record { was_faithful = h.was_faithful; counts = h.counts; closes = h.closes; was_usable = h.was_usable; is_usable = λ is. h.is_usable (so is) }

  pub stays_if : (ok : Bool) (old new : S) → Stays g true old new → Stays g ok old new
  stays_if ok old new h = stays_less true ok old new (λ _. refl) h

  -- the first was answered, if the store could be used
  stays_on : (ok : Bool) (old mid new : S) → Stays g (g.is_usable old) old mid → Stays g ok mid new → Stays g ok old new
  stays_on ok old mid new one two = record {
    was_faithful = one.was_faithful;
    counts = omega (arith, one.counts, two.counts);
    closes = λ is. elim (two.closes (one.is_usable is)) [ inl still ↦ inl still | inr more ↦ inr (more_before (g.faults old) (g.faults mid) (g.faults new) one.counts more) ];
    was_usable = λ is. one.was_usable (two.was_usable is);
    is_usable = two.is_usable;
  }

  -- ---- what is as before

  keeps_none : (s : S) → Keeps g s s
  keeps_none s = record { represents = λ t was _. was; reads = λ t was _. was; same = λ _ _. refl }

  keeps_then : (ok : Bool) (old mid new : S) → Keeps g old mid → Stays g ok mid new → Keeps g mid new → Keeps g old new
  keeps_then ok old mid new one stays two = record {
    represents = λ t was is. two.represents t (one.represents t was (stays.was_usable is)) is;
    reads = λ t was is. two.reads t (one.reads t was (stays.was_usable is)) is;
    same = λ was is. let e : g.kept mid ≡ g.kept old = one.same was (stays.was_usable is) in two.same (subst g.is_settled (sym e) was) is ∙ e;
  }

  -- ---- calls that ask

  pub asked_less : (more less : Bool) (old new : S) → (IsTrue less → IsTrue more) → Asked g more old new → Asked g less old new
  asked_less more less old new so h = record { stays = stays_less more less old new so h.stays; kept = h.kept; crash = h.crash }

  pub asked_refused : (ok : Bool) (old new : S) → Asked g ok old new → Asked g false old new
  asked_refused ok old new h = asked_less ok false old new (λ (none : false ≡ true). absurd cc) h

  pub asked_if : (ok : Bool) (old new : S) → Asked g true old new → Asked g ok old new
  asked_if ok old new h = asked_less true ok old new (λ _. refl) h

  pub asked_reads_yet : (t : Tables) (old new : S) → Asked g (g.is_usable old) old new → ReadsAs g t old → ReadsAs g t new
  asked_reads_yet t old new h was = h.kept.reads t was (h.stays.is_usable (g.readable t old was))

  pub asked_stands : (t : Tables) (old new : S) → Asked g true old new → Represents g t old → Represents g t new
  asked_stands t old new h was = h.kept.represents t was (h.stays.is_usable refl)

  pub asked_reads : (t : Tables) (old new : S) → Asked g true old new → ReadsAs g t old → ReadsAs g t new
  asked_reads t old new h was = h.kept.reads t was (h.stays.is_usable refl)

  pub asked_rests : (P : Tables → Type 0) (old new : S) → Asked g true old new → Rests g P old → Rests g P new
  asked_rests P old new h was = record { t = was.t; holds = was.holds; represents = asked_stands was.t old new h was.represents }

  -- rows in a state for a change, and those that it made
  pub given_at : (P : Tables → Type 0) (t : Tables) (store : S) → P t → Represents g t store → Rests g (Given P t) store
  given_at P t store holds represents = record { t = t; holds = (holds, refl); represents = represents }

  pub become_at : (change : Tables → Tables) (t : Tables) (store : S) → Rests g (Become change t) store → Represents g (change t) store
  become_at change t store was = subst (λ u. Represents g u store) was.holds was.represents

  -- two of them
  pub asked_on : (ok : Bool) (old mid new : S) → Asked g (g.is_usable old) old mid → Asked g ok mid new → Asked g ok old new
  asked_on ok old mid new one two = record {
    stays = stays_on ok old mid new one.stays two.stays;
    kept = keeps_then ok old mid new one.kept two.stays two.kept;
    crash = λ left may. elim (two.crash left may) [ inl before ↦ one.crash left before | inr none ↦ absurd none ];
  }

  pub asked_then : (ok : Bool) (old mid new : S) → Asked g true old mid → Asked g ok mid new → Asked g ok old new
  asked_then ok old mid new one two = asked_on ok old mid new (asked_if (g.is_usable old) old mid one) two

  pub asked_open_then : (ok : Bool) (old mid new : S) → Asked g (g.is_usable old) old mid → Asked g (ok && g.is_usable mid) mid new → Asked g (ok && g.is_usable old) old new
  asked_open_then ok old mid new one two =
      asked_less (ok && g.is_usable mid) (ok && g.is_usable old) old new (λ is. both_are ok (g.is_usable mid) (first_is ok (g.is_usable old) is) (one.stays.is_usable (second_is ok (g.is_usable old) is)))
      (asked_on (ok && g.is_usable mid) old mid new one two)

  pub asked_of_open : (ok : Bool) (old mid new : S) → Asked g true old mid → Asked g (ok && g.is_usable mid) mid new → Asked g ok old new
  asked_of_open ok old mid new one two = asked_less (ok && g.is_usable mid) ok old new (λ is. both_are ok (g.is_usable mid) is (one.stays.is_usable refl)) (asked_then (ok && g.is_usable mid) old mid new one two)

  pub asked_err : {T E : Type 0} (r : Result T E) (old new : S) → IsErr r → Asked g false old new → Asked g (is_ok r) old new
  asked_err (Ok x) old new is h = absurd (cc is)
  asked_err (Err e) old new is h = h

  -- ---- over a store that could not be used

  pub shut_none : (s : S) → KeepsIfShut g s s
  shut_none s shut left may = inl may

  pub shut_asked : (ok : Bool) (old new : S) → Asked g ok old new → KeepsIfShut g old new
  shut_asked ok old new h shut = h.crash

  -- a question that was answered found it usable
  pub shut_answered : (old mid new : S) → Asked g true old mid → KeepsIfShut g old new
  shut_answered old mid new h shut = absurd (shut (h.stays.was_usable (h.stays.is_usable refl)))

  -- ---- calls that change

  module _ {M : Type 0} (Before After : M → Tables → Type 0) where
    pub changed_none : (s : S) → IsFaithful g s → Changed g Before After false false s s
    changed_none s clean = record { stays = stays_none s clean; done = λ (none : false ≡ true). absurd cc; kept = λ _. keeps_none s; crash = λ m was left may. inl may }

    -- what was only asked
    pub changed_asked : (ok : Bool) (old new : S) → Asked g ok old new → Changed g Before After ok false old new
    changed_asked ok old new h = record {
      stays = h.stays;
      done = λ (none : false ≡ true). absurd cc;
      kept = λ _. h.kept;
      crash = λ m was left may. elim (h.crash left may) [ inl before ↦ inl before | inr none ↦ absurd none ];
    }

    -- a change after questions
    pub changed_then : (ok done : Bool) (old mid new : S) → Asked g true old mid → Changed g Before After ok done mid new → Changed g Before After ok done old new
    changed_then ok done old mid new one two = record {
      stays = stays_on ok old mid new (stays_if (g.is_usable old) old mid one.stays) two.stays;
      done = λ is m was. two.done is m (asked_rests (Before m) old mid one was);
      kept = λ not. keeps_then ok old mid new one.kept two.stays (two.kept not);
      crash = λ m was left may. elim (two.crash m (asked_rests (Before m) old mid one was) left may) [
        | inl before ↦ elim (one.crash left before) [ inl first ↦ inl first | inr none ↦ absurd none ]
        | inr after ↦ inr after
      ];
    }

    -- the same change, told of other meanings of rows that are sound
    pub changed_soundly : {N : Type 0} (Earlier Later : N → Tables → Type 0) (ok done : Bool) (old new : S)
        → ((n : N) → Rests g (Earlier n) old → (m : M) × Rests g (Before m) old × ((t : Tables) → AreSound t → After m t → Later n t))
        → Changed g Before After ok done old new → Changed g Earlier Later ok done old new
    changed_soundly Earlier Later ok done old new means h = record {
      stays = h.stays;
      done = λ is n was. let it = means n was in let after = h.done is it.0 it.1 in record { t = after.t; holds = it.2 after.t (g.sound after.t new after.represents) after.holds; represents = after.represents };
      kept = h.kept;
      crash = λ n was left may. let it = means n was in elim (h.crash it.0 it.1 left may) [
        | inl before ↦ inl before
        | inr after ↦ inr (record { t = after.t; holds = it.2 after.t (g.left_sound after.t left after.is) after.holds; is = after.is })
      ];
    }

    pub changed_as : {N : Type 0} (Earlier Later : N → Tables → Type 0) (ok done : Bool) (old new : S)
        → ((n : N) → Rests g (Earlier n) old → (m : M) × Rests g (Before m) old × ((t : Tables) → After m t → Later n t))
        → Changed g Before After ok done old new → Changed g Earlier Later ok done old new
    changed_as Earlier Later ok done old new means h = changed_soundly Earlier Later ok done old new (λ n was. let it = means n was in (it.0, it.1, λ t _ after. it.2 t after)) h

  -- a change of any rows is one of those in some state
  pub changed_given : (P : Tables → Type 0) (After : Tables → Tables → Type 0) (ok done : Bool) (old new : S) → Changed g Are After ok done old new → Changed g (Given P) After ok done old new
  changed_given P After ok done old new h = changed_as Are After (Given P) After ok done old new (λ t was. (t, record { t = was.t; holds = was.holds.1; represents = was.represents }, λ next k. k)) h
