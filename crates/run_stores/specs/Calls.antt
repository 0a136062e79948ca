-- What a store of runs represents, what a call leaves of it, whatever it answers, and what it tells.
use Rattle.std.specs.Prelude.{◌≡◌, ◌≤◌, ◌+◌, ◌-◌, ◌^◌, ◌⊎◌, ◌&&◌, ℕ, min, Bool, false, IsTrue, Result, IfErr, IfOk}
use Rattle.std.specs.Result.{is_ok}
use Rattle.plain_tables.specs.Tables.{Tables}
use Rattle.plain_tables.specs.declared.errors.StoreError.{StoreError}
use Rattle.plain_tables.specs.declared.errors.StoreError.TheVariants.{Memory}
use Rattle.run_stores.specs.declared.states.StoreState.{Ghosts}

-- the count of failures rose, unless it is at its top
abbrev pub MoreFaults : ℕ → ℕ → Type 0
MoreFaults old new = min (old + 1) (2 ^ 64 - 1) ≤ new

-- it is answered, or memory was refused
abbrev pub AnswersOrMemory : {T : Type 0} → Result T StoreError → Type 0
AnswersOrMemory result = IfErr result (λ e. e ≡ Memory)

-- ---- the rows before a change and behind it

abbrev pub Are : Tables → Tables → Type 0
Are m t = t ≡ m

-- those that are in a state for it
abbrev pub Given : (Tables → Type 0) → Tables → Tables → Type 0
Given P m t = P m × (t ≡ m)

abbrev pub Become : (Tables → Tables) → Tables → Tables → Type 0
Become change m t = t ≡ change m

module _ {S : Type 0} (g : Ghosts S) where
  -- so far what was written is what was read
  abbrev pub IsFaithful : S → Type 0
  IsFaithful store = g.is_faithful store

  -- false once what keeps it has failed for good: then each call fails until it is opened again
  abbrev pub IsUsable : S → Type 0
  IsUsable store = IsTrue (g.is_usable store)

  -- between calls it represents these rows, and so does what it made lasting
  abbrev pub Represents : Tables → S → Type 0
  Represents t store = g.represents t store

  -- what it keeps is read as these rows, whoever wrote it
  abbrev pub ReadsAs : Tables → S → Type 0
  ReadsAs t store = g.reads_as t store

  -- between calls it represents rows that P holds of
  pub record Rests (P : Tables → Type 0) (store : S) : Type 0 where
    pub t : Tables
    pub holds : P t
    pub represents : Represents t store

  -- ---- what a crash may leave

  -- rows that P holds of
  pub record Holds (P : Tables → Type 0) (left : g.Left) : Type 0 where
    pub t : Tables
    pub holds : P t
    pub is : g.holds t left

  -- what it could leave before, or what P holds of
  abbrev pub LeavesOnly : S → S → (g.Left → Type 0) → Type 0
  LeavesOnly old new P = (left : g.Left) → g.may_leave new left → g.may_leave old left ⊎ P left

  -- what P holds of
  abbrev pub LeavesJust : S → (g.Left → Type 0) → Type 0
  LeavesJust store P = (left : g.Left) → g.may_leave store left → P left

  -- ---- what a call leaves

  -- no failure is forgotten, and only a failure makes the store unusable; no call mends it, and a call that is answered leaves it usable
  pub record Stays (answered : Bool) (old new : S) : Type 0 where
    pub was_faithful : IsFaithful old
    pub counts : g.faults old ≤ g.faults new
    pub closes : IsUsable old → IsUsable new ⊎ MoreFaults (g.faults old) (g.faults new)
    pub was_usable : IsUsable new → IsUsable old
    pub is_usable : IsTrue answered → IsUsable new

  -- what it represented, what was read in it, and between calls all that it keeps are as before, as long as it can be used
  pub record Keeps (old new : S) : Type 0 where
    pub represents : (t : Tables) → Represents t old → IsUsable new → Represents t new
    pub reads : (t : Tables) → ReadsAs t old → IsUsable new → ReadsAs t new
    pub same : g.is_settled (g.kept old) → IsUsable new → g.kept new ≡ g.kept old

  -- a call that asks: it changes nothing, and makes nothing lasting, be the store usable or not
  pub record Asked (answered : Bool) (old new : S) : Type 0 where
    pub stays : Stays answered old new
    pub kept : Keeps old new
    pub crash : LeavesOnly old new (λ _. ⊥)

  -- over a store that could not be used nothing more is made lasting: a crash leaves what it could leave before
  abbrev pub KeepsIfShut : S → S → Type 0
  KeepsIfShut old new = (IsUsable old → ⊥) → LeavesOnly old new (λ _. ⊥)

  -- a call that changes what the store represents, at one moment: each meaning that the rows had becomes what is said of it afterwards; where it is not done, all is as before; a crash leaves what it could leave before, or the change
  pub record Changed {M : Type 0} (Before After : M → Tables → Type 0) (answered is_done : Bool) (old new : S) : Type 0 where
    pub stays : Stays answered old new
    pub done : IsTrue is_done → (m : M) → Rests (Before m) old → Rests (After m) new
    pub kept : is_done ≡ false → Keeps old new
    pub crash : (m : M) → Rests (Before m) old → LeavesOnly old new (Holds (After m))

  -- ---- as calls say it

  abbrev pub Asks : Bool → S → S → Type 0
  Asks answered old new = IsFaithful new → Asked answered old new

  -- what may be answered by what was read ahead tells nothing of a store that could not be used
  abbrev pub AsksIfOpen : Bool → S → S → Type 0
  AsksIfOpen answered old new = Asks (answered && g.is_usable old) old new

  -- a call that changes the rows, where they are in a state for it
  abbrev pub ChangesIf : Bool → (Tables → Type 0) → (Tables → Tables) → S → S → Type 0
  ChangesIf done given change old new = IsFaithful new → Changed (Given given) (Become change) done done old new

  -- any rows
  abbrev pub Changes : Bool → (Tables → Tables) → S → S → Type 0
  Changes done change old new = IsFaithful new → Changed Are (Become change) done done old new

  abbrev pub KeepsShut : S → S → Type 0
  KeepsShut old new = IsFaithful new → KeepsIfShut old new

  -- ---- what is told

  -- what an answer tells of the rows as which the store was read before the call
  abbrev pub Tells : S → S → (Tables → Type 0) → Type 0
  Tells old new P = IsFaithful new → (t : Tables) → ReadsAs t old → P t

  -- what an answer and what is left tell of the rows that it represented before the call
  abbrev pub MakesOf : S → S → (Tables → Type 0) → Type 0
  MakesOf old new P = IsFaithful new → (t : Tables) → Represents t old → P t

  -- what is answered tells of those rows
  abbrev pub Told : {T E : Type 0} → Result T E → S → S → (Tables → T → Type 0) → Type 0
  Told result old new P = Tells old new (λ t. IfOk result (P t))

  -- what is answered and left tells of the rows that it represented
  abbrev pub Made : {T E : Type 0} → Result T E → S → S → (Tables → T → Type 0) → Type 0
  Made result old new P = MakesOf old new (λ t. IfOk result (P t))

  -- ---- what is not refused

  -- a store that can be used answers
  abbrev pub Serves : {T E : Type 0} → Result T E → S → Type 0
  Serves result old = IsUsable old → IsTrue (is_ok result)

  -- one that is read as such rows does
  abbrev pub ServesIf : {T E : Type 0} → Result T E → S → (Tables → Type 0) → Type 0
  ServesIf result old P = (t : Tables) → ReadsAs t old → P t → IsTrue (is_ok result)

  -- one that can be used answers where memory lasts
  abbrev pub ServesOrMemory : {T : Type 0} → Result T StoreError → S → Type 0
  ServesOrMemory result old = IsUsable old → AnswersOrMemory result

  -- one that is read as such rows does
  abbrev pub ServesIfOrMemory : {T : Type 0} → Result T StoreError → S → (Tables → Type 0) → Type 0
  ServesIfOrMemory result old P = (t : Tables) → ReadsAs t old → P t → AnswersOrMemory result

  -- why a call that reads what keeps the store may be refused: memory, or that failed in the call or has no room
  abbrev pub FailsToAsk : S → S → StoreError → Type 0
  FailsToAsk old new e = (e ≡ Memory) ⊎ (MoreFaults (g.faults old) (g.faults new) ⊎ g.is_full new)

  -- one that represents such rows answers unless it fails so
  abbrev pub ServesOrFails : {T : Type 0} → Result T StoreError → S → S → (Tables → Type 0) → Type 0
  ServesOrFails result old new P = IsFaithful new → (t : Tables) → Represents t old → P t → IfErr result (FailsToAsk old new)
