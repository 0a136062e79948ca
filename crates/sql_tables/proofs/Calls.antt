-- Calls one after another, and what each kind of statement is.
use Rattle.std.proofs.Common.{refl, ◌≤◌, ◌⊎◌, inl, inr, ℕ, Bool, true, IsTrue, sym, ap, subst, ◌∙◌, arith}
use Rattle.sqlite_disk.specs.Disk.{MoreFaults}
use Rattle.sqlite_trees.specs.Tree.{Trees}
use Rattle.sqlite_schema.specs.declared.schema.Schema.{Schema}
use Rattle.sqlite.specs.Effect.{Database}
use Rattle.sqlite.specs.State.{State, HasCleanDisk, IsUnchanged, IsRolledBack, Survives}
use Rattle.sql_tables.specs.States.{Rests}
use Rattle.sql_tables.specs.Calls.{IsSettled, IsAsBefore, Stays, Asked}
use Rattle.sql_tables.proofs.Opens.{WasOpen}

-- ---- faults

more_before : (a b c : ℕ) → a ≤ b → MoreFaults b c → MoreFaults a c
more_before a b c h k = omega (arith, h, k)

-- ---- what stays

-- what was answered may be refused all the same
pub stays_if : (ok : Bool) (old new : State) → Stays true old new → Stays ok old new
stays_if ok old new h = record { was_clean = h.was_clean; counts = h.counts; closes = h.closes; was_open = h.was_open; is_open = λ _. h.is_open refl }

pub stays_then : (ok : Bool) (old mid new : State) → Stays true old mid → Stays ok mid new → Stays ok old new
stays_then ok old mid new one two = record {
  was_clean = one.was_clean;
  counts = omega (arith, one.counts, two.counts);
  closes = λ is. elim (two.closes (one.is_open refl)) [ inl still ↦ inl still | inr more ↦ inr (more_before old.faults mid.faults new.faults one.counts more) ];
  was_open = λ is. one.was_open (two.was_open is);
  is_open = two.is_open;
}

-- ---- what is as before

pub settled_of : (schema : Schema) (P : Trees → Type 0) (s : State) → Rests schema P s → IsSettled schema s
settled_of schema P s h = record { schema_is = h.schema_is; settled = h.settled; autocommit = h.autocommit }

pub before_kept : (schema : Schema) (old new : State) → IsSettled schema old → IsTrue new.is_open → IsUnchanged old new ⊎ IsRolledBack old new → IsAsBefore old new
before_kept schema old new was is_open (inl same) = record { now_is = same.0.now_is; committed_is = same.0.committed_is; autocommit = same.0.mode ∙ was.autocommit }
before_kept schema old new was is_open (inr back) = record { now_is = (back.undone is_open).0 ∙ was.settled; committed_is = (back.undone is_open).1; autocommit = back.autocommit }

pub settled_still : (schema : Schema) (old new : State) → IsSettled schema old → IsAsBefore old new → IsSettled schema new
settled_still schema old new was same = record {
  schema_is = ap (λ (d : Database). d.schema) same.now_is ∙ was.schema_is;
  settled = same.committed_is ∙ was.settled ∙ sym same.now_is;
  autocommit = same.autocommit;
}

pub before_then : (old mid new : State) → IsAsBefore old mid → IsAsBefore mid new → IsAsBefore old new
before_then old mid new one two = record { now_is = two.now_is ∙ one.now_is; committed_is = two.committed_is ∙ one.committed_is; autocommit = two.autocommit }

-- what stood before stands after
pub rests_before : (schema : Schema) (P : Trees → Type 0) (old new : State) → Rests schema P old → IsTrue new.is_open → IsAsBefore old new → Rests schema P new
rests_before schema P old new was is_open same = record {
  schema_is = ap (λ (d : Database). d.schema) same.now_is ∙ was.schema_is;
  holds = subst (λ (d : Database). P d.trees) (sym same.now_is) was.holds;
  settled = same.committed_is ∙ was.settled ∙ sym same.now_is;
  autocommit = same.autocommit;
  usable = is_open;
}

-- ---- calls that ask

pub asked_if : (schema : Schema) (ok : Bool) (old new : State) → Asked schema true old new → Asked schema ok old new
asked_if schema ok old new h = record { stays = stays_if ok old new h.stays; same = λ _. h.same refl; kept = h.kept; crash = h.crash }

-- what stood stands after a call that asked
pub asked_rests : (schema : Schema) (P : Trees → Type 0) (old new : State) → Asked schema true old new → Rests schema P old → Rests schema P new
asked_rests schema P old new h was = rests_before schema P old new was (h.stays.is_open refl) (h.kept (settled_of schema P old was) (h.stays.is_open refl))

-- ---- statements

pub stays_by : {C : Trees → Type 0} (ok : Bool) (old new : State) → Survives old new C → HasCleanDisk new → WasOpen old new → (IsTrue ok → IsTrue new.is_open) → Stays ok old new
stays_by ok old new h clean was_open is_open = record { was_clean = omega (arith, h.clean, clean); counts = h.counts; closes = h.closes clean; was_open = was_open; is_open = is_open }
