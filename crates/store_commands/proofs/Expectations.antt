-- What is expected of removals and of changes of groups.
use Rattle.std.proofs.Common.{◌≡◌, sym, subst, None, ℕ, inl, Bool, true, false, not, nat_le, List, [], ◌∷◌, length, Option, Some, refl, ap, ap₂, ◌∙◌}
use Rattle.run_stores.specs.declared.states.StoreState.{Ghosts}
use Rattle.run_stores.specs.Calls.{Asked, Changed, Represents, Given, Become}
use Rattle.run_stores.proofs.Calls.{asked_stands, become_at, changed_as, given_at}
use Rattle.plain_tables.specs.Changes as tables
use Rattle.plain_tables.specs.Labels.{IsGroupName}
use Rattle.plain_tables.specs.Tables.{Tables}
use Rattle.histories.specs.History.{History, Remove, MakeGroup, with_step}
use Rattle.histories.specs.Legal.{IsHistory, IsInForm, IsLegal, expected_answer, when, first_or, has_run}
use Rattle.histories.specs.Representation.{TablesRepresent}
use Rattle.histories.specs.declared.answers.Answer.{Answer}
use Rattle.histories.specs.declared.answers.Answer.TheVariants as answers
use Rattle.histories.specs.declared.answers.Refusal.{Refusal}
use Rattle.histories.specs.declared.answers.Refusal.TheVariants as reasons
use Rattle.histories.specs.declared.limits.Limits.{Limits}
use Rattle.histories.proofs.Tells.{tells_run, tells_group, tells_groups}
use Rattle.histories.proofs.Steps.{tell_made, tell_dropped, tell_joined, tell_left, tell_based}
use Rattle.histories.specs.Refusals.{missing_of, refused_or}
use Rattle.histories.proofs.Settled.{bad_name, no_group_named}
use Rattle.store_commands.specs.Changes.{IsDoneIn, changed, command_from_change, refusal_for, unmade_for, unnamed_for}
use Rattle.store_commands.specs.declared.changes.GroupChange.{GroupChange}
use Rattle.store_commands.specs.declared.changes.GroupChange.TheVariants as change

module _ (limits : Limits) (h : History) where
  pub remove_expected : (n : ℕ) (b : Bool) → has_run h n ≡ b → expected_answer limits h (Remove n) ≡ Some (first_or (when (not b) (answers.Refused reasons.NoSuchRun) ∷ []) answers.Done)
  remove_expected n b is = ap (λ x. Some (first_or (when (not x) (answers.Refused reasons.NoSuchRun) ∷ []) answers.Done)) is

  pub expected_if_run : (n : ℕ) (t : Tables) → TablesRepresent h t → tables.has_run t n ≡ true → expected_answer limits h (Remove n) ≡ Some answers.Done
  expected_if_run n t agrees is = remove_expected n true (sym (tells_run h t agrees n) ∙ is)

  -- ---- the first condition that holds, as a history says it and as the code looks for it

  abbrev made : Bool → Bool → Answer
  made taken full = first_or (when taken (answers.Refused reasons.GroupTaken) ∷ when full (answers.Refused reasons.Full) ∷ []) answers.Done

  same_made : (taken full : Bool) → Some (made taken full) ≡ Some (refused_or (unmade_for taken full) answers.Done)
  same_made true full = refl
  same_made false true = refl
  same_made false false = refl

  abbrev dropped : Bool → Answer
  dropped group = first_or (when (not group) (answers.Refused reasons.NoSuchGroup) ∷ []) answers.Done

  same_dropped : (group : Bool) → Some (dropped group) ≡ Some (refused_or (missing_of group true) answers.Done)
  same_dropped true = refl
  same_dropped false = refl

  abbrev missing : Bool → Bool → Answer
  missing group run = first_or (when (not group) (answers.Refused reasons.NoSuchGroup) ∷ when (not run) (answers.Refused reasons.NoSuchRun) ∷ []) answers.Done

  same_missing : (group run : Bool) → Some (missing group run) ≡ Some (refused_or (missing_of group run) answers.Done)
  same_missing false run = refl
  same_missing true false = refl
  same_missing true true = refl

  -- what is expected, by what the tables hold
  pub change_expected : (c : GroupChange) (name : List ℕ) (t : Tables) → TablesRepresent h t → expected_answer limits h (command_from_change c name) ≡ Some (refused_or (refusal_for limits c name t) answers.Done)
  change_expected change.Make name t agrees =
      ap₂ (λ x y. Some (made x (nat_le limits.groups y))) (sym (tells_group h t agrees name)) (sym (tells_groups h t agrees))
      ∙ same_made (tables.has_group t name) (nat_le limits.groups (length t.groups))
  change_expected change.Drop name t agrees = ap (λ x. Some (dropped x)) (sym (tells_group h t agrees name)) ∙ same_dropped (tables.has_group t name)
  change_expected (change.Join n) name t agrees = ap₂ (λ x y. Some (missing x y)) (sym (tells_group h t agrees name)) (sym (tells_run h t agrees n)) ∙ same_missing (tables.has_group t name) (tables.has_run t n)
  change_expected (change.Leave n) name t agrees = ap₂ (λ x y. Some (missing x y)) (sym (tells_group h t agrees name)) (sym (tells_run h t agrees n)) ∙ same_missing (tables.has_group t name) (tables.has_run t n)
  change_expected (change.SetBaseline n) name t agrees = ap₂ (λ x y. Some (missing x y)) (sym (tells_group h t agrees name)) (sym (tells_run h t agrees n)) ∙ same_missing (tables.has_group t name) (tables.has_run t n)

  pub expected_if_free : (c : GroupChange) (name : List ℕ) (t : Tables) → TablesRepresent h t → refusal_for limits c name t ≡ None → expected_answer limits h (command_from_change c name) ≡ Some answers.Done
  expected_if_free c name t agrees is = change_expected c name t agrees ∙ ap (λ r. Some (refused_or r answers.Done)) is

  pub tell_changed : (c : GroupChange) (name : List ℕ) (t : Tables) → TablesRepresent h t → IsLegal limits h (command_from_change c name) answers.Done → TablesRepresent (with_step h (command_from_change c name) answers.Done) (changed c name t)
  tell_changed change.Make name t agrees legal = tell_made limits h name t agrees legal
  tell_changed change.Drop name t agrees legal = tell_dropped limits h name t agrees legal
  tell_changed (change.Join n) name t agrees legal = tell_joined limits h name n t agrees legal
  tell_changed (change.Leave n) name t agrees legal = tell_left limits h name n t agrees legal
  tell_changed (change.SetBaseline n) name t agrees legal = tell_based limits h name n t agrees legal

  -- a name that no group can have is refused as such, or is no group's
  pub unnamed_legal : (c : GroupChange) (name : List ℕ) → IsHistory h → (IsGroupName name → ⊥) → IsLegal limits h (command_from_change c name) (answers.Refused (unnamed_for c))
  unnamed_legal change.Make name legal none = bad_name limits h (MakeGroup name) none tt
  unnamed_legal change.Drop name legal none = inl (tt, inl (ap (λ x. Some (dropped x)) (no_group_named h name legal none)))
  unnamed_legal (change.Join n) name legal none = inl (tt, inl (ap (λ x. Some (missing x (has_run h n))) (no_group_named h name legal none)))
  unnamed_legal (change.Leave n) name legal none = inl (tt, inl (ap (λ x. Some (missing x (has_run h n))) (no_group_named h name legal none)))
  unnamed_legal (change.SetBaseline n) name legal none = inl (tt, inl (ap (λ x. Some (missing x (has_run h n))) (no_group_named h name legal none)))

pub change_form : (c : GroupChange) (name : List ℕ) → IsGroupName name → IsInForm (command_from_change c name)
change_form change.Make name form = form
change_form change.Drop name form = tt
change_form (change.Join n) name form = tt
change_form (change.Leave n) name form = tt
change_form (change.SetBaseline n) name form = tt

-- ---- changes of tables in some state

-- a group that is dropped is held
pub drop_held : (limits : Limits) (name : List ℕ) (t : Tables) → refusal_for limits change.Drop name t ≡ None → tables.has_group t name ≡ true
drop_held limits name t is = go (tables.has_group t name) is
  where
    go : (b : Bool) → missing_of b true ≡ None → b ≡ true
    go true is = refl
    go false is = absurd cc

-- a change of lines in some state is one of those in a narrower one
pub given_less : {S : Type 0} (g : Ghosts S) (P Q : Tables → Type 0) (After : Tables → Tables → Type 0) (answered done : Bool) (old new : S) → ((t : Tables) → P t → Q t)
    → Changed g (Given Q) After answered done old new → Changed g (Given P) After answered done old new
given_less g P Q After answered done old new less h =
    changed_as g (Given Q) After (Given P) After answered done old new (λ t was. (t, record { t = was.t; holds = (less t was.holds.0, was.holds.1); represents = was.represents }, λ next k. k)) h

-- a change of one kind, told of the kind that was asked for
module _ {S : Type 0} (g : Ghosts S) (limits : Limits) (how : GroupChange) (name : List ℕ) where
  abbrev FreeOf : GroupChange → Bool → S → S → Type 0
  FreeOf c done old new = Changed g (Given (λ t. refusal_for limits c name t ≡ None)) (Become (changed c name)) done done old new

  pub free_as : (c : GroupChange) (done : Bool) (old new : S) → how ≡ c → FreeOf c done old new → FreeOf how done old new
  free_as c done old new is made = subst (λ k. FreeOf k done old new) (sym is) made

-- ---- what becomes of lines, whatever they represent

module _ (Left : Tables → Type 0) (t : Tables) (found : Option Refusal) (change : Tables → Tables) where
  pub refused_in : (refusal : Refusal) → found ≡ Some refusal → Left t → IsDoneIn Left found change t (answers.Refused refusal)
  refused_in refusal is left = subst (λ r. IsDoneIn Left r change t (answers.Refused refusal)) (sym is) (refl, left)

  pub changed_in : found ≡ None → Left (change t) → IsDoneIn Left found change t answers.Done
  changed_in is left = subst (λ r. IsDoneIn Left r change t answers.Done) (sym is) (refl, left)

module _ {S : Type 0} (g : Ghosts S) (t : Tables) (old mid new : S) (asked : Asked g true old mid) (represents : Represents g t old) where
  pub stays_in : (refusal : Refusal) (found : Option Refusal) (change : Tables → Tables) → found ≡ Some refusal → IsDoneIn (λ l. Represents g l mid) found change t (answers.Refused refusal)
  stays_in refusal found change is = refused_in (λ l. Represents g l mid) t found change refusal is (asked_stands g t old mid asked represents)

  pub done_in : (P : Tables → Type 0) (found : Option Refusal) (change : Tables → Tables) → P t → found ≡ None
      → Changed g (Given P) (Become change) true true mid new → IsDoneIn (λ l. Represents g l new) found change t answers.Done
  done_in P found change held is made =
      let mid_stands = asked_stands g t old mid asked represents in
      changed_in (λ l. Represents g l new) t found change is (become_at g change t new (made.done refl t (given_at g P t mid held mid_stands)))
