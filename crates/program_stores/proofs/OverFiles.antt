-- A work over the store in files, and what comes behind it.
use Rattle.std.proofs.Common.{subst, sym, inl, inr}
use Rattle.std.specs.Borrow.{Bor}
use Rattle.std.specs.Prelude.{◌≡◌, ℕ, Bool, List, Option, Result}
use Rattle.run_stores.specs.declared.states.StoreState.{Ghosts}
use Rattle.run_stores.specs.Calls.{Asks, IsFaithful, Represents}
use Rattle.plain_tables.specs.Tables.{Tables}
use Rattle.histories.specs.Answered.{HasHistory}
use Rattle.histories.specs.History.{History}
use Rattle.histories.proofs.Left.{left_after, left_standing}
use Rattle.histories.specs.declared.limits.Limits.{Limits}
use Rattle.warehouse.specs.Taken.{CameTo}
use Rattle.warehouse.proofs.Taken.{taken_clean}
use Rattle.requests.specs.declared.commands.Command.{Command}
use Rattle.prof_http.specs.Served.{AreOfRequests}
use Rattle.prof_http.specs.declared.serving.Service.{Service}
use Rattle.program_stores.specs.Sessions.{Wants}
use Rattle.program_stores.specs.Works.{WerePrinted}
use Rattle.store_paths.specs.Opened.{RepresentsHeld}
use Rattle.program_stores.specs.Theorem.{Works}
use Rattle.program_stores.specs.Jobs.{Tells}
use Rattle.program_stores.specs.declared.jobs.Job.TheVariants as jobs

module _ {S : Type 0} (g : Ghosts S) (held : Tables → Type 0) (Says : Limits → History → Type 0) where
  -- over a store that was opened in the files, of which what stands survives a crash
  pub works_over : ((t : Tables) (store : S) (left : g.Left) → Represents g t store → g.may_leave store left → g.holds t left) → (old new : S)
      → RepresentsHeld g held old → (IsFaithful g new → CameTo g Says old new) → Works g held Says new
  works_over survives old new is came faithful =
      let it = came faithful in
      let opened = is (taken_clean g it.limits it.steps old new it.taken faithful) in
      λ h holds.
      let stands = opened h holds in
      let has : HasHistory g h old = record { legal = holds.legal; represents = λ usable. stands } in
      record {
        limits = it.limits;
        standard = it.standard;
        steps = it.steps;
        legal = it.taken.legal h has;
        says = it.says;
        after = it.taken.after h has;
        left = left_after g it.limits survives h it.steps old new has (left_standing g it.limits survives h old stands) it.taken.links;
      }

  -- of which less is said
  pub works_as : (Less : Limits → History → Type 0) (store : S) → ((limits : Limits) (steps : History) → Says limits steps → Less limits steps)
      → Works g held Says store → Works g held Less store
  works_as Less store less works faithful = λ h holds.
      let is = works faithful h holds in
      record { limits = is.limits; standard = is.standard; steps = is.steps; legal = is.legal; says = less is.limits is.steps is.says; after = is.after; left = is.left }

  -- the store was only asked since
  pub works_asked : (answered : Bool) (old new : S) → Works g held Says old → Asks g answered old new → Works g held Says new
  works_asked answered old new works asks faithful =
      let asked = asks faithful in
      λ h holds.
      let is = works asked.stays.was_faithful h holds in
      record {
        limits = is.limits;
        standard = is.standard;
        steps = is.steps;
        legal = is.legal;
        says = is.says;
        after = record {
          legal = is.after.legal;
          represents = λ usable.
              let rests = is.after.represents (asked.stays.was_usable usable) in
              record { t = rests.t; represents = asked.kept.represents rests.t rests.represents usable; agrees = rests.agrees };
        };
        left = λ left may. elim (asked.crash left may) [ inl before ↦ is.left left before | inr none ↦ absurd none ];
      }

module _ {F W S : Type 0} (remaining : F → Option (List ℕ)) (contents : W → Option (List ℕ)) (g : Ghosts S)
    (survives : (t : Tables) (store : S) (left : g.Left) → Represents g t store → g.may_leave store left → g.holds t left) (held : Tables → Type 0) where
  -- of commands over a store that was opened in the files, which printed through a writer around another
  pub ran_over : {V E : Type 0} (inner : V → W) (commands : Bor (List (Command (Bor (List ℕ)) (Bor (List ℕ))))) (fresh : Option (List ℕ)) (result : Result ℕ E) (from out : V) (to : W) (old new : S)
      → contents (inner from) ≡ fresh → to ≡ inner out → RepresentsHeld g held old
      → (IsFaithful g new → CameTo g (λ _ steps. WerePrinted (λ v. contents (inner v)) (Wants remaining commands.now) result from out steps) old new)
      → Works g held (Tells remaining contents g (jobs.Run commands) fresh result to) new
  ran_over inner commands fresh result from out to old new begins ends is came =
      works_as g held (λ _ steps. WerePrinted (λ v. contents (inner v)) (Wants remaining commands.now) result from out steps) (Tells remaining contents g (jobs.Run commands) fresh result to) new
      (λ limits steps told. subst (λ it. Tells remaining contents g (jobs.Run commands) fresh result it limits steps) (sym ends)
      (inner from, begins, record { rest = told.rest; commands = told.commands; told = told.told }))
      (works_over g held (λ _ steps. WerePrinted (λ v. contents (inner v)) (Wants remaining commands.now) result from out steps) survives old new is came)

  -- of a server
  pub served_over : {E : Type 0} (service : Service) (fresh : Option (List ℕ)) (result : Result ℕ E) (to : W) (old new : S)
      → RepresentsHeld g held old → (IsFaithful g new → CameTo g (AreOfRequests g service.requests old new) old new)
      → Works g held (Tells remaining contents g (jobs.Serve service) fresh result to) new
  served_over service fresh result to old new is came =
      works_as g held (AreOfRequests g service.requests old new) (Tells remaining contents g (jobs.Serve service) fresh result to) new
      (λ limits steps are. (old, new, are))
      (works_over g held (AreOfRequests g service.requests old new) survives old new is came)
