-- The theorem of the program: what a work comes to over the store that files hold.
use Rattle.std.specs.Prelude.{ℕ, ◌++◌, List, Option}
use Rattle.run_stores.specs.declared.states.StoreState.{Ghosts}
use Rattle.run_stores.specs.Calls.{IsFaithful}
use Rattle.plain_tables.specs.Tables.{Tables}
use Rattle.histories.specs.History.{History}
use Rattle.histories.specs.Legal.{AreLegal}
use Rattle.histories.specs.Standard.{IsStandard}
use Rattle.histories.specs.declared.limits.Limits.{Limits}
use Rattle.histories.specs.Answered.{HasHistory}
use Rattle.histories.specs.Left.{LeavesHistory}
use Rattle.store_paths.specs.Opened.{HoldHistory}
use Rattle.program_stores.specs.declared.jobs.Done.{Done}
use Rattle.program_stores.specs.declared.jobs.Job.{Job}
use Rattle.program_stores.specs.Jobs.{Tells}

module _ {S : Type 0} (g : Ghosts S) where
  -- under the standard limits there are steps that are legal after a history, of which this is said; the store has the history with them, and a crash leaves rows of that, or of what may become of it
  pub record Extends (h : History) (Says : Limits → History → Type 0) (store : S) : Type 0 where
    pub limits : Limits
    pub standard : IsStandard limits
    pub steps : History
    pub legal : AreLegal limits h steps
    pub says : Says limits steps
    pub after : HasHistory g (h ++ steps) store
    pub left : LeavesHistory g limits (h ++ steps) store

  -- files held rows: whichever history these represent, it was extended, if what was written is what was read
  abbrev pub Works : (Tables → Type 0) → (Limits → History → Type 0) → S → Type 0
  Works held Says store = IsFaithful g store → (h : History) → HoldHistory held h → Extends h Says store

module _ {F W S : Type 0} (remaining : F → Option (List ℕ)) (contents : W → Option (List ℕ)) (g : Ghosts S) where
  -- a job was done over files that held rows, and printed behind what stood there
  abbrev pub WasDone : (Tables → Type 0) → Job → Option (List ℕ) → Done S W → Type 0
  WasDone held job start done = Works g held (Tells remaining contents g job start done.came_to done.out) done.store
