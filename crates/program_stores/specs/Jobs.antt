-- What a job wants of the store that is opened for it, and what is said of its steps.
use Rattle.std.specs.Prelude.{◌≡◌, ℕ, Bool, false, List, Option, Result}
use Rattle.std.specs.List.{list_all}
use Rattle.run_stores.specs.declared.states.StoreState.{Ghosts}
use Rattle.histories.specs.History.{History}
use Rattle.histories.specs.declared.limits.Limits.{Limits}
use Rattle.program_stores.specs.declared.jobs.Job.{Job}
use Rattle.program_stores.specs.declared.jobs.Job.TheVariants as jobs
use Rattle.requests.specs.Plain.{only_reads}
use Rattle.program_stores.specs.Sessions.{Wants}
use Rattle.program_stores.specs.Works.{WerePrinted}
use Rattle.prof_http.specs.Served.{AreOfRequests}

-- cells of small runs that are kept in memory: a server is asked again and again
abbrev pub cells_to_keep : Job → ℕ
cells_to_keep (jobs.Run commands) = 0
cells_to_keep (jobs.Serve service) = 65536

-- whether nothing is changed, whatever the store holds
abbrev pub changes_nothing : Job → Bool
changes_nothing (jobs.Run commands) = list_all only_reads commands.now
changes_nothing (jobs.Serve service) = false

module _ {F W S : Type 0} (remaining : F → Option (List ℕ)) (contents : W → Option (List ℕ)) (g : Ghosts S) where
  -- what is said of the steps of a job: of commands, that they are those, in turn, and their lines printed behind what stood there, or where that failed the first of those and a front of their lines; of a server, that they are of its requests
  abbrev pub Tells : {E : Type 0} → Job → Option (List ℕ) → Result ℕ E → W → Limits → History → Type 0
  Tells (jobs.Run commands) start result out limits steps = (from : W) × (contents from ≡ start) × WerePrinted contents (Wants remaining commands.now) result from out steps
  Tells (jobs.Serve service) start result out limits steps = (old new : S) × AreOfRequests g service.requests old new limits steps
