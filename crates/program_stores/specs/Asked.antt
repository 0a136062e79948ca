-- What a plan asks for.
use Rattle.std.specs.Prelude.{◌≡◌, map, Some}
use Rattle.command_line.specs.declared.plans.Plan.{Plan}
use Rattle.command_line.specs.declared.plans.Plan.TheVariants as plans
use Rattle.requests.specs.Plain.{plain_request}
use Rattle.command_line.specs.Commands.{HasCommands, commands_by, store_of}
use Rattle.program_stores.specs.declared.jobs.Job.{Job}
use Rattle.program_stores.specs.declared.jobs.Job.TheVariants as jobs
use Rattle.program_stores.specs.declared.running.Asked.{Asked}
use Rattle.program_stores.specs.declared.running.Asked.TheVariants as asked
use Rattle.program_stores.specs.declared.running.HeldJob.{HeldJob}
use Rattle.program_stores.specs.declared.running.HeldJob.TheVariants as held

-- the total of the file at its path; its commands over the store at its path; or that store served as it says
abbrev pub IsAskedBy : Plan → Asked → Type 0
IsAskedBy plan (asked.Total path) = plan ≡ plans.Total path
IsAskedBy plan (asked.Job db (held.Run commands)) = HasCommands plan × (store_of plan ≡ Some db.now) × (map plain_request commands ≡ commands_by plan)
IsAskedBy plan (asked.Job db (held.Serve service)) = plan ≡ plans.Serve db service.port service.requests service.most service.log

-- the same commands, lent; or the same service
abbrev pub IsLentBy : HeldJob → Job → Type 0
IsLentBy (held.Run commands) (jobs.Run lent) = lent.now ≡ commands
IsLentBy (held.Serve service) (jobs.Serve same) = same ≡ service
IsLentBy held job = ⊥
