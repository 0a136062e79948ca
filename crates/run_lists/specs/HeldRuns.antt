-- The runs that lines name.
use Rattle.std.specs.Prelude.{◌≡◌, ◌<◌, ◌==◌, ◌&&◌, ℕ, Bool, true, List, Option, Some, None, ⊤}
use Rattle.std.specs.List.{AllByRecursion, list_all, list_any}
use Rattle.plain_tables.specs.Changes.{has_run}
use Rattle.plain_tables.specs.Lists.{IsAscending}
use Rattle.plain_tables.specs.Sound.{AreOfRuns}
use Rattle.plain_tables.specs.Tables.{Tables, RunRow, EventRow, DerivedRow, CoefRow, GroupRow, MemberRow}
use Rattle.run_lists.specs.declared.listed.ListedEvent.{ListedEvent}
use Rattle.run_lists.specs.declared.listed.ListedDerived.{ListedDerived}
use Rattle.run_lists.specs.declared.listed.ListedCoef.{ListedCoef}
use Rattle.run_lists.specs.declared.listed.ListedGroup.{ListedGroup}
use Rattle.run_lists.specs.declared.listed.ListedMember.{ListedMember}
use Rattle.run_lists.specs.declared.listed.RunLists.{RunLists}

-- ---- in the tables

-- a baseline, where there is one, is a run that is held
abbrev pub IsOfRun : Tables → Option ℕ → Type 0
IsOfRun t None = ⊤
IsOfRun t (Some run) = has_run t run ≡ true

-- no run is listed twice, and each line of a run, each member and each baseline names one that is held
pub record NameHeldRuns (t : Tables) : Type 0 where
  pub runs_rise : IsAscending (λ (a b : RunRow). a.number < b.number) t.runs
  pub events : AreOfRuns t (λ (e : EventRow). e.run) t.events
  pub derived : AreOfRuns t (λ (d : DerivedRow). d.run) t.derived
  pub coefs : AreOfRuns t (λ (c : CoefRow). c.run) t.coefs
  pub members : AreOfRuns t (λ (m : MemberRow). m.run) t.members
  pub baselines : AllByRecursion (λ (g : GroupRow). IsOfRun t g.baseline) t.groups

-- ---- in the lists

abbrev pub is_one_of : List ℕ → ℕ → Bool
is_one_of runs run = list_any (λ n. n == run) runs

abbrev pub is_none_or_one_of : List ℕ → Option ℕ → Bool
is_none_or_one_of runs None = true
is_none_or_one_of runs (Some run) = is_one_of runs run

-- whether all lines name some of these runs
abbrev pub name_some : List ℕ → RunLists → Bool
name_some runs lists =
    list_all (λ (e : ListedEvent). is_one_of runs e.run) lists.events && list_all (λ (d : ListedDerived). is_one_of runs d.run) lists.derived
    && list_all (λ (c : ListedCoef). is_one_of runs c.run) lists.coefs && list_all (λ (m : ListedMember). is_one_of runs m.run) lists.members.items
    && list_all (λ (g : ListedGroup). is_none_or_one_of runs g.baseline) lists.groups.items
