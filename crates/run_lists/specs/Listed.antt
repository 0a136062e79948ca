-- The rows of lists, beside those of the tables.
use Rattle.std.specs.Prelude.{◌≡◌, map, option_map, string_bytes}
use Rattle.plain_tables.specs.Tables.{Tables, RunRow, EventRow, DerivedRow, CoefRow, GroupRow, MemberRow}
use Rattle.profile_records.specs.Kinds.{kind_number}
use Rattle.run_lists.specs.declared.listed.ListedRun.{ListedRun}
use Rattle.run_lists.specs.declared.listed.ListedEvent.{ListedEvent}
use Rattle.run_lists.specs.declared.listed.ListedDerived.{ListedDerived}
use Rattle.run_lists.specs.declared.listed.ListedCoef.{ListedCoef}
use Rattle.run_lists.specs.declared.listed.ListedGroup.{ListedGroup}
use Rattle.run_lists.specs.declared.listed.ListedMember.{ListedMember}
use Rattle.run_lists.specs.declared.listed.RunLists.{RunLists}

abbrev pub run_row : ListedRun → RunRow
run_row r = record { number = r.entry.number; kind = kind_number r.entry.kind; digest = r.entry.digest; label = string_bytes r.entry.label; call_count = r.call_count }

abbrev pub event_row : ListedEvent → EventRow
event_row e = record { run = e.run; place = e.place; name = e.name.items; self_cost = e.self_cost; call_cost = e.call_cost; stated = option_map string_bytes e.stated }

abbrev pub derived_row : ListedDerived → DerivedRow
derived_row d = record { run = d.run; place = d.place; name = d.name.items }

abbrev pub coef_row : ListedCoef → CoefRow
coef_row c = record { run = c.run; place = c.place; event = c.event; times = c.times }

abbrev pub group_row : ListedGroup → GroupRow
group_row g = record { name = string_bytes g.name; baseline = g.baseline }

abbrev pub member_row : ListedMember → MemberRow
member_row m = record { group = string_bytes m.group; run = m.run }

-- the lists have the rows of the small tables, in order
pub record AreListed (t : Tables) (lists : RunLists) : Type 0 where
  pub next : lists.next ≡ t.next
  pub runs : map run_row lists.runs.items ≡ t.runs
  pub events : map event_row lists.events ≡ t.events
  pub derived : map derived_row lists.derived ≡ t.derived
  pub coefs : map coef_row lists.coefs ≡ t.coefs
  pub groups : map group_row lists.groups.items ≡ t.groups
  pub members : map member_row lists.members.items ≡ t.members
