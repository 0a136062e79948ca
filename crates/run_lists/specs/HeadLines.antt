-- The head of a run, as its lines say it.
use Rattle.std.specs.Prelude.{◌≡◌, ℕ, List, map, Option, Some, None, option_map, string_bytes, MatchOption, All}
use Rattle.std.specs.Fmt.{decimal}
use Rattle.cg_formulas.specs.declared.heads.FileHead.{FileHead}
use Rattle.run_stores.specs.HeldHeads.{CoefEntry, EventEntry, IsSound, PlacedName, coef_entries, derived_entries, event_entries}
use Rattle.run_lists.specs.declared.head_lines.HeadEvent.{HeadEvent}
use Rattle.run_lists.specs.declared.head_lines.HeadDerived.{HeadDerived}
use Rattle.run_lists.specs.declared.head_lines.HeadCoef.{HeadCoef}

-- of the line of an event its place with its name, and the total that it states
abbrev pub event_place : HeadEvent → PlacedName
event_place e = record { place = e.place; name = e.name.items }

abbrev pub event_total : HeadEvent → Option (List ℕ)
event_total e = option_map string_bytes e.stated

-- the totals that lines state: each of them one, or none
abbrev pub States : List HeadEvent → Option (List ℕ) → Type 0
States lines stated = MatchOption stated (All (λ (line : HeadEvent). line.stated ≡ None) lines) (λ sums. map event_total lines ≡ map (λ n. Some (decimal n)) sums)

-- what a line says: of an event, of a derived event, and of how often an event counts in one
abbrev pub entry_of_event : HeadEvent → EventEntry
entry_of_event e = record { place = e.place; name = e.name.items; stated = option_map string_bytes e.stated }

abbrev pub derived_place : HeadDerived → PlacedName
derived_place d = record { place = d.place; name = d.name.items }

abbrev pub entry_of_coef : HeadCoef → CoefEntry
entry_of_coef c = record { place = c.place; event = c.event; times = c.times }

-- it is what these lines say
pub record IsReadFrom (head : FileHead) (events : List HeadEvent) (derived : List HeadDerived) (coefs : List HeadCoef) : Type 0 where
  pub sound : IsSound head
  pub events_are : map entry_of_event events ≡ event_entries head
  pub derived_are : map derived_place derived ≡ derived_entries head
  pub coefs_are : map entry_of_coef coefs ≡ coef_entries head
