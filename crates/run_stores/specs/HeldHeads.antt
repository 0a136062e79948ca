-- The head of a run, as its rows say it.
use Rattle.std.specs.Prelude.{◌≡◌, ◌<◌, ◌^◌, ℕ, suc, nat_lt, ◌==◌, if◌then◌else◌, IsTrue, List, [], ◌∷◌, ◌++◌, map, filter, length, Option, Some, None, unwrap_or, IfSome, All, IsPermutation, true}
use Rattle.std.specs.Fmt.{decimal}
use Rattle.cg_text.specs.Distinct.{are_distinct}
use Rattle.cg_formulas.specs.declared.heads.FileHead.{FileHead}
use Rattle.plain_tables.specs.Changes.{has_run}
use Rattle.plain_tables.specs.Tables.{Tables, EventRow, DerivedRow, CoefRow}

-- ---- names

-- a name and its place
pub record PlacedName : Type 0 where
  pub place : ℕ
  pub name : List ℕ

-- from a place on
abbrev pub placed : ℕ → List (List ℕ) → List PlacedName
placed at [] = []
placed at (name ∷ names) = record { place = at; name = name } ∷ placed (suc at) names

-- ---- events

-- what is said of an event: its place, its name, and the total that the file states, in decimal
pub record EventEntry : Type 0 where
  pub place : ℕ
  pub name : List ℕ
  pub stated : Option (List ℕ)

-- from a place on; a total that is not there is none
abbrev pub events_from : ℕ → List (List ℕ) → List ℕ → List EventEntry
events_from at [] sums = []
events_from at (name ∷ names) [] = record { place = at; name = name; stated = None } ∷ events_from (suc at) names []
events_from at (name ∷ names) (sum ∷ sums) = record { place = at; name = name; stated = Some (decimal sum) } ∷ events_from (suc at) names sums

abbrev pub event_entries : FileHead → List EventEntry
event_entries head = events_from 0 head.events (unwrap_or head.stated [])

-- ---- derived events

abbrev pub derived_names : FileHead → List (List ℕ)
derived_names head = map (λ d. d.0) head.derived.derived

abbrev pub derived_entries : FileHead → List PlacedName
derived_entries head = placed 0 (derived_names head)

-- ---- coefficients

-- how often an event counts in a derived one, both by their places
pub record CoefEntry : Type 0 where
  pub place : ℕ
  pub event : ℕ
  pub times : ℕ

-- those of a derived event that are above 0, from an event on
abbrev pub coefs_at : ℕ → ℕ → List ℕ → List CoefEntry
coefs_at place event [] = []
coefs_at place event (times ∷ row) =
    if nat_lt 0 times then record { place = place; event = event; times = times } ∷ coefs_at place (suc event) row
    else coefs_at place (suc event) row

-- those of derived events, from a place on
abbrev pub coefs_from : ℕ → List (List ℕ) → List CoefEntry
coefs_from place [] = []
coefs_from place (row ∷ rows) = coefs_at place 0 row ++ coefs_from (suc place) rows

abbrev pub coef_entries : FileHead → List CoefEntry
coef_entries head = coefs_from 0 (map (λ d. d.1) head.derived.derived)

-- ---- what rows say

abbrev pub event_of_line : EventRow → EventEntry
event_of_line e = record { place = e.place; name = e.name; stated = e.stated }

abbrev pub name_of_line : DerivedRow → PlacedName
name_of_line d = record { place = d.place; name = d.name }

abbrev pub coef_of_line : CoefRow → CoefEntry
coef_of_line c = record { place = c.place; event = c.event; times = c.times }

-- ---- the head

-- it has coefficients for its own events, states a total for all of them or for none, and no name twice
pub record IsSound (head : FileHead) : Type 0 where
  pub events_same : head.derived.events ≡ head.events
  pub stated_all : IfSome head.stated (λ sums. length sums ≡ length head.events)
  pub distinct : are_distinct (head.events ++ derived_names head) ≡ true

-- the totals that it states are numbers of 128 bits
abbrev pub StatesNumbers : FileHead → Type 0
StatesNumbers head = IfSome head.stated (All (λ sum. sum < 2 ^ 128))

-- the run is held, and its rows say the head, in whatever order
pub record IsHeadIn (run : ℕ) (t : Tables) (head : FileHead) : Type 0 where
  pub is_held : IsTrue (has_run t run)
  pub sound : IsSound head
  pub events_are : IsPermutation (map event_of_line (filter (λ (e : EventRow). e.run == run) t.events)) (event_entries head)
  pub derived_are : IsPermutation (map name_of_line (filter (λ (d : DerivedRow). d.run == run) t.derived)) (derived_entries head)
  pub coefs_are : IsPermutation (map coef_of_line (filter (λ (c : CoefRow). c.run == run) t.coefs)) (coef_entries head)

-- the run has such a head
pub record HasHead (run : ℕ) (t : Tables) : Type 0 where
  pub head : FileHead
  pub is : IsHeadIn run t head
  pub numbers : StatesNumbers head
