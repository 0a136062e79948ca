-- The routes of the table, and the place of a path.
use Rattle.std.specs.Prelude.{ℕ, List, [], ◌∷◌, Option, Result, Ok, Err}
use Rattle.std.specs.Option.{option_map}
use Rattle.matchit.specs.Seek.{first}
use Rattle.matchit.specs.Rows.{RowsOf}
use Rattle.matchit.specs.Order.{placed}
use Rattle.matchit.specs.Route.{Scan, parse_route}
use Rattle.matchit.specs.Router.{RouteOf, route_from}
use Rattle.matchit.specs.declared.error.InsertError.{InsertError}
use Rattle.http_exchange.specs.declared.places.Place.{Place}
use Rattle.http_exchange.specs.Places.{places, pattern_of}

-- the routes with one more, as `matchit` keeps them
abbrev pub with_read : Result Scan InsertError → Place → RowsOf (RouteOf Place) → RowsOf (RouteOf Place)
with_read (Ok scan) place rows = placed (scan.pattern, route_from scan place) rows
with_read (Err error) place rows = rows

abbrev pub with_place : RowsOf (RouteOf Place) → Place → RowsOf (RouteOf Place)
with_place rows place = with_read (parse_route (pattern_of place)) place rows

abbrev pub with_places : RowsOf (RouteOf Place) → List Place → RowsOf (RouteOf Place)
with_places rows [] = rows
with_places rows (place ∷ more) = with_places (with_place rows place) more

unfoldable pub routes : RowsOf (RouteOf Place)
routes = with_places [] places

-- the place of a path: that of the first route, a literal one before a pattern
abbrev pub place_of : List ℕ → Option Place
place_of path = option_map (λ (route : RouteOf Place). route.value) (first routes path)
