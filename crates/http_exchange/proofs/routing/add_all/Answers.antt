use Rattle.std.proofs.Common.{◌≡◌, ℕ, ◌+◌, ◌<◌, List, [], ◌∷◌, ◌++◌, take, length, get_or, refl, sym, add-one, ap, ◌∙◌, arith}
use Rattle.std.proofs.Math.Seq.{take-suc}
use Rattle.matchit.specs.Rows.{RowsOf}
use Rattle.matchit.specs.Router.{RouteOf}
use Rattle.http_exchange.specs.Places.{places}
use Rattle.http_exchange.specs.Routes.{with_places, with_place, routes}
use Rattle.http_exchange.specs.declared.places.Place.{Place}
use Rattle.http_exchange.proofs.routing.add_all.Goals as goal

with_append : (rows : RowsOf (RouteOf Place)) (a b : List Place) → with_places rows (a ++ b) ≡ with_places (with_places rows a) b
with_append rows [] b = refl
with_append rows (place ∷ a) b = with_append (with_place rows place) a b

with_next : (i : ℕ) (d : Place) → i < length places → with_places [] (take (i + 1) places) ≡ with_place (with_places [] (take i places)) (get_or places i d)
with_next i d few = rw add-one (ap (with_places []) (take-suc places i d few) ∙ with_append [] (take i places) (get_or places i d ∷ []))

pub loop-place-init : goal.loop-place-init
loop-place-init c = c.requires

step : (i : ℕ) (d : Place) (old new : RowsOf (RouteOf Place)) → old ≡ with_places [] (take i places) → i < length places → new ≡ with_place old (get_or places i d) → new ≡ with_places [] (take (i + 1) places)
step i d old new was few is = is ∙ ap (λ r. with_place r (get_or places i d)) was ∙ sym (with_next i d few)

pub loop-place-preserved : goal.loop-place-preserved
loop-place-preserved c = step c.loop-place.place-index _ _ _ c.loop-place.invariant c.loop-place-test.true c.in_ok-add.ensures

all_of : (i : ℕ) → i ≡ 25 → with_places [] (take i places) ≡ routes
unfolding routes
all_of i e = ap (λ n. with_places [] (take n places)) e

pub returns : goal.returns
returns c =
    c.loop-place.invariant ∙ all_of c.loop-place.place-index (omega (arith, c.loop-place-test.false, c.loop-place.auto.place-index-end))
