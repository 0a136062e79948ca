use Rattle.std.proofs.Common.{◌≡◌, ◌<◌, ◌^◌, ℕ, Option, Some, None, IfSome, Result, Ok, Err, IfOk, MatchResult, refl, arith}
use Rattle.page_lists.proofs.Among.{shown_rise}
use Rattle.page_lists.proofs.NamesTold.{names_told}
use Rattle.page_places.specs.Stores.{ShowsNames}
use Rattle.page_runs.proofs.Changes.{is_done}
use Rattle.page_runs.proofs.NumberOfName.{is_number}
use Rattle.page_runs.proofs.Serving.{number_failed}
use Rattle.page_runs.proofs.States.{asked}
use Rattle.page_runs.proofs.Taken.{large_shown}
use Rattle.page_runs.proofs.store.PageRunsRunStore.number_of.Goals as goal

if_ok : {T E : Type 0} (r : Result T E) (P F R : T → Type 0) (Q : E → Type 0) → ((x : T) → F x → P x → R x) → IfOk r F → MatchResult r P Q → IfOk r R
if_ok (Ok x) P F R Q so fits p = so x fits p
if_ok (Err e) P F R Q so fits p = tt

ok_fits : {E : Type 0} (r : Result (Option ℕ) E) → ((n : ℕ) → r ≡ Ok (Some n) → n < 2 ^ 64) → IfOk r (λ found. IfSome found (λ n. n < 2 ^ 64))
ok_fits (Ok (Some n)) fits = fits n refl
ok_fits (Ok None) fits = tt
ok_fits (Err e) fits = tt

pub returns-clause-told : goal.returns-clause-told
returns-clause-told g c faithful t is =
    let store = c.args.self.now in
    let shown = large_shown t store is.shows in
    let rise = shown_rise _ _ shown.name_rows shown.names in
    let names : ShowsNames t is.shows.known store.file = record { wanted = is.shows.wanted; db = is.shows.db; stands = is.shows.stands; holds = names_told t is.shows.db is.shows.says.says } in
    let fits : IfOk c.find_name.result (λ found. IfSome found (λ n. n < 2 ^ 64)) = ok_fits c.find_name.result (λ n is. let fits = simp is at c.find_name.type_inv in omega (arith, fits)) in
    if_ok c.find_name.result _ _ _ _ (λ found low is. is_number t c.args.name.now c.is_name.ensures shown.name_rows rise shown.names_are found low is) fits (c.find_name.ensures.told faithful t is.shows.known names is.shows.roots.name_bytes)

pub returns-clause-asks : goal.returns-clause-asks
returns-clause-asks g c = asked _ _ c.find_name.ensures.reads refl refl refl _ (λ done. is_done c.find_name.result done c.find_name.ensures.usable)

pub returns-clause-serves : goal.returns-clause-serves
returns-clause-serves g c = λ faithful t was narrow.
    let store = c.args.self.now in
    let is = was.reads in
    let names : ShowsNames t is.shows.known store.file = record { wanted = is.shows.wanted; db = is.shows.db; stands = is.shows.stands; holds = names_told t is.shows.db is.shows.says.says } in
    number_failed store (record store { file = c.find_name.new.file }) c.find_name.ensures.reads c.find_name.result _ faithful t was narrow (c.find_name.ensures.told faithful t is.shows.known names is.shows.roots.name_bytes)
