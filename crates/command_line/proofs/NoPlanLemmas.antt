-- Where a part of a plan is missing, no plan is one.
use Rattle.std.proofs.Common.{◌≢◌, refl, inl, inr, ℕ, List, [], ◌∷◌, map, Option, Some, IfSome, sym, subst, codes, ◌≤◌}
use Rattle.std.specs.Bool.{MatchBool}
use Rattle.std.specs.Str.{bytes_eq}
use Rattle.std.specs.Borrow.{Bor}
use Rattle.clap.specs.Walk.{Row, Text}
use Rattle.cost_rows.specs.Keys.{key_name}
use Rattle.cost_rows.specs.declared.keys.Key.{Key}
use Rattle.requests.specs.Plain.{LentSelection}
use Rattle.command_line.specs.declared.plans.Plan.{Plan}
use Rattle.command_line.specs.declared.plans.Plan.TheVariants as plans
use Rattle.command_line.specs.Plans.{HasLess, HasNoPlan, HasNumber, HasMember, HasRuns, HasSelection, HasWord, HasWords, IsByteCount, IsLimit, IsOneOf, IsPlanned, IsPort, IsRequestCount}
use Rattle.command_line.specs.Plans.{IsSoundSelection, SaysNumber, memberships}

-- ---- what a plan needs of the rows

-- some value has the property
abbrev Any : {T : Type 0} → (T → Type 0) → Type 0
Any {T} P = (x : T) × P x

abbrev NeedsWord : List Row → Text → Type 0
NeedsWord rows id = Any (HasWord rows id)

abbrev NeedsFiles : List Row → Type 0
NeedsFiles rows = Any (HasWords rows (codes "FILE"))

abbrev NeedsRuns : List Row → Type 0
NeedsRuns rows = Any (HasRuns rows)

abbrev NeedsMember : List Row → Type 0
NeedsMember rows = Any (HasMember rows)

abbrev NeedsSelection : List Row → Type 0
NeedsSelection rows = Any (λ (runs : LentSelection). IsSoundSelection runs × HasSelection rows runs)

abbrev NeedsLess : List Row → Type 0
NeedsLess rows = Any (λ (less : Option LentSelection). IfSome less IsSoundSelection × HasLess rows less)

abbrev NeedsKey : List Row → Type 0
NeedsKey rows = Any (λ (key : Key). HasWord rows (codes "KEY") (key_name key))

abbrev NeedsLimit : List Row → Type 0
NeedsLimit rows = Any (λ (limit : Option ℕ). IfSome limit IsLimit × HasNumber rows (codes "limit") limit)

abbrev NeedsThreshold : List Row → Type 0
NeedsThreshold rows = Any (λ (percent : ℕ). (percent ≤ 100) × HasNumber rows (codes "threshold") (Some percent))

abbrev NeedsPort : List Row → Type 0
NeedsPort rows = Any (λ (port : ℕ). IsPort port × HasNumber rows (codes "port") (Some port))

abbrev NeedsNumber : List Row → Text → (ℕ → Type 0) → Type 0
NeedsNumber rows id P = Any (λ (number : ℕ). P number × SaysNumber rows id number)

abbrev NeedsCall : List Row → Type 0
NeedsCall rows = NeedsSelection rows × NeedsWord rows (codes "event") × NeedsWord rows (codes "object") × NeedsWord rows (codes "FUNCTION")

-- by the name of the subcommand
abbrev pub Needs : Text → List Row → Type 0
Needs name rows =
    MatchBool (bytes_eq name (codes "total")) (NeedsWord rows (codes "FILE"))
    (MatchBool (bytes_eq name (codes "import")) (NeedsFiles rows)
    (MatchBool (bytes_eq name (codes "remove")) (NeedsRuns rows)
    (MatchBool (bytes_eq name (codes "group")) (NeedsWord rows (codes "NAME"))
    (MatchBool (bytes_eq name (codes "join")) (NeedsMember rows)
    (MatchBool (bytes_eq name (codes "leave")) (NeedsMember rows)
    (MatchBool (bytes_eq name (codes "baseline")) (NeedsMember rows)
    (MatchBool (bytes_eq name (codes "by")) (NeedsSelection rows × NeedsWord rows (codes "event") × NeedsLimit rows × NeedsThreshold rows × NeedsKey rows)
    (MatchBool (bytes_eq name (codes "inclusive")) (NeedsSelection rows × NeedsWord rows (codes "event"))
    (MatchBool (bytes_eq name (codes "callers")) (NeedsCall rows)
    (MatchBool (bytes_eq name (codes "callees")) (NeedsCall rows)
    (MatchBool (bytes_eq name (codes "subtract")) (NeedsSelection rows × NeedsLess rows × NeedsWord rows (codes "event") × NeedsKey rows)
    (MatchBool (bytes_eq name (codes "verify")) (NeedsSelection rows)
    (MatchBool (bytes_eq name (codes "annotate")) (NeedsSelection rows × NeedsWord rows (codes "event") × NeedsWord rows (codes "file") × NeedsWord rows (codes "SOURCE"))
    (MatchBool (bytes_eq name (codes "csv")) (NeedsSelection rows)
    (MatchBool (bytes_eq name (codes "folded")) (NeedsSelection rows)
    (MatchBool (bytes_eq name (codes "serve"))
    (NeedsPort rows × NeedsNumber rows (codes "requests") IsRequestCount × NeedsNumber rows (codes "most-bytes") IsByteCount)
    (Unit {0})))))))))))))))))

texts_some : (files : List (Bor Text)) → files ≢ [] → map (λ file. file.now) files ≢ []
texts_some [] some = absurd (some refl)
texts_some (file ∷ files) some = λ is. absurd cc

-- what is needed for the plan
needed_of : (rows : List Row) (name : Text) (plan : Plan) → IsPlanned name rows plan → Needs name rows
needed_of rows name (plans.Total path) p = subst (λ n. Needs n rows) (sym p.of.0) (path.now, p.of.1)
needed_of rows name (plans.Import db kind files) p = subst (λ n. Needs n rows) (sym p.of.0) (map (λ (file : Bor Text). file.now) files, (texts_some files p.sound, p.of.3))
needed_of rows name (plans.Remove db numbers) p = subst (λ n. Needs n rows) (sym p.of.0) (numbers, (p.sound.0, p.sound.1, p.of.2))
needed_of rows name (plans.Runs db) p = subst (λ n. Needs n rows) (sym p.of.0) tt
needed_of rows name (plans.Group db drop group) p = subst (λ n. Needs n rows) (sym p.of.0) (group.now, p.of.3)
needed_of rows name (plans.Join db group number) p = subst (λ n. Needs n rows) (sym p.of.0) ((group.now, number), (p.of.2, p.sound, p.of.3))
needed_of rows name (plans.Leave db group number) p = subst (λ n. Needs n rows) (sym p.of.0) ((group.now, number), (p.of.2, p.sound, p.of.3))
needed_of rows name (plans.Baseline db group number) p = subst (λ n. Needs n rows) (sym p.of.0) ((group.now, number), (p.of.2, p.sound, p.of.3))
needed_of rows name (plans.Groups db) p = subst (λ n. Needs n rows) (sym p.of.0) tt
needed_of rows name (plans.By db runs event limit threshold key) p =
    subst (λ n. Needs n rows) (sym p.of.0)
    ((runs, (p.sound.0, p.of.2)), (event.now, p.of.3), (limit, (p.sound.1, p.of.4)), (threshold, (p.sound.2, p.of.5)), (key, p.of.6))
needed_of rows name (plans.Inclusive db runs event) p = subst (λ n. Needs n rows) (sym p.of.0) ((runs, (p.sound, p.of.2)), (event.now, p.of.3))
needed_of rows name (plans.Callers db runs event object function) p =
    subst (λ n. Needs n rows) (sym p.of.0) ((runs, (p.sound, p.of.2)), (event.now, p.of.3), (object.now, p.of.4), (function.now, p.of.5))
needed_of rows name (plans.Callees db runs event object function) p =
    subst (λ n. Needs n rows) (sym p.of.0) ((runs, (p.sound, p.of.2)), (event.now, p.of.3), (object.now, p.of.4), (function.now, p.of.5))
needed_of rows name (plans.Subtract db runs less event key) p =
    subst (λ n. Needs n rows) (sym p.of.0) ((runs, (p.sound.0, p.of.2)), (less, (p.sound.1, p.of.3)), (event.now, p.of.4), (key, p.of.5))
needed_of rows name (plans.Verify db runs) p = subst (λ n. Needs n rows) (sym p.of.0) (runs, (p.sound, p.of.2))
needed_of rows name (plans.Annotate db runs event file source) p =
    subst (λ n. Needs n rows) (sym p.of.0) ((runs, (p.sound, p.of.2)), (event.now, p.of.3), (file.now, p.of.4), (source.now, p.of.5))
needed_of rows name (plans.Csv db runs) p = subst (λ n. Needs n rows) (sym p.of.0) (runs, (p.sound, p.of.2))
needed_of rows name (plans.Folded db runs) p = subst (λ n. Needs n rows) (sym p.of.0) (runs, (p.sound, p.of.2))
needed_of rows name (plans.Serve db port requests most_bytes log) p =
    subst (λ n. Needs n rows) (sym p.of.0) ((port, (p.sound.0, p.of.2)), (requests, (p.sound.1, p.of.3)), (most_bytes, (p.sound.2, p.of.4)))

-- where that is not to be had, there is no plan
pub without : (rows : List Row) (name : Text) → (Needs name rows → ⊥) → HasNoPlan (Some (name, rows))
without rows name missing plan p = missing (needed_of rows name plan p)

-- the name of one that sets what a run and a group are to each other
pub no_member : (rows : List Row) (name : Text) → (NeedsMember rows → ⊥) → IsOneOf memberships name → HasNoPlan (Some (name, rows))
no_member rows name missing (inl is) = subst (λ n. HasNoPlan (Some (n, rows))) (sym is) (without rows (codes "join") missing)
no_member rows name missing (inr (inl is)) = subst (λ n. HasNoPlan (Some (n, rows))) (sym is) (without rows (codes "leave") missing)
no_member rows name missing (inr (inr (inl is))) = subst (λ n. HasNoPlan (Some (n, rows))) (sym is) (without rows (codes "baseline") missing)
no_member rows name missing (inr (inr (inr e))) = absurd e
