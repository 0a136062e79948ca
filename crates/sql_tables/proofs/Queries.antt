-- A query on one table, and what it leaves.
use Rattle.sql_tables.proofs.Rows.{passes}
use Rattle.sql_tables.specs.Queries.{scan}
use Rattle.std.proofs.Common.{◌≡◌, ◌⊎◌, inl, inr, ℕ, List, [], ◌∷◌, ◌++◌, map, filter, flat_map, Bool, true, false, cond, Err, Option, Some, None, refl, sym, ap, subst, ◌∙◌}
use Rattle.std.specs.List.{list_all}
use Rattle.std.specs.Prelude.{IsPermutation, IsSorted}
use Rattle.sqlite_trees.proofs.ListLemmas.{all-permutation}
use Rattle.sqlite_rules.specs.Lists.{Has}
use Rattle.sqlite_rules.proofs.ListLemmas.{all_has, all_from}
use Rattle.sqlite_rules.proofs.ProbeLemmas.{has_mapped, mapped_has}
use Rattle.std.proofs.lemmas.List.Sorted.{IsPermutation-sym}
use Rattle.sqlite_value.specs.Order.{Row}
use Rattle.sqlite_value.specs.declared.keys.Key.{Key}
use Rattle.sqlite_trees.specs.Tree.{Trees}
use Rattle.sqlite_sql.specs.Term.{Term, Env, holds}
use Rattle.sqlite_sql.specs.Query.{Query, Output, IsAnswer, output, output_cmp}
use Rattle.sqlite.specs.declared.error.Error.{Error}
use Rattle.sqlite_schema.specs.declared.command.Returning.{Returning}
use Rattle.sqlite.specs.Clock.{timed}
use Rattle.sqlite.specs.State.{FailsToShow, State, IsUnchanged, IsRolledBack, FailsToQuery, IsNotRun}

-- a query that fails changes nothing, or rolls back, whatever its text
pub failed_keeps : (sql : List ℕ) (params : Row) (old new : State) (e : Error) → FailsToQuery sql params old new e → IsUnchanged old new ⊎ IsRolledBack old new
unfolding FailsToQuery IsNotRun
failed_keeps sql params old new e (inl (inl h)) = inl h.1
failed_keeps sql params old new e (inl (inr h)) = inr h.3
failed_keeps sql params old new e (inr h) = shown_or_run h.0.returning h.2
  where
    shown_or_run : (returning : Option Returning) → FailsToShow old new sql h.0 (timed params h.0.formats h.1.now) e returning → IsUnchanged old new ⊎ IsRolledBack old new
    shown_or_run None k = inl k.3
    shown_or_run (Some what) (inl k) = inl k.1
    shown_or_run (Some what) (inr k) = inr k.3

module _ (tree : ℕ) (terms : List Term) (project : List Term) (order : List (Term × Key)) where
  abbrev pub sorted_scan : Query
  sorted_scan = record (scan tree terms project) { order = order }

  pub matched : (params : Row) (rows : List Row) → flat_map (λ r. cond (list_all (holds (params ∷ r ∷ [])) terms) ((params ∷ r ∷ []) ∷ []) []) rows ≡ map (λ r. params ∷ r ∷ []) (filter (passes params terms) rows)
  matched params [] = refl
  matched params (r ∷ rows) = go (passes params terms r) (matched params rows)
    where
      rest : List Env
      rest = flat_map (λ q. cond (list_all (holds (params ∷ q ∷ [])) terms) ((params ∷ q ∷ []) ∷ []) []) rows

      go : (b : Bool) → flat_map (λ q. cond (list_all (holds (params ∷ q ∷ [])) terms) ((params ∷ q ∷ []) ∷ []) []) rows ≡ map (λ q. params ∷ q ∷ []) (filter (passes params terms) rows)
          → cond b ((params ∷ r ∷ []) ∷ []) [] ++ flat_map (λ q. cond (list_all (holds (params ∷ q ∷ [])) terms) ((params ∷ q ∷ []) ∷ []) []) rows
          ≡ map (λ q. params ∷ q ∷ []) (cond b (r ∷ filter (passes params terms) rows) (filter (passes params terms) rows))
      go true more = ap (λ l. (params ∷ r ∷ []) ∷ l) more
      go false more = more

  -- what the rows are sorted by and what they show, in an order that ORDER BY allows
  pub record Selects (rows : List Row) (params : Row) (answer : List Row) : Type 0 where
    pub ordered : List Output
    pub same : IsPermutation (map (output sorted_scan) (map (λ r. params ∷ r ∷ []) (filter (passes params terms) rows))) ordered
    pub sorted : IsSorted (output_cmp sorted_scan) ordered
    pub shown : answer ≡ map (λ (o : Output). o.1) ordered

  pub selects : (db : Trees) (params : Row) (answer : List Row) → IsAnswer sorted_scan db params answer → Selects (db tree) params answer
  selects db params answer a = record {
    ordered = a.ordered;
    same = subst (λ l. IsPermutation l a.ordered) (a.distinct ∙ ap (map (output sorted_scan)) (a.grouped ∙ matched params (db tree))) a.same;
    sorted = a.sorted;
    shown = a.shown;
  }

pub has_permuted : {X : Type 0} (xs ys : List X) (x : X) → IsPermutation xs ys → Has ys x → Has xs x
has_permuted xs ys x same = all_has (Has xs) ys x (all-permutation (Has xs) xs ys same (all_from (Has xs) xs (λ e h. h)))

pub has_kept : {X : Type 0} (p : X → Bool) (xs : List X) (x : X) → Has (filter p xs) x → Has xs x × (p x ≡ true)
has_kept p [] x h = absurd h
has_kept {X} p (y ∷ xs) x h = go (p y) refl h (has_kept p xs x)
  where
    go : (b : Bool) → p y ≡ b → Has (cond b (y ∷ filter p xs) (filter p xs)) x → (Has (filter p xs) x → Has xs x × (p x ≡ true)) → Has (y ∷ xs) x × (p x ≡ true)
    go true is (inl same) more = (inl same, ap p same ∙ is)
    go true is (inr later) more = let it = more later in (inr it.0, it.1)
    go false is later more = let it = more later in (inr it.0, it.1)

-- each row of the answer shows a row of the table that passes
pub shown_row : (tree : ℕ) (terms project : List Term) (order : List (Term × Key)) (rows : List Row) (params : Row) (answer : List Row) → Selects tree terms project order rows params answer → (x : Row) → Has answer x
    → (r : Row) × Has rows r × (passes params terms r ≡ true) × (x ≡ (output (sorted_scan tree terms project order) (params ∷ r ∷ [])).1)
shown_row tree terms project order rows params answer s x h =
    let q = sorted_scan tree terms project order in
    let o = has_mapped (λ (k : Output). k.1) s.ordered x (subst (λ l. Has l x) s.shown h) in
    let e = has_mapped (output q) _ o.0 (has_permuted _ s.ordered o.0 s.same o.1) in
    let r = has_mapped (λ (k : Row). params ∷ k ∷ []) (filter (passes params terms) rows) e.0 e.1 in
    let k = has_kept (passes params terms) rows r.0 r.1 in
    (r.0, k.0, k.1, o.2 ∙ ap (λ (p : Output). p.1) (e.2 ∙ ap (output q) r.2))

pub kept_has : {X : Type 0} (p : X → Bool) (xs : List X) (x : X) → Has xs x → p x ≡ true → Has (filter p xs) x
kept_has p [] x h is = absurd h
kept_has p (y ∷ xs) x (inl same) is = rw (← same, is) (inl refl)
kept_has {X} p (y ∷ xs) x (inr later) is = go (p y) (kept_has p xs x later is)
  where
    go : (b : Bool) → Has (filter p xs) x → Has (cond b (y ∷ filter p xs) (filter p xs)) x
    go true h = inr h
    go false h = h

-- and each that passes is shown
pub row_shown : (tree : ℕ) (terms project : List Term) (order : List (Term × Key)) (rows : List Row) (params : Row) (answer : List Row) → Selects tree terms project order rows params answer
    → (r : Row) → Has rows r → passes params terms r ≡ true → Has answer ((output (sorted_scan tree terms project order) (params ∷ r ∷ [])).1)
row_shown tree terms project order rows params answer s r h is =
    let q = sorted_scan tree terms project order in
    let there = mapped_has (output q) _ (params ∷ r ∷ []) (mapped_has (λ (k : Row). params ∷ k ∷ []) _ r (kept_has (passes params terms) rows r h is)) in
    let o = has_permuted s.ordered _ (output q (params ∷ r ∷ [])) (IsPermutation-sym _ _ s.same) there in
    subst (λ l. Has l (output q (params ∷ r ∷ [])).1) (sym s.shown) (mapped_has (λ (k : Output). k.1) s.ordered _ o)
