-- Tables that a step does not change.
use Rattle.std.proofs.Common.{◌≡◌, ◌==◌, ◌||◌, ◌++◌, ℕ, Bool, true, false, not, List, [], ◌∷◌, inl, inr, refl, sym, ap, ◌∙◌, eq-eqb}
use Rattle.std.specs.List.{list_all, list_any}
use Rattle.std.proofs.lemmas.Bool.{and_parts}
use Rattle.sqlite_rules.specs.Lists.{Has}
use Rattle.sqlite_schema.specs.declared.schema.Table.{Table}
use Rattle.sqlite_trees.specs.Tree.{Trees}
use Rattle.line_fills.specs.Filled.{trees_over}
use Rattle.prof_store.specs.Schema.{schema_two}
use Rattle.page_places.specs.TableChanges.{OnlyChanges, SparesBut}
use Rattle.page_imports.specs.Steps.{KeepsOthers}

either_false : (a b : Bool) → (a || b) ≡ false → (a ≡ false) × (b ≡ false)
either_false true b none = absurd cc
either_false false b none = (refl, none)

any_parts : {X : Type 0} (p : X → Bool) (xs ys : List X) → list_any p (xs ++ ys) ≡ false → (list_any p xs ≡ false) × (list_any p ys ≡ false)
any_parts p [] ys none = (refl, none)
any_parts p (x ∷ xs) ys none =
    let here = either_false (p x) (list_any p (xs ++ ys)) none in
    let more = any_parts p xs ys here.1 in
    (ap (λ b. b || list_any p xs) here.0 ∙ more.0, more.1)

-- of two steps
pub kept_then : (first second : List Table) (a b c : Trees) → KeepsOthers first a b → KeepsOthers second b c → KeepsOthers (first ++ second) a c
kept_then first second a b c one two table there none =
    let parts = any_parts (λ (other : Table). other.tree == table.tree) first second none in
    two table there parts.1 ∙ one table there parts.0

all_of : {X : Type 0} (p : X → Bool) (xs : List X) (x : X) → list_all p xs ≡ true → Has xs x → p x ≡ true
all_of p [] x all there = absurd there
all_of p (y ∷ xs) x all (inl here) = ap p here ∙ (and_parts (p y) (list_all p xs) all).0
all_of p (y ∷ xs) x all (inr later) = all_of p xs x (and_parts (p y) (list_all p xs) all).1 later

-- no other table has one of these trees
abbrev pub is_apart : Table → List ℕ → Table → Bool
is_apart changed trees table = (changed.tree == table.tree) || not (list_any (λ tree. tree == table.tree) trees)

-- of a table that is filled
pub filled_keeps : (changed : Table) (now next : Trees) → list_all (is_apart changed (trees_over schema_two changed)) schema_two.tables ≡ true → SparesBut (trees_over schema_two changed) now next → KeepsOthers (changed ∷ []) now next
filled_keeps changed now next apart spared table there none =
    let trees = trees_over schema_two changed in
    spared table.tree (go (changed.tree == table.tree) (list_any (λ tree. tree == table.tree) trees) none (all_of (is_apart changed trees) schema_two.tables table apart there))
  where
    go : (a b : Bool) → (a || false) ≡ false → (a || not b) ≡ true → b ≡ false
    go true b none is = absurd cc
    go false true none is = absurd cc
    go false false none is = refl

-- of one of which a row changed
pub changed_keeps : (changed : Table) (now next : Trees) → OnlyChanges schema_two now next changed → KeepsOthers (changed ∷ []) now next
changed_keeps changed now next only table there none =
    only.others table there (λ same. let no : true ≡ false = ap (λ b. b || false) (sym (eq-eqb changed.tree table.tree (sym same))) ∙ none in absurd cc)
