-- A run is the baseline of groups no more: one group after another.
use Rattle.std.proofs.Common.{◌≡◌, ℕ, ℤ, List, [], ◌∷◌, map, Bool, true, false, if◌then◌else◌, refl, sym, ap, ap₂, inl, inr, ◌∙◌}
use Rattle.std.specs.List.{list_any}
use Rattle.std.proofs.lemmas.Bool.{or_parts}
use Rattle.sqlite_value.specs.declared.value.Value.TheVariants.{Int}
use Rattle.sqlite_trees.specs.Tree.{Trees}
use Rattle.sqlite_rules.specs.Lists.{Has}
use Rattle.plain_tables.specs.Changes.{has_baseline, is_named, unbased}
use Rattle.plain_tables.specs.Tables.{Tables, GroupRow}
use Rattle.prof_store.specs.Tables.{Holds, group_columns}
use Rattle.page_places.specs.Unused.{cleared}
use Rattle.page_places.proofs.OneLine.{one_of_name}

-- groups without the run as their baseline are as they were
pub cleared_all : (n : ℕ) (groups : List GroupRow) → list_any (has_baseline n) groups ≡ false → map (cleared n) groups ≡ groups
cleared_all n [] none = refl
cleared_all n (g ∷ groups) none = let parts = or_parts (has_baseline n g) (list_any (has_baseline n) groups) none in ap₂ ◌∷◌ (ap (λ b. if b then unbased g else g) parts.0) (cleared_all n groups parts.1)

module _ (t : Tables) (db next : Trees) (was : Holds t db) (n : ℕ) (id : ℤ) (g : GroupRow) (there : Has (db 19) (Int id ∷ group_columns g)) where
  -- with all others cleared too, it is as if it had been cleared among them
  pub still_to_clear : has_baseline n g ≡ true → map (cleared n) (map (λ x. if is_named g.name x then unbased x else x) t.groups) ≡ map (cleared n) t.groups
  still_to_clear based = each t.groups (λ x has_x. one_of_name t db was id g there x has_x)
    where
      one : (x : GroupRow) (b : Bool) → (b ≡ true → x ≡ g) → cleared n (if b then unbased x else x) ≡ cleared n x
      one x true same = sym (ap (λ b. if b then unbased x else x) (ap (has_baseline n) (same refl) ∙ based))
      one x false same = refl

      each : (xs : List GroupRow) → ((x : GroupRow) → Has xs x → is_named g.name x ≡ true → x ≡ g) → map (cleared n) (map (λ x. if is_named g.name x then unbased x else x) xs) ≡ map (cleared n) xs
      each [] same = refl
      each (x ∷ xs) same = ap₂ ◌∷◌ (one x (is_named g.name x) (same x (inl refl))) (each xs (λ y has_y. same y (inr has_y)))
