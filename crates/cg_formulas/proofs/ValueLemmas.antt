-- Laws of values.
use Rattle.std.proofs.Common.{inl, inr, ℕ, ◌≡◌, ◌+◌, Bool, true, false, List, [], ◌∷◌, length, if◌then◌else◌, Some, None, refl, sym, ap, ◌∙◌, arith}
use Rattle.std.specs.List.{list_any}
use Rattle.std.specs.Str.{bytes_eq}
use Rattle.std.proofs.lemmas.Bool.{cases_Bool}
use Rattle.std.proofs.Math.Nat.{mul-add}
use Rattle.cg_formulas.specs.Formulas.{Definition, is_defined, is_known, coefficient, coefficients, weighed, derived_value, formula_fault, derived_of, both, plus}
use Rattle.cg_formulas.specs.Flats.{Flattens, FlatOf, value_by, flat_value}
use Rattle.cg_formulas.specs.declared.flats.Flat.{Flat}
use Rattle.cg_formulas.proofs.RepeatLemmas.{maps-same}
use Rattle.cg_formulas.proofs.RowsLemmas.{weighed-cons}
use Rattle.cg_formulas.proofs.FlatLemmas.{event-undefined, coefficient-undefined, lookup-derived}

weighed-both : (counts costs more : List ℕ) → length costs ≡ length more → weighed counts (both costs more) ≡ weighed counts costs + weighed counts more
weighed-both [] costs more same = refl
weighed-both (n ∷ counts) [] [] same = refl
weighed-both (n ∷ counts) [] (m ∷ more) same = absurd (omega (arith, same))
weighed-both (n ∷ counts) (c ∷ costs) [] same = absurd (omega (arith, same))
weighed-both (n ∷ counts) (c ∷ costs) (m ∷ more) same =
    let whole = weighed-cons n (c + m) counts (both costs more) in
    let left = weighed-cons n c counts costs in
    let right = weighed-cons n m counts more in
    let rest = weighed-both counts costs more (omega (arith, same)) in
    let split = mul-add n c m in
    omega (arith, whole, left, right, rest, split)

pub values-both : (events : List (List ℕ)) (back : List Definition) (name costs more : List ℕ) → length costs ≡ length more
    → derived_value events back name (both costs more) ≡ plus (derived_value events back name costs) (derived_value events back name more)
values-both events back name costs more same =
    elim (cases_Bool (is_known events back name)) [
      | inl e ↦ rw e (ap Some (weighed-both (coefficients events name back) costs more same))
      | inr e ↦ rw e refl
    ]

value-if : (b : Bool) (row costs : List ℕ) → value_by (if b then Some row else None) costs ≡ (if b then Some (weighed row costs) else None)
value-if true row costs = refl
value-if false row costs = refl

values-kept : (flat : Flat) (back : List Definition) (name costs : List ℕ) → Flattens flat back → flat_value flat name costs ≡ derived_value flat.events back name costs
values-kept flat back name costs f =
    elim (cases_Bool (list_any (bytes_eq name) flat.events)) [
      | inl e ↦
          let undefined = event-undefined flat.events back name f.free e in
          let row = maps-same (λ event. coefficient event name []) (λ event. coefficient event name back) flat.events (λ event. sym (coefficient-undefined event name back undefined)) in
          rw e (ap (λ r. Some (weighed r costs)) row)
      | inr e ↦
          let found = lookup-derived flat back f name in
          rw e (ap (λ r. value_by r costs) found ∙ value-if (is_defined name back) (coefficients flat.events name back) costs)
    ]

pub values-of : (flat : Flat) (events : List (List ℕ)) (back : List Definition) (name costs : List ℕ) → formula_fault events back ≡ None → FlatOf flat events back → flat_value flat name costs ≡ derived_value events back name costs
values-of flat events back name costs free of =
    let flattens : Flattens flat back = record {
      free = ap (λ names. formula_fault names back) of.events ∙ free;
      derived = of.derived ∙ ap (λ names. derived_of names back) (sym of.events);
    } in
    values-kept flat back name costs flattens ∙ ap (λ names. derived_value names back name costs) of.events
