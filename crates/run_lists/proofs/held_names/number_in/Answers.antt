use Rattle.std.proofs.Common.{◌≡◌, ◌<◌, ◌≤◌, ◌∙◌, length, get_or, true, false, sym, subst, ap, arith}
use Rattle.std.specs.List.{AllByRecursion}
use Rattle.std.proofs.lemmas.List.{get_or_default, drop_all}
use Rattle.std.proofs.lemmas.Slice.Eq.{bytes_eq-Decides}
use Rattle.run_lists.specs.declared.held_names.HeldName.{HeldName}
use Rattle.run_lists.proofs.NameLists.{found_name}
use Rattle.run_lists.proofs.NumbersOfNames.{IsOtherHeld, none_named, others_held}
use Rattle.run_lists.proofs.Steps.{drop_at}
use Rattle.run_lists.proofs.held_names.number_in.Goals as goal

pub loop-held-init : goal.loop-held-init
loop-held-init c = record { some = c.is_name.ensures; others = λ all. all }

pub returns-then-eq : goal.returns-then-eq
returns-then-eq c =
    let names = c.args.names.now in
    let at = c.loop-held.held-index in
    let held = c.held-item.result in
    let within : at < length names = omega arith in
    let same = sym c.as_slice.ensures.value ∙ (bytes_eq-Decides c.as_slice.result.now c.args.name.now).0 (sym c.if-eq.ensures) in
    let here : (d : HeldName) → get_or names at d ≡ held = λ d. get_or_default names at d held within ∙ sym c.held-item.is in
    let found = found_name names c.requires at held.number c.args.name.now within (λ d. (ap (λ h. h.number) (here d), sym same ∙ ap (λ h. h.bytes.items) (sym (here d)))) in
    (found.0, sym found.1)

pub loop-held-preserved : goal.loop-held-preserved
loop-held-preserved c = record {
  some = c.loop-held.invariant.some;
  others = λ others.
      let name = c.args.name.now in
      let names = c.args.names.now in
      let at = c.loop-held.held-index in
      let held = c.held-item.result in
      let within : at < length names = omega arith in
      let other : held.bytes.items ≡ name → ⊥ = λ same. (let e : false ≡ true = c.if-eq.ensures ∙ (bytes_eq-Decides c.as_slice.result.now name).1 (c.as_slice.ensures.value ∙ same) in cc) in
      c.loop-held.invariant.others (subst (AllByRecursion (IsOtherHeld name)) (sym (drop_at names at held within c.held-item.is)) (other, others));
}

pub returns : goal.returns
returns c =
    let name = c.args.name.now in
    let names = c.args.names.now in
    let at = c.loop-held.held-index in
    let over : length names ≤ at = omega arith in
    none_named name c.loop-held.invariant.some _ (others_held name names (c.loop-held.invariant.others (subst (AllByRecursion (IsOtherHeld name)) (sym (drop_all at names over)) tt)))
