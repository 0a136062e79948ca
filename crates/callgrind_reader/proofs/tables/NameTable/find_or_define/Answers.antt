use Rattle.std.proofs.Common.{◌≡◌, ◌<◌, ◌≤◌, ◌++◌, ◌∷◌, [], length, Some, None, refl, sym, ◌∙◌, ap, subst, arith}
use Rattle.std.proofs.lemmas.List.{length-append}
use Rattle.callgrind_reader.specs.Inside.{AreInside, IsInside}
use Rattle.callgrind_reader.specs.IdPlaces.{place_at}
use Rattle.callgrind_reader.specs.Table.{name_among}
use Rattle.callgrind_reader.proofs.TableLemmas.{get-front, inside-after, inside-back, place-new, place-held, means-new, name-new, means-held, name-held}
use Rattle.callgrind_reader.proofs.tables.NameTable.find_or_define.Goals as goal

pub invariant_of-self : goal.invariant_of-self
invariant_of-self c = record { inside = λ q at here. c.args.self.now.inside q at (sym (c.in_err-place.ensures.err q) ∙ here) }

pub invariant_of-self-in-Err : goal.invariant_of-self-in-Err
invariant_of-self-in-Err c =
    let same = ap length c.in-Err.ensures.err in
    let few : length c.args.self.now.names ≤ length c.push.new.self = omega (arith, same) in
    record {
      inside = inside-back (place_at c.args.self.now.places) (place_at c.find_or_add.new.self) (place_at c.remove.new.self) c.args.id c.in_ok-place.place (length c.args.self.now.names) (length c.push.new.self)
          c.args.self.now.inside few c.in_ok-place.ensures.ok c.remove.ensures;
    }

pub invariant_of-self-in_default : goal.invariant_of-self-in_default
invariant_of-self-in_default c =
    let old = c.args.self.now.names in
    let pushed = ap length c.in_default.ensures.ok in
    let one_more = length-append old (c.args.text.now ∷ []) in
    let few : length old ≤ length c.push.new.self = omega (arith, pushed, one_more) in
    let below : c.in_ok-place.place < length c.push.new.self = omega (arith, pushed, one_more) in
    record {
      inside = inside-after (place_at c.args.self.now.places) (place_at c.find_or_add.new.self) c.args.id c.in_ok-place.place (length old) (length c.push.new.self)
          c.args.self.now.inside few below c.in_ok-place.ensures.ok;
    }

pub invariant_of-self-else-place-next : goal.invariant_of-self-else-place-next
invariant_of-self-else-place-next c =
    let old = place_at c.args.self.now.places in
    let other : ¬ (c.in_ok-place.place ≡ c.len-next.result) = grind arith in
    let held : old c.args.id ≡ Some c.in_ok-place.place = place-held (old c.args.id) c.in_ok-place.place c.len-next.result c.in_ok-place.ensures.found other in
    let count = length c.args.self.now.names in
    let below : c.in_ok-place.place < count = c.args.self.now.inside c.args.id c.in_ok-place.place held in
    record { inside = inside-after old (place_at c.find_or_add.new.self) c.args.id c.in_ok-place.place count count c.args.self.now.inside (omega arith) below c.in_ok-place.ensures.ok }

pub returns-in_default-clause-defines : goal.returns-in_default-clause-defines
returns-in_default-clause-defines c =
    let old = place_at c.args.self.now.places in
    let names = c.args.self.now.names in
    let text = c.args.text.now in
    let place = c.in_ok-place.place in
    let pushed : c.push.new.self ≡ names ++ text ∷ [] = c.in_default.ensures.ok in
    let counted : length c.args.self.now.names ≡ length names = omega arith in
    let last : place ≡ length names = omega arith in
    let inside : AreInside old (length names) = subst (AreInside old) counted c.args.self.now.inside in
    let none : old c.args.id ≡ None = place-new (old c.args.id) place c.len-next.result (subst (λ n. IsInside n (old c.args.id)) (sym c.len-next.ensures) (c.args.self.now.inside c.args.id)) c.in_ok-place.ensures.found c.if-place-next.true in
    let length_after = ap length pushed in
    let one_more = length-append names (text ∷ []) in
    record {
      means = λ q.
          ap (λ ns. name_among ns (place_at c.find_or_add.new.self q)) pushed
          ∙ means-new old (place_at c.find_or_add.new.self) names text c.args.id place q inside last none (c.in_ok-place.ensures.ok q);
      name = ap (λ ns. name_among ns (Some place)) pushed ∙ name-new names text place (old c.args.id) last none;
      inside = omega (arith, length_after, one_more);
      keeps = λ at few.
          let below : at < length names = omega arith in
          ap (λ ns. name_among ns (Some at)) pushed ∙ get-front names (text ∷ []) at below;
    }

pub returns-else-place-next-clause-defines : goal.returns-else-place-next-clause-defines
returns-else-place-next-clause-defines c =
    let old = place_at c.args.self.now.places in
    let names = c.args.self.now.names in
    let other : ¬ (c.in_ok-place.place ≡ c.len-next.result) = grind arith in
    let held : old c.args.id ≡ Some c.in_ok-place.place = place-held (old c.args.id) c.in_ok-place.place c.len-next.result c.in_ok-place.ensures.found other in
    let inside : c.in_ok-place.place < length c.args.self.now.names = c.args.self.now.inside c.args.id c.in_ok-place.place held in
    let below : c.in_ok-place.place < length names = omega arith in
    record {
      means = λ q. means-held old (place_at c.find_or_add.new.self) names c.args.text.now c.args.id c.in_ok-place.place q below held (c.in_ok-place.ensures.ok q);
      name = name-held names c.args.text.now c.in_ok-place.place (old c.args.id) below held;
      inside = inside;
      keeps = λ place few. refl;
    }
