use Rattle.std.proofs.Common.{rules, ◌≡◌, ◌<◌, false, ◌∷◌, length, take, get_or, Err, sym, ◌∙◌, subst}
use Rattle.cg_formulas.specs.Formulas.{is_defined}
use Rattle.cg_formulas.specs.Definitions.{plain_definition, plain_back}
use Rattle.cg_formulas.specs.Flats.{Flattens, Defines}
use Rattle.cg_formulas.specs.declared.definitions.Definition as kept
use Rattle.cg_formulas.proofs.FlattenLemmas.{plain_back-more, fresh-at, flat-err}
use Rattle.cg_formulas.proofs.formulas.Formulas.flatten.Goals as goal

pub returns-in-Err : goal.returns-in-Err
returns-in-Err c back holds =
    let i = c.loop-definition.definition-index in
    let ds = c.args.self.now.definitions in
    let item : kept.Definition = c.definition-item.result in
    let inside : i < length ds = search rules in
    let is : item ≡ get_or ds i item = search rules in
    let new : is_defined item.name (plain_back (take i ds)) ≡ false = subst (λ d. is_defined d.name (plain_back (take i ds)) ≡ false) (sym is) (fresh-at ds i item inside holds.fresh) in
    let defines : Defines (Err c.in-Err.end) c.define.new.self item (plain_back (take i ds)) = c.in-Err.ensures.defines (plain_back (take i ds)) (c.loop-definition.invariant.flattens holds.fresh) new in
    let here = subst (λ d. Defines (Err c.in-Err.end) c.define.new.self d (plain_back (take i ds))) is defines in
    let events = c.in-Err.ensures.events ∙ c.loop-definition.invariant.events in
    flat-err c.args.self.now c.in-Err.end c.define.new.self c.args.events.now i item back events inside holds here

pub loop-definition-preserved : goal.loop-definition-preserved
loop-definition-preserved c =
    let i = c.loop-definition.definition-index in
    let ds = c.args.self.now.definitions in
    let item : kept.Definition = c.definition-item.result in
    let inside : i < length ds = search rules in
    let is : item ≡ get_or ds i item = search rules in
    record {
      events = c.in_default.ensures.events ∙ c.loop-definition.invariant.events;
      flattens = λ fresh.
          let new : is_defined item.name (plain_back (take i ds)) ≡ false = subst (λ d. is_defined d.name (plain_back (take i ds)) ≡ false) (sym is) (fresh-at ds i item inside fresh) in
          let defines : Flattens c.define.new.self (plain_definition item ∷ plain_back (take i ds)) = c.in_default.ensures.defines (plain_back (take i ds)) (c.loop-definition.invariant.flattens fresh) new in
          let here = subst (λ d. Flattens c.define.new.self (plain_definition d ∷ plain_back (take i ds))) is defines in
          subst (λ es. Flattens c.define.new.self es) (sym (plain_back-more ds i item inside)) here;
    }
