use Rattle.std.proofs.Common.{rules, ◌≡◌, List, true, get_or, refl, sym, ap, ◌∙◌}
use Rattle.cg_formulas.specs.Formulas.{same_terms}
use Rattle.cg_formulas.specs.EventViews.{terms_in}
use Rattle.cg_formulas.specs.declared.definitions.Definition as kept
use Rattle.cg_formulas.specs.Held.{terms_at}
use Rattle.cg_formulas.proofs.HeldLemmas.{kept_terms}
use Rattle.cg_formulas.proofs.RepeatLemmas.{terms-same}
use Rattle.cg_formulas.proofs.formulas.Formulas.redefine.Goals as goal

pub returns-then-len-earlier : goal.returns-then-len-earlier
returns-then-len-earlier c =
    let ds : List kept.Definition = c.args.self.now.definitions in
    let earlier : kept.Definition = c.index-as_slice-at.result in
    let own : earlier ≡ get_or ds c.args.at earlier = search rules in
    let is : terms_at c.args.self.now c.args.at ≡ terms_in earlier.formula.text = kept_terms c.args.self.now c.args.at earlier c.requires ∙ ap (λ e. terms_in e.formula.text) (sym own) in
    let equal : same_terms (terms_in earlier.formula.text) (terms_in c.args.formula.text) ≡ true = search rules in
    record {
      kept = c.replace_formula.ensures.definitions (is ∙ terms-same _ _ equal);
      changed = c.replace_formula.ensures.changed ∙ sym (rw is (rw equal refl));
    }
