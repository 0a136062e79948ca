use Rattle.std.proofs.Common.{rules, ◌≡◌, ◌+◌, ◌*◌, List, ℕ, [], ◌∷◌, ◌++◌, true, sym, ap, ◌∙◌, append_assoc, refl}
use Rattle.std.specs.List.{list_all}
use Rattle.std.proofs.lemmas.List.Sums.{sum_by_push}
use Rattle.cg_formulas.specs.EventLines.{Term}
use Rattle.cg_formulas.specs.Formulas.{is_known, coefficient}
use Rattle.cg_formulas.specs.Rows.{counted}
use Rattle.cg_formulas.proofs.FlatLemmas.{row-same}
use Rattle.cg_formulas.proofs.flats.Flat.add_terms.Goals as goal

pub loop-number-preserved : goal.loop-number-preserved
loop-number-preserved c =
    let events : List (List ℕ) = c.args.self.now.events in
    let term : Term = (c.in-Some.number, c.in-Some.name.now) in
    let left : List Term = c.next.new.self in
    let step : c.loop-number.number-iterator ≡ term ∷ left = search rules in
    record {
      wide = c.add_term.ensures.wide ∙ c.loop-number.invariant.wide;
      known = λ back flattens.
          let here : is_known events back term.1 ≡ true = sym (c.if-not-add_term.ensures.known back flattens) in
          c.loop-number.invariant.known back flattens ∙ (ap (list_all (λ t. is_known events back t.1)) step ∙ rw here refl);
      counts = λ back flattens zero.
          let was = c.loop-number.invariant.counts back flattens zero in
          let row = c.if-not-add_term.ensures.counts refl back (λ event. counted event was.0 back) flattens was.2 in (
            was.0 ++ term ∷ [],
            was.1 ∙ (ap (λ ts. was.0 ++ ts) step ∙ sym (append_assoc was.0 (term ∷ []) left)),
            row-same c.add_term.new.row events (λ event. counted event was.0 back + term.0 * coefficient event term.1 back) (λ event. counted event (was.0 ++ term ∷ []) back)
                (λ event. sym (sum_by_push (λ t. t.0 * coefficient event t.1 back) was.0 term)) row,
          );
    }
