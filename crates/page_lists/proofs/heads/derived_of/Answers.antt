use Rattle.std.proofs.lemmas.List.Sorted.{answers_always}
use Rattle.std.proofs.Common.{rules, ◌≡◌, ◌==◌, ℕ, List, Vec, Global, map, ap, ◌∙◌, arith}
use Rattle.std.proofs.lemmas.Bool.{eq-eqb, ne_eqb}
use Rattle.std.proofs.lemmas.Result.{IfOk-from_err}
use Rattle.plain_tables.specs.Tables.{DerivedRow}
use Rattle.run_stores.specs.HeldHeads.{PlacedName, name_of_line}
use Rattle.run_lists.specs.HeadLines.{derived_place}
use Rattle.run_lists.specs.Listed.{derived_row}
use Rattle.run_lists.specs.declared.head_lines.HeadDerived.{HeadDerived}
use Rattle.page_lists.proofs.HeadLists.{all_kept, next_kept, next_passed}
use Rattle.page_lists.proofs.heads.derived_of.Goals.{then-event-run+in_ok-name+else-is_err, else-event-run}
use Rattle.page_lists.proofs.heads.derived_of.Goals as goal

pub returns-clause-read : goal.returns-clause-read
returns-clause-read c = all_kept derived_row (λ (d : DerivedRow). d.run == c.args.run) name_of_line derived_place c.args.derived.now c.derived.event-index c.derived.lines.items _ (omega arith) c.derived.invariant c.sort_unstable_by_key.ensures.permutation

pub derived-init : goal.derived-init
derived-init c = ap (map derived_place) c.new-lines.ensures.items

pub returns-in_err-name-clause-read : goal.returns-in_err-name-clause-read
returns-in_err-name-clause-read c = IfOk-from_err c.from_residual.result _ c.from_residual.ensures.0

abbrev placed : ℕ → List ℕ → PlacedName
placed place name = record { place = place; name = name }

pub derived-preserved : goal.derived-preserved
derived-preserved c =
    let derived = c.args.derived.now in
    let at = c.derived.event-index in
    let event = c.event-item.result in
    elim c.if-event-run.branch [
      | then-event-run+in_ok-name+else-is_err w ↦
          ap (λ (lines : Vec HeadDerived Global). map derived_place lines.items) w.lines-is
          ∙ next_kept derived_row (λ (d : DerivedRow). d.run == c.args.run) name_of_line derived_place derived at event c.derived.lines.items _ _ c.derived-test.true c.event-item.is (eq-eqb _ _ w.if-event-run.true)
          c.derived.invariant (rw w.if-is_err.ensures.negation at w.push.ensures.items) (ap (placed event.place) (w.in_ok-name.ensures.read ∙ w.deref.ensures.value))
      | else-event-run w ↦
          ap (λ (lines : Vec HeadDerived Global). map derived_place lines.items) w.lines-is
          ∙ next_passed derived_row (λ (d : DerivedRow). d.run == c.args.run) name_of_line derived_place derived at event c.derived.lines.items c.derived-test.true c.event-item.is (ne_eqb _ _ w.if-event-run.false) c.derived.invariant
    ]

pub returns-clause-sorted : goal.returns-clause-sorted
returns-clause-sorted c = c.sort_unstable_by_key.ensures.sorted (λ (line : HeadDerived). line.place) (answers_always _ (λ a r. r ≡ a.0.now.place) _ (λ f a r g called. search rules))
