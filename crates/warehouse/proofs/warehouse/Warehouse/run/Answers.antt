use Rattle.std.proofs.Common.{◌≡◌, ◌+◌, ◌++◌, ◌∷◌, [], refl, sym, ap, subst, ◌∙◌, arith, length, append_assoc, append-nil}
use Rattle.warehouse.specs.Answered.{WasAnswered, WasRun}
use Rattle.warehouse.proofs.Runs.{run_nothing, run_on, no_items}
use Rattle.warehouse.proofs.warehouse.Warehouse.run.Goals as goal

pub commands-init : goal.commands-init
commands-init g c = (
  refl,
  c.in_ok-answers.ensures.len,
  c.in_ok-answers.ensures.exact,
  omega (arith, c.from-rest.ensures.1, c.len-count.ensures),
  ([], sym c.from-rest.ensures.0, λ clean. subst (λ l. WasRun g.S.StoreState g.R.Source.reads c.args.self.now.limits [] l c.args.self.now.store c.args.self.now.store) (sym c.in_ok-answers.ensures.items) (run_nothing g.S.StoreState g.R.Source.reads c.args.self.now.limits c.args.self.now.store)),
)

pub commands-preserved : goal.commands-preserved
commands-preserved g c =
    let i = c.commands.invariant in
    let front = i.4.0 in
    let rest = c.pop_front.new.self.items in
    let one = c.in-Some.command in (
      c.apply-answer.ensures.limits ∙ i.0,
      c.push_reserved.ensures.len ∙ ap (λ n. n + 1) i.1,
      c.push_reserved.ensures.capacity ∙ i.2,
      omega (arith, c.in-Some.ensures.cases, i.3),
      (
        front ++ one ∷ [],
        i.4.1 ∙ ap (λ l. front ++ l) c.in-Some.ensures.items ∙ sym (append_assoc front (one ∷ []) rest),
        λ clean.
            let it = c.apply-answer.ensures.answered in
            let w = i.4.2 (it.answers clean).stepped.stays.was_faithful in
            let limits = c.args.self.now.limits in
            let answered = subst (λ x. WasAnswered g.S.StoreState g.R.Source.reads x one c.apply-answer.result c.commands.self.store c.apply-answer.new.self.store) i.0 it in
            subst (λ l. WasRun g.S.StoreState g.R.Source.reads limits (front ++ one ∷ []) l c.args.self.now.store c.apply-answer.new.self.store) (sym c.push_reserved.ensures.items)
            (run_on g.S.StoreState g.R.Source.reads limits front c.commands.answers.items c.args.self.now.store c.commands.self.store c.apply-answer.new.self.store w one c.apply-answer.result answered clean),
      ),
    )

pub returns-clause-answered : goal.returns-clause-answered
returns-clause-answered g c clean =
    let i = c.commands.invariant in
    let ok = c.commands.rest.ok in
    let none : length c.commands.rest.items ≡ 0 = omega (arith, ok, i.3, c.commands-test.false) in
    subst (λ l. WasRun g.S.StoreState g.R.Source.reads c.args.self.now.limits l c.commands.answers.items c.args.self.now.store c.commands.self.store)
    (sym (i.4.1 ∙ ap (λ l. i.4.0 ++ l) (no_items c.commands.rest.items none) ∙ append-nil i.4.0)) (i.4.2 clean)
