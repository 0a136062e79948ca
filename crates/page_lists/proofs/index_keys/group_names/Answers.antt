use Rattle.std.proofs.Common.{◌∷◌, [], ℕ, List, map, ap, ◌∙◌}
use Rattle.std.proofs.lemmas.List.{take_all}
use Rattle.std.proofs.lemmas.Result.{IfOk-from_err}
use Rattle.std.specs.Borrow.{Bor}
use Rattle.sqlite_value.specs.declared.value.Value.TheVariants.{Text}
use Rattle.page_lists.specs.Indexed.{group_key}
use Rattle.page_lists.proofs.HeadLists.{next_made}
use Rattle.page_lists.proofs.index_keys.group_names.Goals as goal

pub returns-in_err-keys : goal.returns-in_err-keys
returns-in_err-keys c = IfOk-from_err c.from_residual.result _ c.from_residual.ensures.0

pub returns-in_err-push : goal.returns-in_err-push
returns-in_err-push c = IfOk-from_err c.from_residual-in_err-push.result _ c.from_residual-in_err-push.ensures.0

pub loop-group-init : goal.loop-group-init
loop-group-init c = ap (map (λ (k : Bor (List ℕ)). Text k.now ∷ [])) c.in_ok-keys.ensures.items

pub loop-group-preserved : goal.loop-group-preserved
loop-group-preserved c =
    next_made group_key (λ (k : Bor (List ℕ)). Text k.now ∷ []) c.args.groups.now c.loop-group.group-index c.group-item.result c.loop-group.keys.items c.push.new.self.items _
    c.loop-group-test.true c.group-item.is c.loop-group.invariant c.in_ok-push.ensures.items (ap (λ (b : List ℕ). Text b ∷ []) c.as_str.ensures.value)

pub returns : goal.returns
returns c = c.loop-group.invariant ∙ ap (map group_key) (take_all c.loop-group.group-index c.args.groups.now c.loop-group-test.false)
