use Rattle.std.proofs.Common.{◌∷◌, [], ℕ, List, map, ap, ◌∙◌}
use Rattle.std.proofs.lemmas.List.{take_all}
use Rattle.std.proofs.lemmas.Result.{IfOk-from_err}
use Rattle.std.specs.Borrow.{Bor}
use Rattle.sqlite_value.specs.declared.value.Value.TheVariants.{Blob}
use Rattle.page_lists.specs.Indexed.{digest_key}
use Rattle.page_lists.proofs.HeadLists.{next_made}
use Rattle.page_lists.proofs.index_keys.digests.Goals as goal

pub returns-in_err-keys : goal.returns-in_err-keys
returns-in_err-keys c = IfOk-from_err c.from_residual.result _ c.from_residual.ensures.0

pub returns-in_err-push : goal.returns-in_err-push
returns-in_err-push c = IfOk-from_err c.from_residual-in_err-push.result _ c.from_residual-in_err-push.ensures.0

pub loop-run-init : goal.loop-run-init
loop-run-init c = ap (map (λ (k : Bor (List ℕ)). Blob k.now ∷ [])) c.in_ok-keys.ensures.items

pub loop-run-preserved : goal.loop-run-preserved
loop-run-preserved c =
    next_made digest_key (λ (k : Bor (List ℕ)). Blob k.now ∷ []) c.args.runs.now c.loop-run.run-index c.run-item.result c.loop-run.keys.items c.push.new.self.items _
    c.loop-run-test.true c.run-item.is c.loop-run.invariant c.in_ok-push.ensures.items (ap (λ (b : List ℕ). Blob b ∷ []) c.as_slice.ensures)

pub returns : goal.returns
returns c = c.loop-run.invariant ∙ ap (map digest_key) (take_all c.loop-run.run-index c.args.runs.now c.loop-run-test.false)
