use Rattle.std.proofs.Common.{◌≡◌, Result, Ok, Err, IfOk, subst, sym}
use Rattle.page_runs.specs.States.{state_of}
use Rattle.store_paths.specs.Opened.{RepresentsHeld}
use Rattle.store_paths.specs.Shown.{HoldsInOrder}
use Rattle.store_openers.proofs.looking.beside.Goals as goal

-- what is handed on beside another is as it was
kept : {T U E : Type 0} (P : T → Type 0) (x : T) (r : Result (T × U) E) → IfOk r (λ k. k.0 ≡ x) → P x → IfOk r (λ k. P k.0)
kept P x (Ok k) is p = subst P (sym is) p
kept P x (Err e) is p = tt

pub returns-in-Ok-store_in : goal.returns-in-Ok-store_in
returns-in-Ok-store_in g c =
    kept (RepresentsHeld state_of (HoldsInOrder g.F.FileOpener.image)) c.in-Ok-store_in.store c.kept_beside.result c.kept_beside.ensures (c.in-Ok-store_in.ensures g.F.FileOpener.image c.in_ok-files.ensures)
