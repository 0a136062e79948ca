-- A fact of what succeeds or fails, from others.
use Rattle.std.proofs.Common.{◌≡◌, Result, Ok, Err, MatchResult, IfErr, IsErrAnd, OnOk, refl, sym, subst}

-- one that holds at any rate
pub on_any : {T E : Type 0} (r : Result T E) {P : Type 0} → P → OnOk r P
on_any (Ok x) p = p
on_any (Err e) p = tt

-- of an error that is answered
pub if_err : {T E : Type 0} (r : Result T E) (F : E → Type 0) → ((e : E) → r ≡ Err e → F e) → IfErr r F
if_err (Ok x) F so = tt
if_err (Err e) F so = so e refl

pub err_for : {T E : Type 0} (r : Result T E) {F G : E → Type 0} → ((e : E) → F e → G e) → IfErr r F → IfErr r G
err_for (Ok x) so f = tt
err_for (Err e) so f = so e f

-- of what succeeds, or fails for a cause
pub when_ok : {T E : Type 0} (r : Result T E) (P : Type 0) (F : E → Type 0) → MatchResult r (λ _. P) F → OnOk r P
when_ok (Ok x) P F p = p
when_ok (Err e) P F p = tt

pub at_err : {T E : Type 0} (r : Result T E) (P : Type 0) (F : E → Type 0) (e : E) → r ≡ Err e → MatchResult r (λ _. P) F → F e
at_err (Ok x) P F e is m = absurd cc
at_err (Err d) P F e is m = let same : d ≡ e = cc in subst F same m

-- of an error that is handed on
pub err_on : {T E : Type 0} (r : Result T E) (P : T → Type 0) (F : E → Type 0) (e : E) → IsErrAnd r (λ d. d ≡ e) → F e → MatchResult r P F
err_on (Ok x) P F e is f = absurd is
err_on (Err d) P F e is f = subst F (sym is) f
