-- A fact of what succeeds, from others.
use Rattle.std.proofs.Common.{◌≡◌, Result, Ok, Err, MatchResult, OnOk, IfErr, refl, subst}

-- what holds of an answer or of an error
pub when_ok : {T E : Type 0} (r : Result T E) {P Q : Type 0} (F : E → Type 0) → (P → Q) → MatchResult r (λ _. P) F → OnOk r Q
when_ok (Ok x) F so p = so p
when_ok (Err e) F so p = tt

-- what holds of an error that is answered
pub if_err : {T E : Type 0} (r : Result T E) (F : E → Type 0) → ((e : E) → r ≡ Err e → F e) → IfErr r F
if_err (Ok x) F so = tt
if_err (Err e) F so = so e refl

pub at_err : {T E : Type 0} (r : Result T E) (P : Type 0) (F : E → Type 0) (e : E) → r ≡ Err e → MatchResult r (λ _. P) F → F e
at_err (Ok x) P F e is m = absurd cc
at_err (Err d) P F e is m = let same : d ≡ e = cc in subst F same m

-- what holds anyway
pub given_ok : {T E : Type 0} (r : Result T E) {P : Type 0} → P → OnOk r P
given_ok (Ok x) p = p
given_ok (Err e) p = tt

-- what follows from a fact, which is written once
pub so_by : {P X : Type 0} → P → (P → X) → X
so_by p so = so p

-- from the parts of one
pub so_by_parts : {A : Type 0} {B C : A → Type 0} {X : Type 0} → ((a : A) × B a × C a) → ((a : A) → B a → C a → X) → X
so_by_parts (a, b, c) so = so a b c
