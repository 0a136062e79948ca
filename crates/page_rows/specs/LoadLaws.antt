-- No more loads are asked of a store than may be.
use Rattle.std.proofs.Common.{arith, ◌≡◌, ◌+◌, ◌≤◌, ◌*◌, Bool, true, false, cond, sum, vec_len, refl, subst, sym, ◌∙◌}
use Rattle.std.proofs.lemmas.List.Sums.{sum_by-le}
use Rattle.page_rows.specs.declared.loads.Loads.{Loads}
use Rattle.page_rows.specs.Loads.{may_be_counted, asked, Asks}

-- of each page so many were counted at most
pub of_each_page : (loads : Loads) → sum loads.counts.items ≤ vec_len loads.counts * loads.most
of_each_page loads = subst (λ n. sum loads.counts.items ≤ n * loads.most) (sym loads.counts.ok.0) (sum_by-le (λ x. x) loads.most loads.counts.items loads.each)

one_at_most : (b : Bool) → cond b 1 0 ≤ 1
one_at_most true = omega arith
one_at_most false = omega arith

pub within : (loads : Loads) → asked loads ≤ may_be_counted loads + 1
within loads = omega (arith, loads.few, of_each_page loads, one_at_most loads.is_over)

pub Asks-refl : {P : Type 0} (loads : Loads) (store : P) → Asks loads loads store store
Asks-refl loads store = record { most = refl; grace = refl; more = omega arith; few = within loads; idle = λ same. refl }

pub Asks-trans : {P : Type 0} (a b c : Loads) (x y z : P) → Asks a b x y → Asks b c y z → Asks a c x z
Asks-trans a b c x y z first second =
    record {
      most = second.most ∙ first.most;
      grace = second.grace ∙ first.grace;
      more = omega (arith, first.more, second.more);
      few = second.few;
      idle = λ same. second.idle (omega (arith, same, first.more, second.more)) ∙ first.idle (omega (arith, same, first.more, second.more));
    }

-- a call that is refused asks for nothing
pub asks_nothing : {P : Type 0} (old new : Loads) (store : P) → new ≡ old → Asks old new store store
asks_nothing old new store same = subst (λ loads. Asks old loads store store) (sym same) (Asks-refl old store)

-- one load is asked for
pub asks_once : {P : Type 0} (old new : Loads) (before after : P) → new.most ≡ old.most → new.grace ≡ old.grace → asked new ≡ asked old + 1
    → Asks old new before after
asks_once old new before after most grace one =
    record { most = most; grace = grace; more = omega (arith, one); few = within new; idle = λ same. absurd (omega (arith, one, same)) }
