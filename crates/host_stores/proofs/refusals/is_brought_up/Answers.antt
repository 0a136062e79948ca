use Rattle.std.proofs.Common.{rules, ◌≡◌, ◌∙◌, ap, subst, true, false, Ok}
use Rattle.sqlite.specs.Held.{state}
use Rattle.host_stores.specs.Stores.{AsksForFirst, IsReadyIn}
use Rattle.host_stores.proofs.refusals.is_brought_up.Goals as goal

pub returns-then-not-branch : goal.returns-then-not-branch
returns-then-not-branch g c =
    let is_not : c.in_ok-is_first_in.field-0 ≡ false = search rules in
    record {
      asked = c.is_first_in.new.conn;
      new = c.is_first_in.new.conn;
      asks = λ clean. subst (AsksForFirst (state g.S.Store c.args.conn) (state g.S.Store c.is_first_in.new.conn)) (c.in_ok-is_first_in.was ∙ ap (λ b. Ok b) is_not) (c.is_first_in.ensures clean);
      brought_up = λ yes. search rules;
    }

pub returns-in-Ok-default : goal.returns-in-Ok-default
returns-in-Ok-default g c =
    let is : c.in_ok-is_first_in.field-0 ≡ true = search rules in
    record {
      asked = c.is_first_in.new.conn;
      new = c.ready_in.result.1;
      asks = λ clean. subst (AsksForFirst (state g.S.Store c.args.conn) (state g.S.Store c.is_first_in.new.conn)) (c.in_ok-is_first_in.was ∙ ap (λ b. Ok b) is) (c.is_first_in.ensures clean);
      brought_up = λ yes clean. subst (λ r. IsReadyIn g.S.Store false r c.is_first_in.new.conn c.ready_in.result.1) c.in-Ok-default.is-0 (c.ready_in.ensures clean);
    }
