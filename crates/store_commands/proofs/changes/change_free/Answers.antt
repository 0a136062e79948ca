use Rattle.std.proofs.Common.{◌≡◌, None, true}
use Rattle.run_stores.proofs.Calls.{changed_given}
use Rattle.plain_tables.specs.Changes.{has_group}
use Rattle.store_commands.specs.Changes.{refusal_for}
use Rattle.store_commands.specs.declared.changes.GroupChange.TheVariants.{Make, Drop, Join, Leave, SetBaseline}
use Rattle.store_commands.proofs.Expectations.{drop_held, free_as, given_less}
use Rattle.store_commands.proofs.changes.change_free.Goals as goal

pub returns-in-Make : goal.returns-in-Make
returns-in-Make g c = record {
  changes = λ limits clean.
      free_as g.S.StoreState limits c.args.change c.args.name.now Make _ _ _ c.in-Make.is
      (changed_given g.S.StoreState (λ t. refusal_for limits Make c.args.name.now t ≡ None) _ _ _ _ _ (c.put_group.ensures.changes clean));
}

pub returns-in-Drop : goal.returns-in-Drop
returns-in-Drop g c = record {
  changes = λ limits clean.
      free_as g.S.StoreState limits c.args.change c.args.name.now Drop _ _ _ c.in-Drop.is
      (given_less g.S.StoreState (λ t. refusal_for limits Drop c.args.name.now t ≡ None) (λ t. has_group t c.args.name.now ≡ true) _ _ _ _ _ (λ t free. drop_held limits c.args.name.now t free) (c.drop_group.ensures.changes clean));
}

pub returns-in-Join : goal.returns-in-Join
returns-in-Join g c = record {
  changes = λ limits clean.
      free_as g.S.StoreState limits c.args.change c.args.name.now (Join c.in-Join.number) _ _ _ c.in-Join.is
      (changed_given g.S.StoreState (λ t. refusal_for limits (Join c.in-Join.number) c.args.name.now t ≡ None) _ _ _ _ _ (c.join.ensures.changes clean));
}

pub returns-in-Leave : goal.returns-in-Leave
returns-in-Leave g c = record {
  changes = λ limits clean.
      free_as g.S.StoreState limits c.args.change c.args.name.now (Leave c.in-Leave.number) _ _ _ c.in-Leave.is
      (changed_given g.S.StoreState (λ t. refusal_for limits (Leave c.in-Leave.number) c.args.name.now t ≡ None) _ _ _ _ _ (c.leave.ensures.changes clean));
}

pub returns-in-SetBaseline : goal.returns-in-SetBaseline
returns-in-SetBaseline g c = record {
  changes = λ limits clean.
      free_as g.S.StoreState limits c.args.change c.args.name.now (SetBaseline c.in-SetBaseline.number) _ _ _ c.in-SetBaseline.is
      (changed_given g.S.StoreState (λ t. refusal_for limits (SetBaseline c.in-SetBaseline.number) c.args.name.now t ≡ None) _ _ _ _ _ (c.set_baseline.ensures.changes clean));
}
