use Rattle.std.proofs.Common.{◌<◌, IsTrue, List, length, sym, subst}
use Rattle.std.specs.List.{AllAdjacentBelow}
use Rattle.sql_tables.proofs.Orders.{rising}
use Rattle.run_lists.specs.declared.held_names.HeldName.{HeldName}
use Rattle.run_lists.proofs.NameLists.{Rise, lines_rise}
use Rattle.run_lists.proofs.held_names.HeldNames.of.Goals as goal
use Rattle.run_lists.proofs.held_names.HeldNames.of.Goals.{Then-rise}

abbrev Adjacent : List HeldName → Type 0
Adjacent names = AllAdjacentBelow (λ (a b : HeldName). a.number < b.number) names (length names)

they_rise : (c : Then-rise) → Rise c.args.names.items
they_rise c = rising (λ (n : HeldName). n.number) _ (subst Adjacent c.deref.ensures.value (c.rise.ensures.0 c.if-rise.true))

pub invariant_of-result : goal.invariant_of-result
invariant_of-result c = they_rise (goal.at.invariant_of-result c).Then-rise

pub returns-then-rise-clause-rising : goal.returns-then-rise-clause-rising
returns-then-rise-clause-rising c = lines_rise _ (they_rise (goal.at.returns-then-rise-clause-rising c).Then-rise)

pub returns-else-rise-clause-refused : goal.returns-else-rise-clause-refused
returns-else-rise-clause-refused c rises = let all : IsTrue c.rise.result = c.rise.ensures.1 (subst Adjacent (sym c.deref.ensures.value) rises) in cc
