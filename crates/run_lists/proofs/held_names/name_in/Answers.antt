use Rattle.std.proofs.Common.{rules, ◌≡◌, ◌<◌, ◌≤◌, ℕ, true, false, ltb, arith, Some, None, Option}
use Rattle.std.specs.Option.{IfSome}
use Rattle.std.proofs.lemmas.List.Sorted.{IsPartitionPoint-from_clause, IsPartitionedBy-ltb}
use Rattle.std.proofs.lemmas.Bool.Decides.{nat_tests}
use Rattle.run_lists.specs.declared.held_names.HeldName.{HeldName}
use Rattle.run_lists.proofs.NameLists.{found_name, no_name, rise_by_place}
use Rattle.run_lists.proofs.held_names.name_in.Goals as goal

below : (a n : ℕ) → ltb a n ≡ true → a < n
below a n h = grind (arith, nat_tests)

above : (a n : ℕ) → ltb a n ≡ false → n ≤ a
above a n h = grind (arith, nat_tests)

if_some_then : {X : Type 0} {P Q : X → Type 0} (o : Option X) → IfSome o P → ((x : X) → P x → Q x) → IfSome o Q
if_some_then None h f = tt
if_some_then (Some x) h f = f x h

pub returns-in-Some-clause-some : goal.returns-in-Some-clause-some
returns-in-Some-clause-some c = found_name c.args.names.now c.requires _ c.args.number c.in-Some.name.now c.in-Some.ensures.some.0 c.in-Some.ensures.some.1

pub returns-clause-none : goal.returns-clause-none
returns-clause-none c none =
    let names = c.args.names.now in
    let n = c.args.number in
    let parted = IsPartitionedBy-ltb (λ (x : HeldName). x.number) names n (rise_by_place names c.requires) in
    let point = IsPartitionPoint-from_clause (λ (x : HeldName). ltb x.number n) _ _ c.partition_point-at.ensures.partitioned parted (λ a r q k. search rules) in
    no_name names c.requires _ n (λ k d low within. below _ n (point.0 k d (omega arith) low)) (λ k d low within. above _ n (point.1 k d low within)) (λ d within. c.name_at-2.ensures.none none d within)

pub returns-clause-some : goal.returns-clause-some
returns-clause-some c = if_some_then c.name_at-2.result c.name_at-2.ensures.some (λ name is. found_name c.args.names.now c.requires _ c.args.number name.now is.0 is.1)
