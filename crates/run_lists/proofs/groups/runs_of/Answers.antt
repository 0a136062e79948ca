use Rattle.std.proofs.Common.{◌≡◌, ◌≢◌, ◌∙◌, ◌++◌, ◌∷◌, [], Bool, true, false, true≢false, not, map, length, drop, string_bytes, refl, sym, ap, subst, arith}
use Rattle.std.proofs.lemmas.List.{length_push}
use Rattle.std.proofs.lemmas.Slice.Eq.{bytes_eq-Decides}
use Rattle.run_stores.specs.Entries.{member_of}
use Rattle.run_lists.specs.InOrder.{BeginsWithout}
use Rattle.run_lists.specs.Lent.{lent_member}
use Rattle.run_lists.proofs.GroupSteps.{without}
use Rattle.run_lists.proofs.Joining.{read_more}
use Rattle.run_lists.proofs.Rows.{is_ok_then}
use Rattle.run_lists.proofs.groups.runs_of.Goals as goal

not_not : (b : Bool) → false ≡ not b → b ≡ true
not_not true h = refl
not_not false h = cc

pub members-preserved : goal.members-preserved
members-preserved c =
    let name = c.args.name.now in
    let line = c.member-item.result in
    let pushed : c.push.new.self ≡ c.members.runs ++ line.now.run ∷ [] = is_ok_then c.push.result c.if-is_err.ensures.negation c.push.ensures.ok in
    let same : string_bytes line.now.group ≡ name = sym c.as_str.ensures.value ∙ (bytes_eq-Decides _ _).0 (not_not _ c.if-ne.ensures) in
    let one : member_of name line.now.run ≡ lent_member line = ap (λ n. member_of n line.now.run) (sym same) in (
      omega (arith, ap length pushed, length_push c.members.runs line.now.run, c.members.invariant.0),
      ap (λ l. map (member_of name) l) pushed ∙ read_more (member_of name) lent_member c.members.runs c.args.members.now c.members.member-index line.now.run line c.members-test.true c.member-item.is one c.members.invariant.1,
    )

pub returns-then-ne-clause-whole : goal.returns-then-ne-clause-whole
returns-then-ne-clause-whole c =
    let name = c.args.name.now in
    let line = c.member-item.result in
    let other : string_bytes line.now.group ≢ name = λ same. true≢false (c.if-ne.ensures ∙ ap not ((bytes_eq-Decides _ _).1 (c.as_str.ensures.value ∙ same))) in
    subst (λ k. BeginsWithout name (map lent_member (drop k c.args.members.now))) (sym c.members.invariant.0)
    (without lent_member name c.args.members.now c.members.member-index line c.members-test.true c.member-item.is other)
