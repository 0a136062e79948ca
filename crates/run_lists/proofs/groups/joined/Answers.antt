use Rattle.std.proofs.Common.{◌≡◌, ◌≤◌, ◌-◌, ◌∙◌, ◌++◌, ◌∷◌, [], if◌then◌else◌, drop, take, length, ◌+◌, map, flat_map, sym, ap, subst, arith, rules}
use Rattle.std.proofs.lemmas.List.{take_rest, length-drop}
use Rattle.run_stores.specs.Entries.{entry_group, entry_members}
use Rattle.run_lists.specs.Lent.{lent_group, lent_member}
use Rattle.run_lists.specs.InOrder.{BeginsWith}
use Rattle.run_lists.proofs.GroupSteps.{next_of, none_left}
use Rattle.run_lists.proofs.Joining.{read_more, joined_more}
use Rattle.run_lists.proofs.groups.joined.Goals as goal

pub groups-preserved : goal.groups-preserved
groups-preserved c =
    let entry = c.in_ok-entry.entry in
    let many = length entry.members in
    let at = c.groups.taken in
    let members = c.args.members.now in
    let group = c.group-item.result in
    let rest = take_rest members at in
    let within : many ≤ length (take (length members - at) (drop at members)) = c.in_ok-entry.ensures.within in
    let pushed : c.push.new.self.items ≡ c.groups.entries.items ++ entry ∷ [] = c.push.ensures.items ∙ ap (λ b. if b then c.groups.entries.items ++ entry ∷ [] else c.groups.entries.items) c.if-is_err.ensures.negation in
    let low : at ≤ length members = c.groups.invariant.within in
    let theirs : entry_members entry ≡ map lent_member (take many (drop at members)) = c.in_ok-entry.ensures.front ∙ ap (λ l. map lent_member (take many l)) rest in
    record {
      groups = ap (map entry_group) pushed ∙ read_more entry_group lent_group c.groups.entries.items c.args.groups.now c.groups.group-index entry group c.groups-test.true c.group-item.is c.in_ok-entry.ensures.group c.groups.invariant.groups;
      within = omega (arith, low, within, ap length rest, length-drop at members, c.len-taken.ensures);
      members = ap (flat_map entry_members) pushed ∙ joined_more entry_members lent_member c.groups.entries.items members at many entry low theirs c.groups.invariant.members ∙ ap (λ n. map lent_member (take (at + n) members)) (sym c.len-taken.ensures);
      so_many = λ entries rows.
          let next = next_of lent_group lent_member c.args.groups.now members entries rows c.groups.group-index at group c.groups-test.true c.group-item.is (c.groups.invariant.so_many entries rows) in
          let begins : BeginsWith next.entry (map lent_member (take (length members - at) (drop at members))) = subst (λ l. BeginsWith next.entry (map lent_member l)) (sym rest) next.begins in
          let same : entry.members ≡ next.entry.members = c.in_ok-entry.ensures.whole next.entry next.is_of begins in
          omega (arith, c.len-taken.ensures, ap length same, next.next);
    }

pub returns-in_err-entry-clause-serves : goal.returns-in_err-entry-clause-serves
returns-in_err-entry-clause-serves c entries rows =
    let at = c.groups.taken in
    let members = c.args.members.now in
    let next = next_of lent_group lent_member c.args.groups.now members entries rows c.groups.group-index at c.group-item.result c.groups-test.true c.group-item.is (c.groups.invariant.so_many entries rows) in
    let begins : BeginsWith next.entry (map lent_member (take (length members - at) (drop at members))) = subst (λ l. BeginsWith next.entry (map lent_member l)) (sym (take_rest members at)) next.begins in
    let why = c.in_err-entry.ensures.serves next.entry next.is_of begins in
    search rules

pub returns-else-taken-members-clause-serves : goal.returns-else-taken-members-clause-serves
returns-else-taken-members-clause-serves c entries rows =
    let end : c.groups.group-index ≡ length c.args.groups.now = omega (arith, c.groups.auto.group-index-end, c.groups-test.false) in
    let left = none_left lent_group lent_member c.args.groups.now c.args.members.now entries rows c.groups.group-index c.groups.taken end (c.groups.invariant.so_many entries rows) in
    absurd (omega (arith, left, c.if-taken-members.false))
