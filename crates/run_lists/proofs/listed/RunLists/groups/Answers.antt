use Rattle.std.proofs.Common.{◌∙◌, List, IsPermutation, map, flat_map, length, sym, ap, subst, subst₂, true≢false, rules}
use Rattle.std.specs.List.{AllAdjacentBelow}
use Rattle.run_stores.specs.Entries.{IsBefore, entry_group, entry_members}
use Rattle.run_stores.specs.declared.entries.GroupEntry.{GroupEntry}
use Rattle.run_lists.specs.InOrder.{AreRowsOf}
use Rattle.run_lists.specs.Lent.{lent_group, lent_member}
use Rattle.run_lists.specs.Listed.{group_row, member_row}
use Rattle.run_lists.proofs.GroupMembers.{members_told}
use Rattle.run_lists.proofs.GroupRows.{rise_too, rows_shown}
use Rattle.run_lists.proofs.listed.RunLists.groups.Goals as goal

pub returns-then-names_rise-clause-told : goal.returns-then-names_rise-clause-told
returns-then-names_rise-clause-told c t was =
    let entries = c.in_ok-entries.entries.items in
    let rises : AllAdjacentBelow IsBefore entries (length entries) =
    subst (λ (l : List GroupEntry). AllAdjacentBelow IsBefore l (length l)) c.deref-5.ensures.value (c.names_rise.ensures.0 c.if-names_rise.true) in
    let groups : IsPermutation t.groups (map entry_group entries) =
    subst₂ IsPermutation (ap (map group_row) c.deref.ensures.value ∙ was.groups) (sym (c.in_ok-entries.ensures.groups ∙ ap (map lent_group) c.deref-3.ensures.value)) c.in_ok-groups.ensures.same in
    let members : IsPermutation t.members (flat_map entry_members entries) =
    subst₂ IsPermutation (ap (map member_row) c.deref-2.ensures.value ∙ was.members) (sym (c.in_ok-entries.ensures.members ∙ ap (map lent_member) c.deref-4.ensures.value)) c.in_ok-members.ensures.same in
    record { groups = groups; members = members; each = members_told t.members entries rises members }

pub returns-in_err-entries-clause-serves : goal.returns-in_err-entries-clause-serves
returns-in_err-entries-clause-serves c t was entries are up =
    let groups = c.in_ok-groups in
    let members = c.in_ok-members in
    let rows = rows_shown t c.args.self.now was groups.groups.items members.members.items c.deref.result.now c.deref-2.result.now c.deref.ensures.value c.deref-2.ensures.value groups.ensures.same members.ensures.same groups.ensures.sorted members.ensures.sorted entries are up in
    let why = c.in_err-entries.ensures.serves entries (subst₂ (λ g m. AreRowsOf entries (map lent_group g) (map lent_member m)) (sym c.deref-3.ensures.value) (sym c.deref-4.ensures.value) rows) in
    search rules

pub returns-clause-serves : goal.returns-clause-serves
returns-clause-serves c t was entries are up =
    let groups = c.in_ok-groups in
    let members = c.in_ok-members in
    let made = c.in_ok-entries.entries.items in
    let rows = rows_shown t c.args.self.now was groups.groups.items members.members.items c.deref.result.now c.deref-2.result.now c.deref.ensures.value c.deref-2.ensures.value groups.ensures.same members.ensures.same groups.ensures.sorted members.ensures.sorted entries are up in
    let rises = rise_too made entries (c.in_ok-entries.ensures.groups ∙ ap (map lent_group) c.deref-3.ensures.value ∙ rows.groups_are) up in
    let told = c.names_rise.ensures.1 (subst (λ (l : List GroupEntry). AllAdjacentBelow IsBefore l (length l)) (sym c.deref-5.ensures.value) rises) in
    absurd (true≢false (sym told ∙ c.if-names_rise.false))
