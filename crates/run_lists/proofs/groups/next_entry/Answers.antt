use Rattle.std.proofs.Common.{◌≡◌, ◌<◌, ◌∙◌, ℕ, List, length, string_bytes, sym, ap, subst}
use Rattle.std.specs.List.{AllAdjacentBelow}
use Rattle.std.proofs.lemmas.Result.{IfErr-weaker, IfOk-weaker}
use Rattle.plain_tables.specs.Labels.{IsGroupName}
use Rattle.plain_tables.specs.Tables.{GroupRow}
use Rattle.run_lists.specs.Lent.{lent_member}
use Rattle.run_lists.proofs.GroupSteps.{runs_are}
use Rattle.run_lists.proofs.groups.next_entry.Goals as goal

pub returns-clause-whole : goal.returns-clause-whole
returns-clause-whole c e is begins =
    let read = c.in_ok-runs in
    let name = c.as_str.result.now in
    let named : string_bytes e.name ≡ name = ap (λ (g : GroupRow). g.name) is ∙ sym c.in_ok-name.ensures.cases ∙ sym c.as_str.ensures.value in
    let same : read.runs ≡ e.members = runs_are lent_member e name read.runs c.args.members.now named begins read.ensures.front read.ensures.whole in
    IfOk-weaker c.group_entry.result _ _ (λ entry made. made.2 ∙ same) c.group_entry.ensures.made

pub returns-clause-serves : goal.returns-clause-serves
returns-clause-serves c e is begins =
    let read = c.in_ok-runs in
    let name = c.as_str.result.now in
    let named : string_bytes e.name ≡ name = ap (λ (g : GroupRow). g.name) is ∙ sym c.in_ok-name.ensures.cases ∙ sym c.as_str.ensures.value in
    let same : read.runs ≡ e.members = runs_are lent_member e name read.runs c.args.members.now named begins read.ensures.front read.ensures.whole in
    let form : IsGroupName (string_bytes c.in_ok-name.name) = subst IsGroupName (named ∙ c.as_str.ensures.value) e.form in
    let rising : AllAdjacentBelow (λ (a b : ℕ). a < b) read.runs (length read.runs) = subst (λ (l : List ℕ). AllAdjacentBelow (λ (a b : ℕ). a < b) l (length l)) (sym same) e.rising in
    IfErr-weaker c.group_entry.result _ _ (λ error bad. absurd (bad (form, rising))) c.group_entry.ensures.refused
