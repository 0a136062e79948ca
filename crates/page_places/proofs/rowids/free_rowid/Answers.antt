use Rattle.std.proofs.Common.{rules, arith, ◌≡◌, ◌^◌, ◌-◌, ℤ, pos, ◌+ℤ◌, Some, sym, ap, subst, subst₂, ◌∙◌, to_z-of_z, to_z, of_z, w64}
use Rattle.std.proofs.lemmas.Int.{ints}
use Rattle.std.proofs.lemmas.Result.{err_from_is_err_and}
use Rattle.sqlite_rules.specs.Edit.{next_rowid}
use Rattle.sqlite_value.specs.declared.value.Value.TheVariants.{Int}
use Rattle.sql_tables.proofs.Rows.{below_next}
use Rattle.page_files.specs.Lasts.{IsLastRowid}
use Rattle.page_files.specs.Trees.{trees_of}
use Rattle.page_places.specs.Changes.{AreBelow}
use Rattle.page_places.proofs.Changed.{table_shaped}
use Rattle.page_places.proofs.Outcomes.{numbered_next, table_shows}
use Rattle.page_places.proofs.rowids.free_rowid.Goals as goal

pub returns-in_err-last-clause-done : goal.returns-in_err-last-clause-done
returns-in_err-last-clause-done g c faithful = λ schema wanted roots was now table shows.
    let p = err_from_is_err_and c.from_residual.result c.from_residual.ensures.1 in
    rw (p.1, p.2) (c.in_err-last.ensures.done faithful wanted table.tree (table_shows c.args.file.now shows).0)

pub returns-in_default-clause-done : goal.returns-in_default-clause-done
returns-in_default-clause-done g c faithful = λ schema wanted roots was now table shows.
    let t = table_shows c.args.file.now shows in
    let shaped = table_shaped c.args.file.now shows.writes shows.placed.at in
    let none = subst (IsLastRowid (trees_of wanted c.args.file.now table.tree)) c.in_default.is (c.in_ok-last.ensures.done faithful wanted table.tree t.0) in
    let is : next_rowid (now table.tree) ≡ pos 1 = ap next_rowid (sym t.1 ∙ none) in
    (sym is, subst (λ n. AreBelow (Int n) (now table.tree)) is (below_next (now table.tree) shaped.0 shaped.1))

pub returns-then-last-eq9223372036854775807-clause-done : goal.returns-then-last-eq9223372036854775807-clause-done
returns-then-last-eq9223372036854775807-clause-done g c faithful = λ schema wanted roots was now table shows.
    let t = table_shows c.args.file.now shows in
    let there = subst (IsLastRowid (trees_of wanted c.args.file.now table.tree)) c.in-Some.is (c.in_ok-last.ensures.done faithful wanted table.tree t.0) in
    let same : to_z w64 (of_z w64 c.in-Some.last) ≡ c.in-Some.last = search (rules, to_z-of_z) in
    let is : c.in-Some.last ≡ pos (2 ^ 63 - 1) = grind (arith, ints, same, c.if-last-eq9223372036854775807.true) in
    subst₂ (λ rows id. IsLastRowid rows (Some id)) t.1 is there

pub returns-clause-done : goal.returns-clause-done
returns-clause-done g c faithful = λ schema wanted roots was now table shows.
    let t = table_shows c.args.file.now shows in
    let shaped = table_shaped c.args.file.now shows.writes shows.placed.at in
    let there = subst (IsLastRowid (trees_of wanted c.args.file.now table.tree)) c.in-Some.is (c.in_ok-last.ensures.done faithful wanted table.tree t.0) in
    let next = numbered_next (now table.tree) c.in-Some.last (subst (λ rows. IsLastRowid rows (Some c.in-Some.last)) t.1 there) in
    let same : to_z w64 (of_z w64 c.in-Some.last) ≡ c.in-Some.last = search (rules, to_z-of_z) in
    let more : to_z w64 (of_z w64 (to_z w64 (of_z w64 c.in-Some.last) +ℤ pos 1)) ≡ to_z w64 (of_z w64 c.in-Some.last) +ℤ pos 1 = grind (arith, ints, to_z-of_z, same, c.if-last-eq9223372036854775807.false) in
    let is = more ∙ ap (λ (n : ℤ). n +ℤ pos 1) same ∙ next in
    (is, subst (λ n. AreBelow (Int n) (now table.tree)) (sym is) (below_next (now table.tree) shaped.0 shaped.1))
