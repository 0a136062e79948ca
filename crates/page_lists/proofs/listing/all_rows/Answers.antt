use Rattle.std.proofs.Common.{map, ap, sym, subst, ◌∙◌, inl, inr}
use Rattle.std.specs.List.{AllByRecursion}
use Rattle.page_rows.proofs.FileTables.{all_shown_from_least}
use Rattle.page_lists.proofs.Refusing.{all_from, walk_fails}
use Rattle.page_lists.proofs.listing.all_rows.Goals as goal

pub returns-in-Ok-clause-read : goal.returns-in-Ok-clause-read
returns-in-Ok-clause-read g c faithful = λ rows is.
    let l = g.L.FromRecord in
    elim (c.in-Ok.ensures.done faithful is.wanted is.t is.shows tt (ap (map l.columns) c.new.ensures.items)) [
      | inl all ↦ all ∙ ap (map l.seen) (all_shown_from_least is.shows.is_db is.shows.rooted ∙ is.rows_are)
      | inr front ↦ absurd front.3
    ]

pub returns-in-Err-clause-serves : goal.returns-in-Err-clause-serves
returns-in-Err-clause-serves g c faithful = λ rows is all.
    let l = g.L.FromRecord in
    let whole = all_from l.IsRead _ _ (subst (AllByRecursion l.IsRead) (sym is.rows_are) all) in
    walk_fails c.args.file.now c.walk.new.self l.IsRead _ c.in-Err.error _ c.error_of_walk.ensures whole
    (c.in-Err.ensures.done faithful is.wanted is.t is.shows tt (ap (map l.columns) c.new.ensures.items))
