use Rattle.std.proofs.Common.{◌∙◌, sym, refl, subst, inl, inr}
use Rattle.sqlite_rules.specs.Lists.{Has}
use Rattle.sqlite_rules.proofs.ListLemmas.{has_left}
use Rattle.page_rows.proofs.FileTables.{all_shown_from_least}
use Rattle.page_changes.specs.Named.{AreOthers, IsFound, named}
use Rattle.page_changes.proofs.Failing.{walk_ended}
use Rattle.page_changes.proofs.finding.find_named.Goals as goal

pub returns-in-Ok-clause-found : goal.returns-in-Ok-clause-found
returns-in-Ok-clause-found g c faithful rows is =
    let name = c.args.name.now in
    let number = c.args.number in
    let whole = all_shown_from_least is.shows.is_db is.shows.rooted ∙ is.rows_are in
    elim (c.in-Ok.ensures.done faithful is.wanted is.t is.shows (name, number) (refl, refl, refl, tt)) [
      | inl all ↦ subst (IsFound name number rows) (sym all.2) (subst (AreOthers name number) whole all.3)
      | inr (front, rest, parts, ends) ↦
          let (row, found, at) = ends in
          subst (IsFound name number rows) (sym found) (record { there = subst (λ l. Has l (named row.rowid name row.number)) (sym parts ∙ whole) (has_left front rest (named row.rowid name row.number) at.there); is = at.is; fits = at.fits })
    ]

pub returns-in-Err-clause-failed : goal.returns-in-Err-clause-failed
returns-in-Err-clause-failed g c faithful rows is =
    walk_ended c.args.file.now c.walk.new.self c.in-Err.error c.error_of_walk.ensures (all_shown_from_least is.shows.is_db is.shows.rooted ∙ is.rows_are)
    (c.in-Err.ensures.done faithful is.wanted is.t is.shows (c.args.name.now, c.args.number) (refl, refl, refl, tt))
