use Rattle.std.proofs.Common.{FitsSigned, IfSome, sym, subst, to_z-of_z, w64}
use Rattle.page_files.proofs.Reading.{OnlyReads-trans}
use Rattle.page_lists.specs.Walks.{AllEarlier}
use Rattle.page_lists.proofs.Shows.{shows_after}
use Rattle.page_runs.proofs.places.begin_of.Goals as goal

pub returns-in-Some-2-clause-earlier : goal.returns-in-Some-2-clause-earlier
returns-in-Some-2-clause-earlier g c faithful = λ rows is order.
    let fits : FitsSigned w64 c.in-Some-2.from = subst (λ found. IfSome found (FitsSigned w64)) c.in-Some-2.is c.in_ok-from-in-Some.ensures.fits in
    let earlier : AllEarlier c.args.run c.in-Some-2.from rows = subst (λ found. IfSome found (λ from. AllEarlier c.args.run from rows)) c.in-Some-2.is (c.in_ok-from-in-Some.ensures.earlier faithful rows is order) in
    subst (λ z. AllEarlier c.args.run z rows) (sym (to_z-of_z fits)) earlier

pub returns-in-None-2-clause-earlier : goal.returns-in-None-2-clause-earlier
returns-in-None-2-clause-earlier g c faithful = λ rows is order. c.place_of.ensures.earlier faithful rows (shows_after _ _ _ rows c.proved_place.ensures.reads is) order

pub returns-in-None-2-clause-reads : goal.returns-in-None-2-clause-reads
returns-in-None-2-clause-reads g c = OnlyReads-trans _ _ _ c.proved_place.ensures.reads c.place_of.ensures.reads
