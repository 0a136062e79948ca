use Rattle.std.proofs.Common.{refl}
use Rattle.std.proofs.lemmas.Result.{err_from_is_err_and}
use Rattle.page_files.proofs.Reading.{OnlyReads-trans}
use Rattle.page_places.proofs.Failing.{reads_later}
use Rattle.page_places.proofs.Placing.{index_names_are}
use Rattle.page_places.proofs.Rooting.{store_after}
use Rattle.page_places.proofs.roots.find_roots.Goals as goal

pub returns-clause-found : goal.returns-clause-found
returns-clause-found g c faithful = λ db known is.
    let early = c.index_roots.ensures.reads.keeps.stays.clean faithful in
    let tables = c.in_ok-tables.ensures.found refl early db known is in
    let indexes = c.in_ok-indexes.ensures.found index_names_are faithful db known (store_after _ _ db known c.table_roots.ensures.reads is) in
    c.roots_of.ensures known tables indexes

pub returns-clause-reads : goal.returns-clause-reads
returns-clause-reads g c = OnlyReads-trans _ _ _ c.table_roots.ensures.reads c.index_roots.ensures.reads

pub returns-in_err-indexes-clause-reads : goal.returns-in_err-indexes-clause-reads
returns-in_err-indexes-clause-reads g c = OnlyReads-trans _ _ _ c.table_roots.ensures.reads c.index_roots.ensures.reads

pub returns-in_err-indexes-clause-failed : goal.returns-in_err-indexes-clause-failed
returns-in_err-indexes-clause-failed g c =
    let p = err_from_is_err_and c.from_residual-in_err-indexes.result c.from_residual-in_err-indexes.ensures.1 in
    rw (p.1, p.2) (λ faithful db known is.
    reads_later c.args.file.now c.table_roots.new.file c.index_roots.new.file _ c.table_roots.ensures.reads
    (c.in_err-indexes.ensures.failed index_names_are faithful db known (store_after _ _ db known c.table_roots.ensures.reads is)))
