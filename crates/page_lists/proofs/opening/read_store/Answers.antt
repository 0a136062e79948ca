use Rattle.std.proofs.lemmas.Result.{IfOk-from_err}
use Rattle.page_lists.proofs.Chains.{◌⊳◌}
use Rattle.page_lists.proofs.Entries.{opened}
use Rattle.page_places.proofs.Rooting.{store_after}
use Rattle.page_lists.proofs.Indexed.{indexed_before}
use Rattle.page_lists.proofs.Rooting.{tables_show}
use Rattle.page_lists.proofs.opening.read_store.Goals as goal

pub returns-in-Ok-clause-read : goal.returns-in-Ok-clause-read
returns-in-Ok-clause-read g c faithful = λ db known is.
    let listed = c.check_indexes.ensures.reads.keeps.stays.clean faithful in
    let found = c.read_lists.ensures.reads.keeps.stays.clean listed in
    let there = store_after _ _ db known c.find_tables.ensures.reads is in
    let roots = c.in_ok-roots.ensures.found found db known there in
    let later = store_after _ _ db known c.find_roots.ensures.reads there in
    (roots, λ t says. c.in_ok-lists.ensures.listed listed t db says (tables_show _ db known later.stands is.sound _ roots))

pub returns-in-Ok-clause-reads : goal.returns-in-Ok-clause-reads
returns-in-Ok-clause-reads g c = c.find_tables.ensures.reads ⊳ c.find_roots.ensures.reads ⊳ c.read_lists.ensures.reads ⊳ c.check_indexes.ensures.reads

pub returns-in_err-roots-clause-reads : goal.returns-in_err-roots-clause-reads
returns-in_err-roots-clause-reads g c = c.find_tables.ensures.reads ⊳ c.find_roots.ensures.reads

pub returns-in_err-lists-clause-reads : goal.returns-in_err-lists-clause-reads
returns-in_err-lists-clause-reads g c = c.find_tables.ensures.reads ⊳ c.find_roots.ensures.reads ⊳ c.read_lists.ensures.reads

pub returns-in-Err-clause-reads : goal.returns-in-Err-clause-reads
returns-in-Err-clause-reads g c = c.find_tables.ensures.reads ⊳ c.find_roots.ensures.reads ⊳ c.read_lists.ensures.reads ⊳ c.check_indexes.ensures.reads

pub returns-in-Ok-clause-indexed : goal.returns-in-Ok-clause-indexed
returns-in-Ok-clause-indexed g c faithful =
    indexed_before _ _ (c.find_tables.ensures.reads ⊳ c.find_roots.ensures.reads ⊳ c.read_lists.ensures.reads) (c.in-Ok.ensures.same faithful)

pub returns-in_err-find_tables-clause-read : goal.returns-in_err-find_tables-clause-read
returns-in_err-find_tables-clause-read g c = λ faithful db known is. IfOk-from_err c.from_residual.result _ c.from_residual.ensures.0

pub returns-in_err-find_tables-clause-indexed : goal.returns-in_err-find_tables-clause-indexed
returns-in_err-find_tables-clause-indexed g c = IfOk-from_err c.from_residual.result _ c.from_residual.ensures.0

pub returns-in_err-find_tables-clause-usable : goal.returns-in_err-find_tables-clause-usable
returns-in_err-find_tables-clause-usable g c = IfOk-from_err c.from_residual.result _ c.from_residual.ensures.0

pub returns-in_err-is_alone-clause-read : goal.returns-in_err-is_alone-clause-read
returns-in_err-is_alone-clause-read g c = λ faithful db known is. IfOk-from_err c.from_residual-in_err-is_alone.result _ c.from_residual-in_err-is_alone.ensures.0

pub returns-in_err-is_alone-clause-indexed : goal.returns-in_err-is_alone-clause-indexed
returns-in_err-is_alone-clause-indexed g c = IfOk-from_err c.from_residual-in_err-is_alone.result _ c.from_residual-in_err-is_alone.ensures.0

pub returns-in_err-is_alone-clause-usable : goal.returns-in_err-is_alone-clause-usable
returns-in_err-is_alone-clause-usable g c = IfOk-from_err c.from_residual-in_err-is_alone.result _ c.from_residual-in_err-is_alone.ensures.0

pub returns-in_err-roots-clause-read : goal.returns-in_err-roots-clause-read
returns-in_err-roots-clause-read g c = λ faithful db known is. IfOk-from_err c.from_residual-in_err-roots.result _ c.from_residual-in_err-roots.ensures.0

pub returns-in_err-roots-clause-indexed : goal.returns-in_err-roots-clause-indexed
returns-in_err-roots-clause-indexed g c = IfOk-from_err c.from_residual-in_err-roots.result _ c.from_residual-in_err-roots.ensures.0

pub returns-in_err-roots-clause-usable : goal.returns-in_err-roots-clause-usable
returns-in_err-roots-clause-usable g c = IfOk-from_err c.from_residual-in_err-roots.result _ c.from_residual-in_err-roots.ensures.0

pub returns-in_err-lists-clause-read : goal.returns-in_err-lists-clause-read
returns-in_err-lists-clause-read g c = λ faithful db known is. IfOk-from_err c.from_residual-in_err-lists.result _ c.from_residual-in_err-lists.ensures.0

pub returns-in_err-lists-clause-indexed : goal.returns-in_err-lists-clause-indexed
returns-in_err-lists-clause-indexed g c = IfOk-from_err c.from_residual-in_err-lists.result _ c.from_residual-in_err-lists.ensures.0

pub returns-in_err-lists-clause-usable : goal.returns-in_err-lists-clause-usable
returns-in_err-lists-clause-usable g c = IfOk-from_err c.from_residual-in_err-lists.result _ c.from_residual-in_err-lists.ensures.0

pub returns-in_err-find_tables-clause-reads : goal.returns-in_err-find_tables-clause-reads
returns-in_err-find_tables-clause-reads g c = c.find_tables.ensures.reads

pub returns-in_err-is_alone-clause-reads : goal.returns-in_err-is_alone-clause-reads
returns-in_err-is_alone-clause-reads g c = c.find_tables.ensures.reads

pub returns-in-Err-clause-read : goal.returns-in-Err-clause-read
returns-in-Err-clause-read g c = λ faithful db known is. tt

pub returns-in-Err-clause-indexed : goal.returns-in-Err-clause-indexed
returns-in-Err-clause-indexed g c = tt

pub returns-in-Err-clause-usable : goal.returns-in-Err-clause-usable
returns-in-Err-clause-usable g c = tt

pub returns-in-Ok-clause-usable : goal.returns-in-Ok-clause-usable
returns-in-Ok-clause-usable g c = c.in-Ok.ensures.usable

pub returns-in-Ok-clause-tables : goal.returns-in-Ok-clause-tables
returns-in-Ok-clause-tables g c faithful has =
    let listed = c.check_indexes.ensures.reads.keeps.stays.clean faithful in
    let rooted = c.read_lists.ensures.reads.keeps.stays.clean listed in
    let found = c.find_roots.ensures.reads.keeps.stays.clean rooted in
    opened _ _ _ c.in_ok-is_alone.ensures (c.in_ok-find_tables.ensures.found found has)

pub returns-in_err-find_tables-clause-tables : goal.returns-in_err-find_tables-clause-tables
returns-in_err-find_tables-clause-tables g c = IfOk-from_err c.from_residual.result _ c.from_residual.ensures.0

pub returns-in_err-is_alone-clause-tables : goal.returns-in_err-is_alone-clause-tables
returns-in_err-is_alone-clause-tables g c = IfOk-from_err c.from_residual-in_err-is_alone.result _ c.from_residual-in_err-is_alone.ensures.0

pub returns-in_err-roots-clause-tables : goal.returns-in_err-roots-clause-tables
returns-in_err-roots-clause-tables g c = IfOk-from_err c.from_residual-in_err-roots.result _ c.from_residual-in_err-roots.ensures.0

pub returns-in_err-lists-clause-tables : goal.returns-in_err-lists-clause-tables
returns-in_err-lists-clause-tables g c = IfOk-from_err c.from_residual-in_err-lists.result _ c.from_residual-in_err-lists.ensures.0

pub returns-in-Err-clause-tables : goal.returns-in-Err-clause-tables
returns-in-Err-clause-tables g c = tt
