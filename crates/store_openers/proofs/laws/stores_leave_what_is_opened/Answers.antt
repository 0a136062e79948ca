use Rattle.std.proofs.Common.{subst, sym}
use Rattle.sqlite_pool.specs.Stored.{stored_size}
use Rattle.sqlite_wal.specs.PageSize.{IsPageSize}
use Rattle.plain_tables.specs.Tables.{new_tables}
use Rattle.run_stores.proofs.Ordered.{new_in_order}
use Rattle.histories.proofs.Steps.{tell_nothing}
use Rattle.store_openers.proofs.Plain.{held_rows, size_allowed}
use Rattle.store_openers.proofs.laws.stores_leave_what_is_opened.Goals as goal

pub returns-clause-left : goal.returns-clause-left
returns-clause-left g c limits h store leaves left may =
    let is = leaves left may in
    let allowed = subst (λ n. IsPageSize (stored_size n)) (sym may.0) (size_allowed store.file.pool) in (
      is.told,
      is.may,
      record {
        legal = is.held.holds.legal;
        t = is.held.t;
        agrees = is.held.holds;
        holds = (held_rows is.held.t left.0 left.1 allowed is.held.is, is.held.is.ordered);
      },
    )

pub returns-clause-new : goal.returns-clause-new
returns-clause-new g c image holds = record { legal = tt; t = new_tables; agrees = tell_nothing; holds = (holds, new_in_order) }
