use Rattle.std.proofs.lemmas.Option.{MatchOption-from_none}
use Rattle.store_paths.proofs.files.read_only.Goals as goal

pub returns-in_err-bytes-clause-log : goal.returns-in_err-bytes-clause-log
returns-in_err-bytes-clause-log g c = MatchOption-from_none c.from_residual.result _ c.from_residual.ensures

pub returns-in_err-bytes-clause-db : goal.returns-in_err-bytes-clause-db
returns-in_err-bytes-clause-db g c = MatchOption-from_none c.from_residual.result _ c.from_residual.ensures

pub returns-in_err-bytes-clause-shows : goal.returns-in_err-bytes-clause-shows
returns-in_err-bytes-clause-shows g c = MatchOption-from_none c.from_residual.result _ c.from_residual.ensures

pub returns-in_err-bytes-clause-clean : goal.returns-in_err-bytes-clause-clean
returns-in_err-bytes-clause-clean g c = MatchOption-from_none c.from_residual.result _ c.from_residual.ensures

pub returns-in_err-bytes-clause-lasting : goal.returns-in_err-bytes-clause-lasting
returns-in_err-bytes-clause-lasting g c = MatchOption-from_none c.from_residual.result _ c.from_residual.ensures

pub returns-in_err-bytes-clause-most : goal.returns-in_err-bytes-clause-most
returns-in_err-bytes-clause-most g c = MatchOption-from_none c.from_residual.result _ c.from_residual.ensures

pub returns-in_err-bytes-clause-faults : goal.returns-in_err-bytes-clause-faults
returns-in_err-bytes-clause-faults g c = MatchOption-from_none c.from_residual.result _ c.from_residual.ensures

pub returns-in_err-bytes-clause-key : goal.returns-in_err-bytes-clause-key
returns-in_err-bytes-clause-key g c = MatchOption-from_none c.from_residual.result _ c.from_residual.ensures
