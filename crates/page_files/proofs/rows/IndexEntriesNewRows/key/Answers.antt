use Rattle.std.proofs.Common.{sym, ap, arith, ℕ, List, []}
use Rattle.std.proofs.lemmas.List.{get_or-map, length-map}
use Rattle.sqlite_btree.proofs.SpreadLemmas.{no_cell}
use Rattle.std.specs.Borrow.{Bor}
use Rattle.page_files.specs.Rows.{NewRow}
use Rattle.page_files.proofs.rows.IndexEntriesNewRows.key.Goals as goal

pub returns-clause-value : goal.returns-clause-value
returns-clause-value c = sym (ap (λ (r : NewRow). r.0) (get_or-map (λ entry. (0, entry.now)) c.args.self.now.1.now c.args._i no_cell (0, []) (omega (arith, length-map {B = NewRow} c.args.self.now.1.now (λ (entry : Bor (List ℕ)). (0, entry.now))))))
