use Rattle.std.proofs.Common.{◌∙◌, map, ap}
use Rattle.plain_tables.specs.Tables.{RunRow}
use Rattle.run_lists.specs.Listed.{run_row}
use Rattle.run_lists.specs.declared.listed.ListedRun.{ListedRun}
use Rattle.run_lists.proofs.Rows.{map_row}
use Rattle.run_lists.proofs.listed.RunLists.run_numbers.Goals as goal

pub returns : goal.returns
returns c = record {
  refused = tt;
  told = λ t was.
      let lines = c.args.self.now.runs.items in
      let number = λ (r : RunRow). r.number in
      c.from_vec.ensures ∙ c.in_ok-numbers.ensures.read ∙ ap (map (λ (r : ListedRun). r.entry.number)) c.deref.ensures.value ∙ map_row run_row number lines ∙ ap (map number) was.runs;
}
