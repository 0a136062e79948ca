use Rattle.prof_store.proofs.Lines.{lines_said}
use Rattle.prof_store.proofs.laws.rows_say_lines.Goals as goal

pub returns : goal.returns
returns c db sound shaped meta far is_far = lines_said db sound shaped meta far is_far
