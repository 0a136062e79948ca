use Rattle.file_reading.proofs.Fed.{ended_records, ended_stacks}
use Rattle.file_reading.proofs.parser.FileReader.finish.Goals as goal

pub returns-in-Callgrind : goal.returns-in-Callgrind
returns-in-Callgrind c = ended_records c.in-Callgrind.reader c.args.rows.now c.finish.new.sink c.args.self c.in-Callgrind.is c.finish.result c.finish.ensures.ended c.finish.ensures.told

pub returns-in-Folded : goal.returns-in-Folded
returns-in-Folded c = ended_stacks c.in-Folded.reader c.args.rows.now c.finish-in-Folded.new.sink c.args.self c.in-Folded.is c.finish-in-Folded.result c.finish-in-Folded.ensures.ended c.finish-in-Folded.ensures.told
