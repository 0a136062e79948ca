use Rattle.file_reading.proofs.Fed.{fed_records, fed_stacks}
use Rattle.file_reading.proofs.parser.FileReader.feed.Goals as goal

pub returns-in-Callgrind : goal.returns-in-Callgrind
returns-in-Callgrind c =
    fed_records c.in-Callgrind.reader c.feed.new.self c.args.rows.now c.feed.new.sink c.args.self.now c.in-Callgrind.is c.args.piece.now c.feed.result c.feed.ensures.reads c.feed.ensures.stays

pub returns-in-Folded : goal.returns-in-Folded
returns-in-Folded c =
    fed_stacks c.in-Folded.reader c.feed-in-Folded.new.self c.args.rows.now c.feed-in-Folded.new.sink c.args.self.now c.in-Folded.is c.args.piece.now c.feed-in-Folded.result c.feed-in-Folded.ensures.reads c.feed-in-Folded.ensures.stays
