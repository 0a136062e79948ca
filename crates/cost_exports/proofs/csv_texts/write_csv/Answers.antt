use Rattle.report_texts.specs.Csv.{csv_text}
use Rattle.cost_exports.proofs.PieceLemmas.{on_error, on_none}
use Rattle.byte_io.proofs.SinkLemmas.{part_none}
use Rattle.cost_exports.proofs.csv_texts.write_csv.Goals as goal

pub returns-in-Ok-clause-whole : goal.returns-in-Ok-clause-whole
returns-in-Ok-clause-whole g c = (c.in-Ok.ensures c.args.out.now (on_none g.W.TextSink.takes c.args.out.now _ c.in_ok-pieces.ensures)).out

pub returns-in-Err-Memory-clause-part : goal.returns-in-Err-Memory-clause-part
returns-in-Err-Memory-clause-part g c = (c.in-Err-Memory.ensures c.args.out.now (on_none g.W.TextSink.takes c.args.out.now _ c.in_ok-pieces.ensures)).out

pub returns-in-Err-Memory-clause-none : goal.returns-in-Err-Memory-clause-none
returns-in-Err-Memory-clause-none g c is = (c.in-Err-Memory.ensures c.args.out.now (on_none g.W.TextSink.takes c.args.out.now _ c.in_ok-pieces.ensures)).none (c.out_of_memory.ensures is)

pub returns-clause-part : goal.returns-clause-part
returns-clause-part g c = (c.in-Err-Failed.ensures c.args.out.now (on_none g.W.TextSink.takes c.args.out.now _ c.in_ok-pieces.ensures)).out

pub returns-in_err-pieces-clause-part : goal.returns-in_err-pieces-clause-part
returns-in_err-pieces-clause-part g c = on_error c.from_residual.result _ (part_none g.W.TextSink.takes g.W.TextSink.stops c.args.out.now (csv_text c.args.sums.now))
