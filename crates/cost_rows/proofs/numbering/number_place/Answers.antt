use Rattle.cost_rows.proofs.GrowingLemmas.{grows-more, grows-after, place-numbered}
use Rattle.cost_rows.proofs.numbering.number_place.Goals as goal

pub returns-in_err-file-clause-grows : goal.returns-in_err-file-clause-grows
returns-in_err-file-clause-grows c =
    grows-more c.args.names.now c.number.new.names c.number-2.new.names
    (grows-after c.number.result c.args.names.now c.number.new.names c.args.object.now c.number.ensures)
    (grows-after c.number-2.result c.number.new.names c.number-2.new.names c.args.file.now c.number-2.ensures)

pub returns-in_err-function-clause-grows : goal.returns-in_err-function-clause-grows
returns-in_err-function-clause-grows c =
    grows-more c.args.names.now c.number-2.new.names c.number-3.new.names
    (grows-more c.args.names.now c.number.new.names c.number-2.new.names
    (grows-after c.number.result c.args.names.now c.number.new.names c.args.object.now c.number.ensures)
    (grows-after c.number-2.result c.number.new.names c.number-2.new.names c.args.file.now c.number-2.ensures))
    (grows-after c.number-3.result c.number-2.new.names c.number-3.new.names c.args.function.now c.number-3.ensures)

pub returns-clause-place : goal.returns-clause-place
returns-clause-place c =
    place-numbered c.number.new.names c.number-2.new.names c.number-3.new.names c.args.object.now c.args.file.now c.args.function.now
    c.in_ok-object.object c.in_ok-file.file c.in_ok-function.function c.args.line
    c.in_ok-object.ensures.0 c.in_ok-file.ensures.1 c.in_ok-file.ensures.0 c.in_ok-function.ensures.1 c.in_ok-function.ensures.0

pub returns-clause-grows : goal.returns-clause-grows
returns-clause-grows c =
    grows-more c.args.names.now c.number-2.new.names c.number-3.new.names
    (grows-more c.args.names.now c.number.new.names c.number-2.new.names
    (grows-after c.number.result c.args.names.now c.number.new.names c.args.object.now c.number.ensures)
    (grows-after c.number-2.result c.number.new.names c.number-2.new.names c.args.file.now c.number-2.ensures))
    (grows-after c.number-3.result c.number-2.new.names c.number-3.new.names c.args.function.now c.number-3.ensures)
