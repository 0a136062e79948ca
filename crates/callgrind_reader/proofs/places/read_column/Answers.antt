use Rattle.std.proofs.Common.{◌+◌}
use Rattle.cg_text.specs.Fields.{fields_of}
use Rattle.callgrind_reader.proofs.PlacesLemmas.{one_column}
use Rattle.callgrind_reader.proofs.places.read_column.Goals as goal

pub returns-clause-read : goal.returns-clause-read
returns-clause-read c =
    one_column (c.args.largest + 1) c.args.before c.in_ok-next.next c.args.is_there c.in-Some.field.now (fields_of c.args.text.now) (fields_of c.in-Some.rest.now) c.if-not-is_there.false c.in-Some.ensures.fields c.in_ok-next.ensures
