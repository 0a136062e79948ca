use Rattle.std.proofs.Common.{refl}
use Rattle.cg_text.specs.declared.words.Namespace.TheVariants.{Object}
use Rattle.cost_rows.proofs.GrowingLemmas.{grows-more, place-numbered}
use Rattle.cost_rows.proofs.MarksLemmas.{file-named, file-same, function-named, function-same, learns-three}
use Rattle.cost_rows.proofs.lent_names.place_lent.Goals as goal

pub number_lent-requires-clause-named : goal.number_lent-requires-clause-named
number_lent-requires-clause-named c = c.requires.named Object

pub number_lent-requires-clause-same : goal.number_lent-requires-clause-same
number_lent-requires-clause-same c = λ text is. c.requires.agrees.before Object c.args.lent.object.mark text c.args.lent.object.text.now is (refl, refl)

pub number_lent-requires-2-clause-named : goal.number_lent-requires-2-clause-named
number_lent-requires-2-clause-named c = file-named c.args.names.now c.number_lent.new.names c.args.marks.now c.number_lent.ensures.grows c.requires.named

pub number_lent-requires-2-clause-same : goal.number_lent-requires-2-clause-same
number_lent-requires-2-clause-same c = file-same c.args.names.now c.number_lent.new.names c.args.marks.now c.number_lent.ensures.grows c.requires.named c.args.lent c.requires.agrees

pub number_lent-requires-3-clause-named : goal.number_lent-requires-3-clause-named
number_lent-requires-3-clause-named c =
    function-named c.args.names.now c.number_lent.new.names c.number_lent-2.new.names c.args.marks.now c.number_lent.ensures.grows c.number_lent-2.ensures.grows c.requires.named

pub number_lent-requires-3-clause-same : goal.number_lent-requires-3-clause-same
number_lent-requires-3-clause-same c =
    function-same c.args.names.now c.number_lent.new.names c.number_lent-2.new.names c.args.marks.now c.number_lent.ensures.grows c.number_lent-2.ensures.grows c.requires.named c.args.lent c.requires.agrees

pub returns-in_err-file-clause-grows : goal.returns-in_err-file-clause-grows
returns-in_err-file-clause-grows c = grows-more c.args.names.now c.number_lent.new.names c.number_lent-2.new.names c.number_lent.ensures.grows c.number_lent-2.ensures.grows

pub returns-in_err-function-clause-grows : goal.returns-in_err-function-clause-grows
returns-in_err-function-clause-grows c =
    grows-more c.args.names.now c.number_lent-2.new.names c.number_lent-3.new.names
    (grows-more c.args.names.now c.number_lent.new.names c.number_lent-2.new.names c.number_lent.ensures.grows c.number_lent-2.ensures.grows)
    c.number_lent-3.ensures.grows

pub returns-clause-place : goal.returns-clause-place
returns-clause-place c =
    place-numbered c.number_lent.new.names c.number_lent-2.new.names c.number_lent-3.new.names c.args.lent.object.text.now c.args.lent.file.text.now c.args.lent.function.text.now
    c.in_ok-object.object c.in_ok-file.file c.in_ok-function.function c.args.line
    c.in_ok-object.ensures.number c.in_ok-file.ensures.names c.in_ok-file.ensures.number c.in_ok-function.ensures.names c.in_ok-function.ensures.number

pub returns-clause-grows : goal.returns-clause-grows
returns-clause-grows c =
    grows-more c.args.names.now c.number_lent-2.new.names c.number_lent-3.new.names
    (grows-more c.args.names.now c.number_lent.new.names c.number_lent-2.new.names c.number_lent.ensures.grows c.number_lent-2.ensures.grows)
    c.number_lent-3.ensures.grows

pub returns-clause-learns : goal.returns-clause-learns
returns-clause-learns c =
    learns-three c.args.names.now c.number_lent.new.names c.number_lent-2.new.names c.args.marks.now c.number_lent.ensures.grows c.number_lent-2.ensures.grows c.requires.named
    c.number_lent-3.new.names _ c.args.lent c.number_lent-3.ensures.grows c.in_ok-object.ensures.learns c.in_ok-file.ensures.learns c.in_ok-function.ensures.learns
