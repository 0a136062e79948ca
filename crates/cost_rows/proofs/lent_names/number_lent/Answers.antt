use Rattle.std.proofs.Common.{◌≡◌, Some, sym, ◌∙◌}
use Rattle.cost_rows.specs.Marks.{number_at}
use Rattle.cost_rows.specs.Naming.{place_of}
use Rattle.cost_rows.proofs.GrowingLemmas.{grows-after}
use Rattle.cost_rows.proofs.MarksLemmas.{learns-number, number-known, place-below}
use Rattle.cost_rows.proofs.NamingLemmas.{with-held}
use Rattle.cost_rows.proofs.lent_names.number_lent.Goals as goal

known : (c : goal.In-Some) → place_of c.args.name.text.now c.args.names.now ≡ Some c.in-Some.number
known c =
    let kept : number_at c.args.marks.now c.args.name.mark ≡ Some c.in-Some.number = sym c.find.ensures ∙ c.in-Some.is in
    number-known c.args.names.now c.args.marks.now c.args.name c.in-Some.number c.len-held.ensures.distinct c.requires.named c.requires.same kept

pub returns-in-Some-clause-number : goal.returns-in-Some-clause-number
returns-in-Some-clause-number c = known c

pub returns-in-Some-clause-names : goal.returns-in-Some-clause-names
returns-in-Some-clause-names c = sym (with-held c.args.names.now c.args.name.text.now c.in-Some.number (known c))

pub returns-in_err-keep-clause-grows : goal.returns-in_err-keep-clause-grows
returns-in_err-keep-clause-grows c = grows-after c.id_of.result c.args.names.now c.id_of.new.self c.args.name.text.now c.id_of.ensures.number

pub returns-clause-grows : goal.returns-clause-grows
returns-clause-grows c = grows-after c.id_of.result c.args.names.now c.id_of.new.self c.args.name.text.now c.id_of.ensures.number

pub returns-clause-learns : goal.returns-clause-learns
returns-clause-learns c =
    let place = c.in_ok-number.ensures.number.0 in
    learns-number c.args.names.now c.args.marks.now c.args.name c.id_of.new.self c.keep.new.self c.in_ok-number.number c.requires.named
    (grows-after c.id_of.result c.args.names.now c.id_of.new.self c.args.name.text.now c.id_of.ensures.number)
    place (place-below c.id_of.new.self c.args.name.text.now c.in_ok-number.number place) c.in_ok-keep.ensures
