use Rattle.std.proofs.Common.{if◌then◌else◌, ◌∙◌, subst, ap}
use Rattle.cg_text.specs.Fields.{fields_of}
use Rattle.callgrind_reader.specs.Columns.{ReadColumn}
use Rattle.callgrind_reader.proofs.PlacesLemmas.{both_columns}
use Rattle.callgrind_reader.proofs.places.Places.read.Goals as goal
use Rattle.callgrind_reader.proofs.places.Places.read.Goals.{then-has_line, else-has_line}

pub returns : goal.returns
returns c =
    let fields = fields_of c.args.text.now in
    let rest = fields_of c.in_ok-address.rest.now in
    let costs = fields_of c.in_ok-line.costs.now in
    both_columns c.args.layout c.args.self fields rest _
    (subst (λ b. ReadColumn b 18446744073709551616 c.args.self.address fields c.in_ok-address.address rest) c.has_address.ensures c.in_ok-address.ensures.read)
    (subst (λ b. ReadColumn b 9223372036854775808 c.args.self.line rest c.in_ok-line.line costs) c.has_line.ensures c.in_ok-line.ensures.read)
    (elim c.if-has_line.branch [
      | then-has_line w ↦ w.line-is ∙ ap (λ b. if b then c.in_ok-line.line else 0) w.if-has_line.ensures
      | else-has_line w ↦ w.line-is ∙ ap (λ b. if b then c.in_ok-line.line else 0) w.if-has_line.ensures
    ])
