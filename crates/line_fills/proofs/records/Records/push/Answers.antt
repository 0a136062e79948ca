use Rattle.std.proofs.Common.{[], ◌∷◌, ◌++◌, ap, ap₂, ◌∙◌}
use Rattle.line_fills.specs.Records.{cut}
use Rattle.line_fills.proofs.Cuts.{cut-append}
use Rattle.line_fills.proofs.records.Records.push.Goals as goal

pub returns : goal.returns
returns c =
    let bytes = c.self.inside.bytes.items in
    let lengths = c.self.inside.lengths.items in
    let more = c.args.bytes.now in
    ap₂ cut c.in_ok-extend_from_slice.ensures.items c.in_default.ensures.items ∙ cut-append bytes more lengths c.self.invariant ∙ ap (λ l. l ++ more ∷ []) c.self.view_is
