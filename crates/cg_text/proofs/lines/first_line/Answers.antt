use Rattle.std.proofs.Common.{◌∷◌, length, take, sym, ◌∙◌, ap}
use Rattle.std.proofs.lemmas.Bool.{eqb-false}
use Rattle.std.proofs.lemmas.List.{take_rest}
use Rattle.cg_text.specs.Lines.{lines_of}
use Rattle.cg_text.proofs.LinesLemmas.{lines-Some, lines-None}
use Rattle.cg_text.proofs.lines.first_line.Goals as goal

pub returns-in-Some-clause-lines : goal.returns-in-Some-clause-lines
returns-in-Some-clause-lines c =
    let text = c.args.text.now in
    lines-Some text c.in-Some.end (sym c.line_end.ensures ∙ c.in-Some.is) ∙ ap (λ rest. take c.in-Some.end text ∷ lines_of rest) (sym (take_rest text _))

pub returns-in-None-clause-lines : goal.returns-in-None-clause-lines
returns-in-None-clause-lines c =
    lines-None c.args.text.now (sym c.line_end.ensures ∙ c.in-None.is) (λ e. eqb-false (length c.args.text.now) 0 (sym c.is_empty.ensures ∙ c.if-is_empty.false) (ap length e))
