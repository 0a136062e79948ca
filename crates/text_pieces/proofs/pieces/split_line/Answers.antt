use Rattle.std.proofs.Common.{◌++◌, [], ◌∷◌, take, sym, ◌∙◌, ap}
use Rattle.std.proofs.lemmas.List.{take_rest}
use Rattle.text_pieces.proofs.CutLemmas.{split-lf, no-lf}
use Rattle.text_pieces.proofs.pieces.split_line.Goals as goal

pub returns-in-Some-clause-run : goal.returns-in-Some-clause-run
returns-in-Some-clause-run c = (split-lf c.args.bytes.now c.in-Some.end (sym c.line_end.ensures ∙ c.in-Some.is)).1

pub returns-in-Some-clause-whole : goal.returns-in-Some-clause-whole
returns-in-Some-clause-whole c =
    let bytes = c.args.bytes.now in
    (split-lf bytes c.in-Some.end (sym c.line_end.ensures ∙ c.in-Some.is)).2 ∙ ap (λ xs. (take c.in-Some.end bytes ++ 10 ∷ []) ++ xs) (sym (take_rest bytes _))

pub returns-in-None-clause-none : goal.returns-in-None-clause-none
returns-in-None-clause-none c = no-lf c.args.bytes.now (sym c.line_end.ensures ∙ c.in-None.is)
