use Rattle.std.proofs.Common.{length, ◌∷◌, sym, ◌∙◌, ap, take}
use Rattle.std.proofs.lemmas.Bool.{eqb-true, eqb-false}
use Rattle.std.proofs.lemmas.List.{nil_from_length, take_rest}
use Rattle.cg_text.specs.Fields.{fields_of}
use Rattle.cg_text.proofs.FieldsLemmas.{fields-trim_start, trim_start-begins, fields-Some, fields-None}
use Rattle.cg_text.proofs.split.next_field.Goals as goal

pub returns-then-is_empty-clause-none : goal.returns-then-is_empty-clause-none
returns-then-is_empty-clause-none c =
    let none = nil_from_length c.trim_start-text.result.now (eqb-true _ _ (sym c.is_empty.ensures ∙ c.if-is_empty.true)) in
    sym (fields-trim_start c.args.text.now) ∙ ap fields_of (sym c.trim_start-text.ensures ∙ none)

pub returns-in-Some-clause-fields : goal.returns-in-Some-clause-fields
returns-in-Some-clause-fields c =
    let rest = c.trim_start-text.result.now in
    let begins = rw (← c.trim_start-text.ensures) at (trim_start-begins c.args.text.now) in
    let field = begins (λ e. eqb-false (length rest) 0 (sym c.is_empty.ensures ∙ c.if-is_empty.false) e) in
    sym (fields-trim_start c.args.text.now) ∙ ap fields_of (sym c.trim_start-text.ensures)
    ∙ fields-Some rest c.in-Some.end field (sym c.first_blank.ensures ∙ c.in-Some.is)
    ∙ ap (λ xs. take c.in-Some.end rest ∷ fields_of xs) (sym (take_rest rest _))

pub returns-in-None-clause-fields : goal.returns-in-None-clause-fields
returns-in-None-clause-fields c =
    let rest = c.trim_start-text.result.now in
    let begins = rw (← c.trim_start-text.ensures) at (trim_start-begins c.args.text.now) in
    let field = begins (λ e. eqb-false (length rest) 0 (sym c.is_empty.ensures ∙ c.if-is_empty.false) e) in
    sym (fields-trim_start c.args.text.now) ∙ ap fields_of (sym c.trim_start-text.ensures)
    ∙ fields-None rest field (sym c.first_blank.ensures ∙ c.in-None.is)
