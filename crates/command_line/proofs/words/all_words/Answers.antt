use Rattle.std.proofs.Common.{sym, ◌∙◌}
use Rattle.clap.specs.Words.{found_of, rows_of}
use Rattle.command_line.proofs.PlansLemmas.{on_none, words_empty, words_found, words_missing}
use Rattle.command_line.proofs.words.all_words.Goals as goal

pub returns-clause-words : goal.returns-clause-words
returns-clause-words c = words_found (found_of c.args.words.now) c.args.id.now c.get_strs.result c.in_ok-texts.texts c.in_ok-texts.was c.get_strs.ensures

pub returns-in_err-texts-clause-none : goal.returns-in_err-texts-clause-none
returns-in_err-texts-clause-none c =
    on_none c.from_residual.result _ c.from_residual.ensures (words_missing (found_of c.args.words.now) c.args.id.now c.get_strs.result c.in_err-texts.was c.get_strs.ensures)

pub returns-then-is_empty-clause-none : goal.returns-then-is_empty-clause-none
returns-then-is_empty-clause-none c =
    let found = words_found (found_of c.args.words.now) c.args.id.now c.get_strs.result c.in_ok-texts.texts c.in_ok-texts.was c.get_strs.ensures in
    words_empty (rows_of (found_of c.args.words.now)) c.args.id.now c.in_ok-texts.texts.now found (sym c.is_empty.ensures ∙ c.if-is_empty.true)
