use Rattle.std.proofs.Common.{◌≡◌, ◌+◌, ◌-◌, [], ◌∷◌, fold, length, map, take, drop, Some, None, sym, ap, ap₂, subst, ◌∙◌, arith}
use Rattle.std.specs.BTreeSet.{insert_key}
use Rattle.std.proofs.lemmas.List.{take_all, length-drop}
use Rattle.memchr.specs.Find.{IsFirstByte}
use Rattle.cost_rows.specs.Stacks.{bytes_cmp}
use Rattle.profile_records.specs.Frames.{is_semicolon, function_of, functions_of}
use Rattle.report_texts.specs.Inclusive.{names_in}
use Rattle.cost_reports.proofs.FrameLemmas.{functions_first, names_insert, no_more_frames}
use Rattle.cost_reports.proofs.frames.functions_in.Goals as goal

pub loop-at-preserved : goal.loop-at-preserved
loop-at-preserved c =
    let rest = c.loop-at.rest.now in
    let at = c.in-Some.at in
    let held = names_in c.loop-at.functions.keys in
    let first : IsFirstByte is_semicolon rest (Some at) = subst (λ r. IsFirstByte is_semicolon rest r) c.in-Some.is c.memchr.ensures in
    let split = functions_first rest at first.0.high first.0.before first.1 in
    let more = length-drop (at + 1) rest in
    let whole : take (length rest - (at + 1)) (drop (at + 1) rest) ≡ drop (at + 1) rest = take_all _ _ (omega (arith, more)) in
    let names : names_in c.insert.new.self.keys ≡ insert_key bytes_cmp held (function_of (take at rest)) =
    ap names_in c.in_ok-insert.ensures.keys ∙ names_insert c.loop-at.functions.keys c.function.result ∙ ap (insert_key bytes_cmp held) c.function.ensures in
    ap₂ (λ ns xs. fold (insert_key bytes_cmp) ns (functions_of xs)) names whole
    ∙ ap (fold (insert_key bytes_cmp) held) (sym split)
    ∙ c.loop-at.invariant

pub returns : goal.returns
returns c =
    let rest = c.loop-at.rest.now in
    let held = names_in c.loop-at.functions.keys in
    let none : IsFirstByte is_semicolon rest None = subst (λ r. IsFirstByte is_semicolon rest r) c.in_default.is c.memchr.ensures in
    let last : functions_of rest ≡ function_of rest ∷ [] = ap (map function_of) (no_more_frames rest none) in
    let names : names_in c.insert-2.new.self.keys ≡ insert_key bytes_cmp held (function_of rest) =
    ap names_in c.in_ok-insert-2.ensures.keys ∙ names_insert c.loop-at.functions.keys c.function-2.result ∙ ap (insert_key bytes_cmp held) c.function-2.ensures in
    names ∙ ap (fold (insert_key bytes_cmp) held) (sym last) ∙ c.loop-at.invariant
