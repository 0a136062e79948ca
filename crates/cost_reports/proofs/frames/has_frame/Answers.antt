use Rattle.std.proofs.Common.{◌≡◌, ◌+◌, ◌-◌, ◌||◌, Bool, true, List, ℕ, length, take, drop, Some, None, sym, ap, subst, ◌∙◌, arith}
use Rattle.std.specs.List.{list_any}
use Rattle.std.specs.Str.{bytes_eq}
use Rattle.std.proofs.lemmas.List.{take_all, length-drop}
use Rattle.memchr.specs.Find.{IsFirstByte}
use Rattle.profile_records.specs.Frames.{is_semicolon, function_of, functions_of}
use Rattle.cost_reports.proofs.FrameLemmas.{functions_first, last_named}
use Rattle.cost_reports.proofs.frames.has_frame.Goals as goal

pub returns-then-eq : goal.returns-then-eq
returns-then-eq c =
    let name = c.args.name.now in
    let rest = c.loop-at.rest.now in
    let at = c.in-Some.at in
    let named : List ℕ → Bool = λ function. bytes_eq function name in
    let first : IsFirstByte is_semicolon rest (Some at) = subst (λ r. IsFirstByte is_semicolon rest r) c.in-Some.is c.memchr.ensures in
    let split = functions_first rest at first.0.high first.0.before first.1 in
    let here : named (function_of (take at rest)) ≡ true = ap named (sym c.function.ensures) ∙ (sym c.eq.ensures ∙ c.if-eq.true) in
    sym (sym c.loop-at.invariant ∙ ap (list_any named) split ∙ ap (λ b. b || list_any named (functions_of (drop (at + 1) rest))) here)

pub loop-at-preserved : goal.loop-at-preserved
loop-at-preserved c =
    let name = c.args.name.now in
    let rest = c.loop-at.rest.now in
    let at = c.in-Some.at in
    let named : List ℕ → Bool = λ function. bytes_eq function name in
    let first : IsFirstByte is_semicolon rest (Some at) = subst (λ r. IsFirstByte is_semicolon rest r) c.in-Some.is c.memchr.ensures in
    let split = functions_first rest at first.0.high first.0.before first.1 in
    let more = length-drop (at + 1) rest in
    let whole : take (length rest - (at + 1)) (drop (at + 1) rest) ≡ drop (at + 1) rest = take_all _ _ (omega (arith, more)) in
    let here = ap named (sym c.function.ensures) ∙ (sym c.eq.ensures ∙ c.if-eq.false) in
    ap (λ xs. list_any named (functions_of xs)) whole
    ∙ sym (ap (list_any named) split ∙ ap (λ b. b || list_any named (functions_of (drop (at + 1) rest))) here)
    ∙ c.loop-at.invariant

pub returns : goal.returns
returns c =
    let rest = c.loop-at.rest.now in
    let named : List ℕ → Bool = λ function. bytes_eq function c.args.name.now in
    let none : IsFirstByte is_semicolon rest None = subst (λ r. IsFirstByte is_semicolon rest r) c.in_default.is c.memchr.ensures in
    c.eq-2.ensures ∙ ap named c.function-2.ensures ∙ sym (last_named named rest none) ∙ c.loop-at.invariant
