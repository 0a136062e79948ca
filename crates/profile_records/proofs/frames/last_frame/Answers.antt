use Rattle.std.proofs.Common.{◌≡◌, ◌+◌, ◌-◌, length, take, drop, Some, None, subst, ◌∙◌, arith}
use Rattle.std.proofs.lemmas.List.{take_all, length-drop}
use Rattle.memchr.specs.Find.{IsLastByte}
use Rattle.profile_records.specs.Frames.{is_semicolon}
use Rattle.profile_records.proofs.LastLemmas.{last-semicolon}
use Rattle.profile_records.proofs.frames.last_frame.Goals as goal

pub returns-in-Some : goal.returns-in-Some
returns-in-Some c =
    let frames = c.args.frames.now in
    let rest = length-drop (c.in-Some.at + 1) frames in
    let whole : take (length frames - (c.in-Some.at + 1)) (drop (c.in-Some.at + 1) frames) ≡ drop (c.in-Some.at + 1) frames = take_all _ _ (omega (arith, rest)) in
    whole ∙ last-semicolon frames (Some c.in-Some.at) (subst (λ r. IsLastByte is_semicolon frames r) c.in-Some.is c.memrchr.ensures)

pub returns-in-None : goal.returns-in-None
returns-in-None c = last-semicolon c.args.frames.now None (subst (λ r. IsLastByte is_semicolon c.args.frames.now r) c.in-None.is c.memrchr.ensures)
