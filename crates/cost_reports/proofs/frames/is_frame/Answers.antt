use Rattle.std.proofs.Common.{◌≡◌, false, sym, ◌∙◌}
use Rattle.std.specs.Str.{bytes_eq}
use Rattle.cg_text.specs.Names.{unknown}
use Rattle.profile_records.specs.Frames.{functions_of}
use Rattle.cost_reports.proofs.FrameLemmas.{other_object}
use Rattle.cost_reports.proofs.frames.is_frame.Goals as goal

pub returns-else-eq : goal.returns-else-eq
returns-else-eq c =
    let other : bytes_eq c.args.object.now unknown ≡ false = sym c.eq.ensures ∙ c.if-eq.false in
    c.if-eq.false ∙ sym (other_object c.args.object.now c.args.name.now (functions_of c.args.frames.now) other)
