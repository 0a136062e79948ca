use Rattle.std.proofs.Common.{◌<◌, Ok, Err, [], map, drop, length, sym, refl, ap, subst, ◌∙◌, append-nil, arith}
use Rattle.std.proofs.lemmas.List.{at_drop_all}
use Rattle.byte_io.specs.Imported.{WereRead}
use Rattle.run_stores.specs.Calls.{IsFaithful}
use Rattle.requests.specs.Plain.{plain_request}
use Rattle.histories.specs.Standard.{IsStandard}
use Rattle.warehouse.specs.declared.warehouse.Warehouse.{Warehouse}
use Rattle.program_stores.specs.Sessions.{AreReadAs, Wants}
use Rattle.program_stores.proofs.SessionLemmas.{none_read, took_clean, so_far_none, fits_on, fits_cut}
use Rattle.program_stores.proofs.WorkLemmas.{came_from, worked_cut, worked_whole}
use Rattle.program_stores.proofs.session.work_over.Goals as goal

pub loop-command-init : goal.loop-command-init
loop-command-init g c = record {
  limits = refl;
  so_far = λ clean. ([], λ rest all. all, so_far_none g.S.StoreState g.W.Write.contents c.new-session.result);
}

pub loop-command-preserved : goal.loop-command-preserved
loop-command-preserved g c =
    let i = c.loop-command.invariant in
    let commands = c.args.commands.now in
    let at = c.loop-command.command-index in
    let low : at < length commands = omega arith in
    record {
      limits = c.perform.ensures.limits ∙ i.limits;
      so_far = λ clean.
          let t = c.in_default.ensures.answered clean in
          let it = i.so_far (took_clean g.S.StoreState _ c.loop-command.session c.perform.new.self t.2.took clean) in
          fits_on (WereRead g.R.File.Read.remaining) plain_request commands g.S.StoreState g.W.Write.contents at _ it.0 c.new-session.result c.loop-command.session c.perform.new.self c.in_default.field-0 low i.limits it.1 it.2 t;
    }

pub returns-in-Err : goal.returns-in-Err
returns-in-Err g c clean =
    let i = c.loop-command.invariant in
    let contents = g.W.Write.contents in
    let commands = c.args.commands.now in
    let wanted = Wants g.R.File.Read.remaining commands in
    let at = c.loop-command.command-index in
    let low : at < length commands = omega arith in
    let old = c.new-session.result in
    let limits = ap (λ (w : Warehouse _ _). w.limits) c.new-session.ensures.warehouse ∙ c.new.ensures.limits in
    let standard : IsStandard c.standard.result = record { bytes = c.standard.ensures.bytes; runs = c.standard.ensures.runs; groups = c.standard.ensures.groups; numbers = c.standard.ensures.numbers } in
    let new = c.perform.new.self in
    let t = c.perform.ensures.answered (subst (IsFaithful g.S.StoreState) c.finish.ensures.store clean) in
    let it = i.so_far (took_clean g.S.StoreState _ c.loop-command.session new t.2.took (subst (IsFaithful g.S.StoreState) c.finish.ensures.store clean)) in
    let cut = fits_cut (WereRead g.R.File.Read.remaining) plain_request commands g.S.StoreState contents at _ it.0 old c.loop-command.session new c.perform.result (none_read g.R.File.Read.remaining) low i.limits it.1 it.2 t in
    came_from g.S.StoreState contents wanted old new (Err c.in-Err.error) c.finish.result.0 c.args.out c.finish.result.1 c.args.store c.finish.result.2
    (worked_cut g.S.StoreState contents wanted c.in-Err.error old new (subst IsStandard (sym limits) standard) cut)
    c.finish.ensures.came_to c.new-session.ensures.out c.finish.ensures.out
    (ap (λ (w : Warehouse _ _). w.store) c.new-session.ensures.warehouse ∙ c.new.ensures.store) c.finish.ensures.store

pub returns : goal.returns
returns g c clean =
    let i = c.loop-command.invariant in
    let contents = g.W.Write.contents in
    let commands = c.args.commands.now in
    let reads = WereRead g.R.File.Read.remaining in
    let at = c.loop-command.command-index in
    let old = c.new-session.result in
    let limits = ap (λ (w : Warehouse _ _). w.limits) c.new-session.ensures.warehouse ∙ c.new.ensures.limits in
    let standard : IsStandard c.standard.result = record { bytes = c.standard.ensures.bytes; runs = c.standard.ensures.runs; groups = c.standard.ensures.groups; numbers = c.standard.ensures.numbers } in
    let new = c.loop-command.session in
    let it = i.so_far (subst (IsFaithful g.S.StoreState) c.finish-2.ensures.store clean) in
    let none : AreReadAs reads (map plain_request (drop at commands)) [] = subst (λ l. AreReadAs reads l []) (sym (at_drop_all (map plain_request) commands at (omega arith))) tt in
    let all = subst (AreReadAs reads (map plain_request commands)) (append-nil it.0) (it.1 [] none) in
    came_from g.S.StoreState contents (Wants g.R.File.Read.remaining commands) old new (Ok new.status) c.finish-2.result.0 c.args.out c.finish-2.result.1 c.args.store c.finish-2.result.2
    (worked_whole g.S.StoreState contents (Wants g.R.File.Read.remaining commands) it.0 old new (subst IsStandard (sym limits) standard) c.new-session.ensures.status it.2 all)
    c.finish-2.ensures.came_to c.new-session.ensures.out c.finish-2.ensures.out
    (ap (λ (w : Warehouse _ _). w.store) c.new-session.ensures.warehouse ∙ c.new.ensures.store) c.finish-2.ensures.store
