use Rattle.std.proofs.Common.{◌≡◌, [], ◌∷◌, ◌++◌, ◌+◌, ◌<◌, take, false, bytes_eq, drop, get_or, length, sym, ap, subst, ◌∙◌, rules}
use Rattle.std.specs.List.{list_any}
use Rattle.std.proofs.lemmas.List.{take_more}
use Rattle.std.proofs.Math.ListN.{take-append-drop}
use Rattle.std.proofs.Math.Seq.{take-length}
use Rattle.std.proofs.lemmas.Result.{IfOk-from_err, err_from_is_err_and}
use Rattle.std.proofs.lemmas.Option.{get_or_from_slice_get}
use Rattle.page_files.proofs.Reading.{OnlyReads-trans}
use Rattle.page_imports.specs.Names.{AreNumbered}
use Rattle.page_places.proofs.Failing.{memory_fails, store_fails_later}
use Rattle.page_imports.specs.Causes.{HaveNumbers}
use Rattle.page_imports.specs.Names.{GetSmallNumbers}
use Rattle.page_imports.proofs.Failing.{fails_for, refuses_fails}
use Rattle.page_imports.proofs.Small.{front_small}
use Rattle.page_imports.proofs.Stepping.{shows_after}
use Rattle.page_imports.proofs.Unnamed.{apart_at, none_held}
use Rattle.page_imports.proofs.names.find_numbers.Goals as goal

pub names-init : goal.names-init
names-init g c = record {
  usable = c.in_ok-next.ensures.usable;
  reads = OnlyReads-trans _ _ _ c.holds_none.ensures.reads c.next_name.ensures.reads;
  numbered = λ clean wanted known was t shows are.
      let early = c.next_name.ensures.reads.keeps.stays.clean clean in
      let there = shows_after c.args.file.now c.holds_none.new.file c.holds_none.ensures.reads early c.in_ok-is_new.ensures.usable shows in
      (c.in_ok-found.ensures t (c.in_ok-next.ensures.told clean wanted known was t there are), c.in_ok-is_new.ensures.told early wanted known was t shows are);
}

pub names-preserved : goal.names-preserved
names-preserved g c = record {
  usable = c.in_ok-held.ensures.usable c.names.invariant.usable;
  reads = OnlyReads-trans _ _ _ c.names.invariant.reads c.held_number.ensures.reads;
  numbered = λ clean wanted known was t shows are.
      let names = c.args.names.now in
      let at = c.names.at in
      let name = c.name-name.result.now in
      let early = c.held_number.ensures.reads.keeps.stays.clean clean in
      let before = c.names.invariant.numbered early wanted known was t shows are in
      let there = shows_after c.args.file.now c.names.file c.names.invariant.reads early c.names.invariant.usable shows in
      let within : at < length names = search rules in
      let here : get_or names at name ≡ name = get_or_from_slice_get names at name name c.name-name.ensures in
      let apart = subst (λ n. list_any (λ other. bytes_eq other n) (take at names) ≡ false) here (apart_at names at name c.len-at-end.ensures.distinct within) in
      let told = c.in_ok-held.ensures.told clean wanted known was t there are (λ said. none_held t name (before.1 said)) in
      let one = c.in_ok-take.ensures t (take at names) before.0 apart told in
      let more : take (at + 1) names ≡ take at names ++ name ∷ [] = take_more names at name within ∙ ap (λ n. take at names ++ n ∷ []) here in
      (subst (λ l. AreNumbered t l c.take.new.self) (sym more) one, before.1);
}

pub returns-clause-told : goal.returns-clause-told
returns-clause-told g c clean = λ wanted known was t shows are.
    let names = c.args.names.now in
    let end : c.names.at ≡ length names = search rules in
    subst (λ l. AreNumbered t l c.names.found) (ap (λ n. take n names) end ∙ take-length names) (c.names.invariant.numbered clean wanted known was t shows are).0

pub returns-in_err-next-clause-reads : goal.returns-in_err-next-clause-reads
returns-in_err-next-clause-reads g c = OnlyReads-trans _ _ _ c.holds_none.ensures.reads c.next_name.ensures.reads

pub returns-in_err-found-clause-reads : goal.returns-in_err-found-clause-reads
returns-in_err-found-clause-reads g c = OnlyReads-trans _ _ _ c.holds_none.ensures.reads c.next_name.ensures.reads

pub returns-in_err-held-clause-reads : goal.returns-in_err-held-clause-reads
returns-in_err-held-clause-reads g c = OnlyReads-trans _ _ _ c.names.invariant.reads c.held_number.ensures.reads

pub returns-in_err-take-clause-reads : goal.returns-in_err-take-clause-reads
returns-in_err-take-clause-reads g c = OnlyReads-trans _ _ _ c.names.invariant.reads c.held_number.ensures.reads

pub returns-in_err-is_new-clause-told : goal.returns-in_err-is_new-clause-told
returns-in_err-is_new-clause-told g c clean = λ wanted known was t shows are.
    let p = err_from_is_err_and c.from_residual.result c.from_residual.ensures.1 in
    rw (p.1, p.2) (fails_for c.args.file.now c.holds_none.new.file _ (λ (can : HaveNumbers c.args.names.now t). tt) (c.in_err-is_new.ensures.told clean wanted known was t shows are))

pub returns-in_err-next-clause-told : goal.returns-in_err-next-clause-told
returns-in_err-next-clause-told g c clean = λ wanted known was t shows are.
    let file = c.args.file.now in
    let read = c.holds_none.new.file in
    let early = c.next_name.ensures.reads.keeps.stays.clean clean in
    let there = shows_after file read c.holds_none.ensures.reads early c.in_ok-is_new.ensures.usable shows in
    let p = err_from_is_err_and c.from_residual-in_err-next.result c.from_residual-in_err-next.ensures.1 in
    rw (p.1, p.2) (store_fails_later file read c.next_name.new.file _ c.holds_none.ensures.reads.keeps (λ (can : HaveNumbers c.args.names.now t). can.narrow) (c.in_err-next.ensures.told clean wanted known was t there are))

pub returns-in_err-held-clause-told : goal.returns-in_err-held-clause-told
returns-in_err-held-clause-told g c clean = λ wanted known was t shows are.
    let file = c.args.file.now in
    let read = c.names.file in
    let early = c.held_number.ensures.reads.keeps.stays.clean clean in
    let before = c.names.invariant.numbered early wanted known was t shows are in
    let there = shows_after file read c.names.invariant.reads early c.names.invariant.usable shows in
    let p = err_from_is_err_and c.from_residual-in_err-held.result c.from_residual-in_err-held.ensures.1 in
    rw (p.1, p.2) (store_fails_later file read c.held_number.new.file _ c.names.invariant.reads.keeps (λ (can : HaveNumbers c.args.names.now t). can.narrow) (c.in_err-held.ensures.told clean wanted known was t there are))

pub returns-in_err-take-clause-told : goal.returns-in_err-take-clause-told
returns-in_err-take-clause-told g c clean = λ wanted known was t shows are.
    let file = c.args.file.now in
    let names = c.args.names.now in
    let at = c.names.at in
    let name = c.name-name.result.now in
    let early = c.held_number.ensures.reads.keeps.stays.clean clean in
    let before = c.names.invariant.numbered early wanted known was t shows are in
    let there = shows_after file c.names.file c.names.invariant.reads early c.names.invariant.usable shows in
    let within : at < length names = search rules in
    let here : get_or names at name ≡ name = get_or_from_slice_get names at name name c.name-name.ensures in
    let apart = subst (λ n. list_any (λ other. bytes_eq other n) (take at names) ≡ false) here (apart_at names at name c.len-at-end.ensures.distinct within) in
    let told = c.in_ok-held.ensures.told clean wanted known was t there are (λ said. none_held t name (before.1 said)) in
    let refused = c.in_err-take.ensures t (take at names) before.0 apart told in
    let more : take (at + 1) names ≡ take at names ++ name ∷ [] = take_more names at name within ∙ ap (λ n. take at names ++ n ∷ []) here in
    let whole : names ≡ (take at names ++ name ∷ []) ++ drop (at + 1) names = sym (take-append-drop (at + 1) names) ∙ ap (λ l. l ++ drop (at + 1) names) more in
    let p = err_from_is_err_and c.from_residual-in_err-take.result c.from_residual-in_err-take.ensures.1 in
    rw (p.1, p.2) (refuses_fails file c.held_number.new.file _
    (λ (can : HaveNumbers names t). front_small t (take at names ++ name ∷ []) (drop (at + 1) names) (subst (λ l. GetSmallNumbers l t) whole can.fit)) refused)

pub returns-in_err-found-clause-told : goal.returns-in_err-found-clause-told
returns-in_err-found-clause-told g c clean = λ wanted known was t shows are.
    let p = err_from_is_err_and c.from_residual-in_err-found.result c.from_residual-in_err-found.ensures.1 in
    rw p.1 (memory_fails c.args.file.now c.next_name.new.file p.0 p.2)

pub returns-in_err-is_new-clause-usable : goal.returns-in_err-is_new-clause-usable
returns-in_err-is_new-clause-usable g c = IfOk-from_err c.from_residual.result _ c.from_residual.ensures.0

pub returns-in_err-next-clause-usable : goal.returns-in_err-next-clause-usable
returns-in_err-next-clause-usable g c = IfOk-from_err c.from_residual-in_err-next.result _ c.from_residual-in_err-next.ensures.0

pub returns-in_err-found-clause-usable : goal.returns-in_err-found-clause-usable
returns-in_err-found-clause-usable g c = IfOk-from_err c.from_residual-in_err-found.result _ c.from_residual-in_err-found.ensures.0

pub returns-in_err-held-clause-usable : goal.returns-in_err-held-clause-usable
returns-in_err-held-clause-usable g c = IfOk-from_err c.from_residual-in_err-held.result _ c.from_residual-in_err-held.ensures.0

pub returns-in_err-take-clause-usable : goal.returns-in_err-take-clause-usable
returns-in_err-take-clause-usable g c = IfOk-from_err c.from_residual-in_err-take.result _ c.from_residual-in_err-take.ensures.0

pub returns-in_err-is_new-clause-reads : goal.returns-in_err-is_new-clause-reads
returns-in_err-is_new-clause-reads g c = c.holds_none.ensures.reads

pub returns-clause-reads : goal.returns-clause-reads
returns-clause-reads g c = c.names.invariant.reads

pub returns-clause-usable : goal.returns-clause-usable
returns-clause-usable g c = c.names.invariant.usable
