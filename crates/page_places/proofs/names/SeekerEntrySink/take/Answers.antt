use Rattle.std.proofs.Common.{◌≡◌, false, true, [], ◌∷◌, ◌++◌, ap, subst, sym, ◌∙◌}
use Rattle.std.proofs.lemmas.Slice.Eq.{bytes_eq-Decides}
use Rattle.sqlite_record.specs.Record.{decode}
use Rattle.page_places.specs.Names.{IsFound}
use Rattle.page_places.proofs.names.SeekerEntrySink.take.Goals as goal

pub returns-else-eq-clause-last : goal.returns-else-eq-clause-last
returns-else-eq-clause-last c ended = λ start entries has.
    let entry = decode c.args.payload.now in
    let read = c.in_ok-name.name.now in
    let differs : read ≡ start → ⊥ = λ same. (let e : false ≡ true = c.if-eq.ensures ∙ (bytes_eq-Decides read c.args.self.now.name.now).1 (same ∙ sym has.0) in cc) in
    (entry, ap (λ l. l ++ entry ∷ []) has.2, subst (IsFound start entry) (sym has.1) (read, c.in_ok-name.number, differs, c.in_ok-name.ensures.read))
