use Rattle.std.proofs.Common.{◌≡◌, ◌∙◌, true, false, not, ap, sym, refl, inl, subst, to_z-of_z, to_z, of_z, w64, FitsSigned, ◌∷◌, []}
use Rattle.std.proofs.lemmas.Bool.{not-false}
use Rattle.std.proofs.lemmas.Slice.Eq.{bytes_eq-Decides}
use Rattle.sqlite_rules.proofs.ListLemmas.{has_right}
use Rattle.sqlite_store.specs.Db.{table_row}
use Rattle.page_changes.proofs.Naming.{other_name, others_more}
use Rattle.page_changes.specs.Named.{IsSought, named}
use Rattle.page_changes.proofs.finding.SeekerRowSink.take.Goals as goal

pub returns-then-ne-clause-more : goal.returns-then-ne-clause-more
returns-then-ne-clause-more c ok start rows has =
    let row = table_row (c.args.rowid, c.args.payload.now) in
    let read = c.in_ok-name.name.now in
    let is : row ≡ named c.args.rowid read c.in_ok-name.number = subst (λ z. table_row (z, c.args.payload.now) ≡ named z read c.in_ok-name.number) (to_z-of_z c.ranges.rowid) c.in_ok-name.ensures.read in
    let differ : read ≡ start.0 → ⊥ = λ same. (let e : true ≡ false = c.if-ne.ensures ∙ ap not ((bytes_eq-Decides read c.args.self.now.name.now).1 (same ∙ sym has.0)) in cc) in
    (has.0, has.1, has.2, others_more start.0 start.1 rows row has.3 (other_name row c.args.rowid read c.in_ok-name.number is start.0 start.1 differ))

pub returns-clause-last : goal.returns-clause-last
returns-clause-last c ok start rows has =
    let row = table_row (c.args.rowid, c.args.payload.now) in
    let read = c.in_ok-name.name.now in
    let same : to_z w64 (of_z w64 c.args.rowid) ≡ c.args.rowid = to_z-of_z c.ranges.rowid in
    let is : row ≡ named (to_z w64 (of_z w64 c.args.rowid)) read c.in_ok-name.number = ap (λ z. table_row (z, c.args.payload.now)) (sym same) ∙ c.in_ok-name.ensures.read in
    let name : read ≡ start.0 = (bytes_eq-Decides read c.args.self.now.name.now).0 (not-false _ (sym c.if-ne.ensures)) ∙ has.0 in
    let sought : IsSought start.1 c.in_ok-name.number = subst (λ n. IsSought n c.in_ok-name.number) has.1 (c.if-not-is_sought.ensures.0 refl) in (
      _,
      refl,
      record {
        there = has_right rows (row ∷ []) (named (to_z w64 (of_z w64 c.args.rowid)) start.0 c.in_ok-name.number) (inl (ap (λ n. named (to_z w64 (of_z w64 c.args.rowid)) n c.in_ok-name.number) (sym name) ∙ sym is));
        is = sought;
        fits = subst (FitsSigned w64) (sym same) c.ranges.rowid;
      },
    )
