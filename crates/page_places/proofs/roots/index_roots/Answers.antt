use Rattle.std.proofs.Common.{◌≡◌, refl, inl, inr, ◌∙◌, length-set, arith, subst}
use Rattle.std.proofs.lemmas.Option.{slice_get_cases}
use Rattle.std.proofs.lemmas.Result.{err_from_is_err_and}
use Rattle.prof_store.specs.Schema.{schema_two}
use Rattle.page_files.proofs.Reading.{OnlyReads-refl, OnlyReads-trans}
use Rattle.page_places.specs.Roots.{AreFound, index_name, index_tree}
use Rattle.page_places.proofs.Failing.{reads_later}
use Rattle.page_places.proofs.Rooting.{name_there, one_found, store_after}
use Rattle.page_places.proofs.roots.index_roots.Goals as goal

pub indexes-init : goal.indexes-init
indexes-init g c = record { sized = refl; reads = OnlyReads-refl _; usable = λ some. absurd (omega (arith, some)); found = λ names faithful db known is. record { is = λ k low. absurd (omega arith) } }

pub returns-in_err-roots-clause-reads : goal.returns-in_err-roots-clause-reads
returns-in_err-roots-clause-reads g c = OnlyReads-trans _ _ _ c.indexes.invariant.reads c.index_root.ensures.reads

pub indexes-preserved : goal.indexes-preserved
indexes-preserved g c = record {
  sized = length-set c.indexes.roots c.indexes.at _ ∙ c.indexes.invariant.sized;
  reads = OnlyReads-trans _ _ _ c.indexes.invariant.reads c.index_root.ensures.reads;
  usable = λ _. c.in_ok-roots.ensures.usable;
  found = λ names faithful db known is.
      let reads = c.index_root.ensures.reads in
      let before = c.indexes.invariant.found names (reads.keeps.stays.clean faithful) db known is in
      one_found schema_two.indexes index_tree known c.indexes.roots c.indexes.at _ (omega arith) before
      (λ x there. c.in_ok-roots.ensures.found faithful db known (store_after _ _ db known c.indexes.invariant.reads is) c.indexes.at x there (name_there schema_two.indexes index_name _ _ _ names x there));
}

pub returns-clause-found : goal.returns-clause-found
returns-clause-found g c names faithful = λ db known is.
    let all : c.indexes.at ≡ 12 = omega arith in
    subst (AreFound schema_two.indexes index_tree known c.indexes.roots) all (c.indexes.invariant.found names faithful db known is)

pub returns-clause-usable : goal.returns-clause-usable
returns-clause-usable g c = c.indexes.invariant.usable (omega (arith, c.indexes.auto.at-end))

pub returns-in_err-roots-clause-failed : goal.returns-in_err-roots-clause-failed
returns-in_err-roots-clause-failed g c =
    let p = err_from_is_err_and c.from_residual.result c.from_residual.ensures.1 in
    rw (p.1, p.2) (λ names faithful db known is.
    let reads = c.indexes.invariant.reads in
    let at = c.indexes.at in
    elim (slice_get_cases schema_two.indexes at).1 [
      | inl there ↦ reads_later c.args.file.now c.indexes.file c.index_root.new.file _ reads
          (c.in_err-roots.ensures.failed faithful db known (store_after _ _ db known reads is) at there.0 there.2 (name_there schema_two.indexes index_name _ _ _ names there.0 there.2))
      | inr past ↦ absurd (omega (arith, past.0, c.indexes-test.true))
    ])
