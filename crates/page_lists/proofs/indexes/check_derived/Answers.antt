use Rattle.std.proofs.Common.{map, ap}
use Rattle.std.proofs.lemmas.Result.{err_from_is_err_and, on_ok_weaker}
use Rattle.page_lists.specs.Indexed.{coef_key, derived_name_key, derived_place_key}
use Rattle.page_lists.proofs.Chains.{◌⊳◌}
use Rattle.page_lists.proofs.Indexed.{keys_before, keys_of_made}
use Rattle.page_lists.proofs.indexes.check_derived.Goals as goal

pub returns-in_err-check_keys-2-clause-reads : goal.returns-in_err-check_keys-2-clause-reads
returns-in_err-check_keys-2-clause-reads g c = c.check_keys.ensures.reads ⊳ c.check_keys-2.ensures.reads

pub returns-clause-reads : goal.returns-clause-reads
returns-clause-reads g c = c.check_keys.ensures.reads ⊳ c.check_keys-2.ensures.reads ⊳ c.check_keys-3.ensures.reads

pub returns-clause-same : goal.returns-clause-same
returns-clause-same g c =
    let first = c.check_keys.ensures in
    let next = c.check_keys-2.ensures in
    let last = c.check_keys-3.ensures in
    let roots = c.args.roots.now in
    let places = ap (map derived_place_key) c.all.ensures in
    let names = ap (map derived_name_key) c.all-2.ensures in
    let keys = ap (map coef_key) c.all-3.ensures in
    on_ok_weaker c.check_keys-3.result (λ same faithful.
    let earlier = last.reads.keeps.stays.clean faithful in
    record {
      places = keys_of_made c.args.file.now roots.derived_places _ c.derived_places-places.result (c.in_ok-check_keys.ensures.same (next.reads.keeps.stays.clean earlier)) c.derived_places-places.ensures places;
      names = keys_before _ _ first.reads (keys_of_made c.check_keys.new.file roots.derived_names _ c.derived_names-names.result (c.in_ok-check_keys-2.ensures.same earlier) c.derived_names-names.ensures names);
      coefs = keys_before _ _ (first.reads ⊳ next.reads) (keys_of_made c.check_keys-2.new.file roots.coef_keys _ c.coef_keys-keys.result (same faithful) c.coef_keys-keys.ensures keys);
    }) last.same

pub returns-in_err-check_keys-clause-same : goal.returns-in_err-check_keys-clause-same
returns-in_err-check_keys-clause-same g c = rw (err_from_is_err_and c.from_residual.result c.from_residual.ensures.1).1 tt

pub returns-in_err-check_keys-clause-usable : goal.returns-in_err-check_keys-clause-usable
returns-in_err-check_keys-clause-usable g c = rw (err_from_is_err_and c.from_residual.result c.from_residual.ensures.1).1 tt

pub returns-in_err-check_keys-2-clause-same : goal.returns-in_err-check_keys-2-clause-same
returns-in_err-check_keys-2-clause-same g c = rw (err_from_is_err_and c.from_residual-in_err-check_keys-2.result c.from_residual-in_err-check_keys-2.ensures.1).1 tt

pub returns-in_err-check_keys-2-clause-usable : goal.returns-in_err-check_keys-2-clause-usable
returns-in_err-check_keys-2-clause-usable g c = rw (err_from_is_err_and c.from_residual-in_err-check_keys-2.result c.from_residual-in_err-check_keys-2.ensures.1).1 tt

pub returns-in_err-check_keys-clause-reads : goal.returns-in_err-check_keys-clause-reads
returns-in_err-check_keys-clause-reads g c = c.check_keys.ensures.reads

pub returns-clause-usable : goal.returns-clause-usable
returns-clause-usable g c = c.check_keys-3.ensures.usable
