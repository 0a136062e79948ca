use Rattle.std.proofs.Common.{map, ap}
use Rattle.std.proofs.lemmas.Result.{err_from_is_err_and, on_ok_weaker}
use Rattle.page_lists.specs.Indexed.{group_key, member_key}
use Rattle.page_lists.proofs.Chains.{◌⊳◌}
use Rattle.page_lists.proofs.Indexed.{keys_before, keys_of_made}
use Rattle.page_lists.proofs.indexes.check_groups.Goals as goal

pub returns-clause-reads : goal.returns-clause-reads
returns-clause-reads g c = c.check_keys.ensures.reads ⊳ c.check_keys-2.ensures.reads

pub returns-clause-same : goal.returns-clause-same
returns-clause-same g c =
    let last = c.check_keys-2.ensures in
    let roots = c.args.roots.now in
    let names = ap (map group_key) c.deref.ensures.value in
    let members = ap (map member_key) c.deref-2.ensures.value in
    on_ok_weaker c.check_keys-2.result (λ same faithful. record {
      names = keys_of_made c.args.file.now roots.group_names _ c.group_names-names.result (c.in_ok-check_keys.ensures.same (last.reads.keeps.stays.clean faithful)) c.group_names-names.ensures names;
      members = keys_before _ _ c.check_keys.ensures.reads (keys_of_made c.check_keys.new.file roots.member_keys _ c.member_keys-members.result (same faithful) c.member_keys-members.ensures members);
    }) last.same

pub returns-in_err-check_keys-clause-same : goal.returns-in_err-check_keys-clause-same
returns-in_err-check_keys-clause-same g c = rw (err_from_is_err_and c.from_residual.result c.from_residual.ensures.1).1 tt

pub returns-in_err-check_keys-clause-usable : goal.returns-in_err-check_keys-clause-usable
returns-in_err-check_keys-clause-usable g c = rw (err_from_is_err_and c.from_residual.result c.from_residual.ensures.1).1 tt

pub returns-in_err-check_keys-clause-reads : goal.returns-in_err-check_keys-clause-reads
returns-in_err-check_keys-clause-reads g c = c.check_keys.ensures.reads

pub returns-clause-usable : goal.returns-clause-usable
returns-clause-usable g c = c.check_keys-2.ensures.usable
