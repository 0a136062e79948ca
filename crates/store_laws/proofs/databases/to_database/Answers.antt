use Rattle.std.proofs.Common.{true, ◌≡◌, Result, Ok, Err, IfErr, ap, ◌∙◌}
use Rattle.page_files.specs.Files.{files_of}
use Rattle.store_laws.proofs.Handing.{both_ok, files_usable, has_cause, leaves_rows, rests_opened, rows_held}
use Rattle.store_laws.proofs.databases.to_database.Goals as goal

each_err : {T E : Type 0} {P Q : E → Type 0} (r : Result T E) → ((e : E) → P e → Q e) → IfErr r P → IfErr r Q
each_err (Ok x) so is = tt
each_err (Err e) so is = so e is

pub returns-then-not-may_be_used-clause-cause : goal.returns-then-not-may_be_used-clause-cause
returns-then-not-may_be_used-clause-cause g c clean t was =
    let same = c.close-files.ensures ∙ ap files_of c.into_file.ensures in
    let used : c.may_be_used.result ≡ true = c.may_be_used.ensures ∙ files_usable c.args.store c.close-files.result same t was in
    let shut = c.if-not-may_be_used.true in
    absurd (cc)

pub returns-clause-holds : goal.returns-clause-holds
returns-clause-holds g c =
    let same = c.close-files.ensures ∙ ap files_of c.into_file.ensures in
    let files = c.close-files.result in
    both_ok c.open_files_with.result
    (λ conn opened found clean t was. rests_opened c.args.store files same t conn (opened clean) (found clean) (rows_held c.args.store files same t was g.met.D.Disk.seen_may_stay))
    c.open_files_with.ensures.opened c.open_files_with.ensures.found

pub returns-clause-cause : goal.returns-clause-cause
returns-clause-cause g c =
    let same = c.close-files.ensures ∙ ap files_of c.into_file.ensures in
    let files = c.close-files.result in
    each_err c.open_files_with.result
    (λ e fails clean t was. has_cause c.args.store files same e.1 e.0 t (rows_held c.args.store files same t was g.met.D.Disk.seen_may_stay) (fails clean))
    c.open_files_with.ensures.cause

pub returns-clause-left : goal.returns-clause-left
returns-clause-left g c =
    let same = c.close-files.ensures ∙ ap files_of c.into_file.ensures in
    each_err c.open_files_with.result
    (λ e leaves clean t was. leaves_rows c.args.store c.close-files.result same t was g.met.D.Disk.seen_may_stay e.1 (leaves clean))
    c.open_files_with.ensures.unharmed

pub returns-then-not-may_be_used-clause-left : goal.returns-then-not-may_be_used-clause-left
returns-then-not-may_be_used-clause-left g c clean t was =
    let same = c.close-files.ensures ∙ ap files_of c.into_file.ensures in
    let used : c.may_be_used.result ≡ true = c.may_be_used.ensures ∙ files_usable c.args.store c.close-files.result same t was in
    let shut = c.if-not-may_be_used.true in
    absurd (cc)
