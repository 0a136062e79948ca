use Rattle.std.proofs.Common.{◌≡◌, length, sym, ap, ◌∙◌, rules, tests}
use Rattle.std.proofs.iter.Next.{if_yes}
use Rattle.std.proofs.lemmas.Iterator.{YieldsList-from_slice, YieldsList-from_zip, cases_from_all}
use Rattle.sqlite_schema.specs.declared.schema.Column.{Column}
use Rattle.page_lists.specs.Alike.{IsSameColumn}
use Rattle.page_lists.proofs.Zipped.{zipped}
use Rattle.page_lists.proofs.alike.have_same_columns.Goals as goal

pub returns-then-a-b : goal.returns-then-a-b
returns-then-a-b c holds =
    let xs = c.args.a.now.columns in
    let ys = c.args.b.now.columns in
    let long : length xs ≡ length ys = ap length (sym c.as_slice-a.ensures) ∙ c.if-a-b.true ∙ ap length c.as_slice-b.ensures in
    zipped IsSameColumn xs ys long
    (if_yes _ _ holds (cases_from_all c.all.new.self _ _ (λ (p : Column × Column). IsSameColumn p.0 p.1) (λ p. Unit {0}) c.all.ensures.ran
    (YieldsList-from_zip (YieldsList-from_slice xs cc) (YieldsList-from_slice ys cc)) (λ x q k. search (rules, tests)) (λ x q k. tt)))
