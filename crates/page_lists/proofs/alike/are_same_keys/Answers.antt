use Rattle.std.proofs.Common.{◌≡◌, ℕ, List, length, sym, ap, ◌∙◌, rules, tests}
use Rattle.std.proofs.iter.Next.{if_yes}
use Rattle.std.proofs.lemmas.Iterator.{YieldsList-from_slice, YieldsList-from_zip, cases_from_all}
use Rattle.std.proofs.lemmas.Slice.Eq.{bytes_eq-Decides}
use Rattle.page_lists.proofs.Zipped.{same_zipped, zipped}
use Rattle.page_lists.proofs.alike.are_same_keys.Goals as goal

pub returns-then-a-b : goal.returns-then-a-b
returns-then-a-b c holds =
    let xs = c.args.a.now in
    let ys = c.args.b.now in
    let long : length xs ≡ length ys = ap length (sym c.as_slice-a.ensures) ∙ c.if-a-b.true ∙ ap length c.as_slice-b.ensures in
    same_zipped xs ys (zipped (λ (a b : List ℕ). a ≡ b) xs ys long
    (if_yes _ _ holds (cases_from_all c.all.new.self _ _ (λ (p : List ℕ × List ℕ). p.0 ≡ p.1) (λ p. Unit {0}) c.all.ensures.ran
    (YieldsList-from_zip (YieldsList-from_slice xs cc) (YieldsList-from_slice ys cc)) (λ x q k. search (rules, tests, bytes_eq-Decides)) (λ x q k. tt))))
