use Rattle.std.proofs.Common.{◌≡◌, ℕ, List, Option, ap, refl, subst, sym, ◌∙◌}
use Rattle.std.specs.Ordering.{nat_cmp}
use Rattle.std.specs.Option.{option_copied}
use Rattle.std.specs.BTreeMap.{BTreeMap, get}
use Rattle.cost_rows.specs.Hashes.{hash_of}
use Rattle.cost_rows.specs.Numbered.{IsNumbered}
use Rattle.cost_rows.proofs.NumberedLemmas.{IsIfNamed, named-place, searched}
use Rattle.cost_rows.proofs.names.Names.find_by.Goals as goal

-- the number that the hash gives, if it is that of the name
by_hash : (hashes : BTreeMap ℕ ℕ) (hash : ℕ) (name : List ℕ) (names : List (List ℕ)) (given it : Option ℕ) → given ≡ get nat_cmp hashes hash → hash ≡ hash_of name → IsIfNamed it given name names → IsIfNamed it (get nat_cmp hashes (hash_of name)) name names
by_hash hashes hash name names given it gives is named = subst (λ g. IsIfNamed it g name names) (gives ∙ ap (get nat_cmp hashes) is) named

pub returns-in-Some : goal.returns-in-Some
returns-in-Some c =
    let hashes = c.self.inside.hashes in
    let names = c.args.self.now in
    let name = c.args.name.now in
    let is : IsNumbered names hashes c.self.inside.others = subst (λ it. IsNumbered it hashes c.self.inside.others) c.self.view_is c.self.invariant in
    sym c.in-Some.is
    ∙ named-place names name hashes c.self.inside.others is c.if_named.result (get nat_cmp hashes (hash_of name)) c.in-Some.number
    (by_hash hashes c.args.hash name names (option_copied c.get.result) c.if_named.result c.get.ensures.value c.requires c.if_named.ensures) c.in-Some.is

pub returns : goal.returns
returns c =
    let hashes = c.self.inside.hashes in
    let names = c.args.self.now in
    let name = c.args.name.now in
    let is : IsNumbered names hashes c.self.inside.others = subst (λ it. IsNumbered it hashes c.self.inside.others) c.self.view_is c.self.invariant in
    searched names name hashes c.self.inside.others is c.if_named.result c.if_named-2.result c.if_named-2.result refl
    (by_hash hashes c.args.hash name names (option_copied c.get.result) c.if_named.result c.get.ensures.value c.requires c.if_named.ensures)
    c.in_default.is (subst (λ given. IsIfNamed c.if_named-2.result given name names) c.get-2.ensures.value c.if_named-2.ensures)
