use Rattle.std.proofs.Common.{rules, ◌≡◌, ◌≢◌, ℕ, List, Option, None, Some, false, is_none, subst}
use Rattle.plain_tables.specs.Lists.{Has}
use Rattle.plain_tables.specs.Tables.{Tables, RunRow}
use Rattle.run_stores.specs.Lookups.{IsRunOf}
use Rattle.page_imports.proofs.imports.is_next.Goals as goal

-- some run has the digest
one_has : (digest : List ℕ) (t : Tables) (found : Option ℕ) → is_none found ≡ false → IsRunOf digest t found → ((r : RunRow) → Has t.runs r → r.digest ≢ digest) → ⊥
one_has digest t None some is none = absurd cc
one_has digest t (Some n) some is none = none is.0 is.1 is.2

pub returns-then-next_run-number : goal.returns-then-next_run-number
returns-then-next_run-number c = record {
  told = λ t listed yes.
      let next : t.next ≡ c.args.number = search rules in
      let none : c.run_of_digest.result ≡ None = search rules in
      record { next = next; none = subst (IsRunOf c.args.digest.now t) none (c.run_of_digest.ensures.told t listed) };
  refused = λ t listed no new.
      let some : is_none c.run_of_digest.result ≡ false = search rules in
      one_has c.args.digest.now t c.run_of_digest.result some (c.run_of_digest.ensures.told t listed) new.none;
}
