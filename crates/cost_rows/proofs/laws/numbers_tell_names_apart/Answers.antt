use Rattle.cost_rows.proofs.NamingLemmas.{place-iff, apart-iff, place-kept, distinct-with}
use Rattle.cost_rows.proofs.laws.numbers_tell_names_apart.Goals as goal

pub returns-clause-apart : goal.returns-clause-apart
returns-clause-apart c = λ names. record { place = place-iff names; apart = apart-iff names }

pub returns-clause-kept : goal.returns-clause-kept
returns-clause-kept c = λ names new. record { kept = λ name n h. place-kept names name new n h; distinct = distinct-with names new }
