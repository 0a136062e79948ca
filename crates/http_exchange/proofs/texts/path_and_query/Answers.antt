use Rattle.std.proofs.Common.{sym, ◌∙◌, arith}
use Rattle.http_exchange.proofs.TextsLemmas.{cut_present, cut_absent}
use Rattle.http_exchange.proofs.texts.path_and_query.Goals as goal

pub returns-in-Some-clause-path : goal.returns-in-Some-clause-path
returns-in-Some-clause-path c =
    let found = c.in-Some.ensures.byte (omega arith) (λ w o f. f) in
    found.0 ∙ sym (cut_present 63 c.args.target.now found.2).0

pub returns-in-Some-clause-query : goal.returns-in-Some-clause-query
returns-in-Some-clause-query c =
    let found = c.in-Some.ensures.byte (omega arith) (λ w o f. f) in
    rw found.1 (sym (cut_present 63 c.args.target.now found.2).1)

pub returns-in-None-clause-path : goal.returns-in-None-clause-path
returns-in-None-clause-path c = sym (cut_absent 63 c.args.target.now (c.in-None.ensures.byte (omega arith) (λ w o f. f))).0

pub returns-in-None-clause-query : goal.returns-in-None-clause-query
returns-in-None-clause-query c = sym (cut_absent 63 c.args.target.now (c.in-None.ensures.byte (omega arith) (λ w o f. f))).1
