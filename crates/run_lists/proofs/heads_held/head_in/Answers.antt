use Rattle.std.proofs.Common.{rules, ◌≡◌, ◌∙◌, ◌++◌, All, true, false, length, map, sym, ap, ap₂, subst}
use Rattle.cg_text.specs.Distinct.{are_distinct}
use Rattle.std.proofs.lemmas.Result.{err_from_is_err_and}
use Rattle.run_stores.specs.HeldHeads.{coefs_from, placed}
use Rattle.run_lists.proofs.HeadReading.{names_of_places, names_of_derived, said_events, stated_for_all}
use Rattle.run_lists.proofs.HeadServed.{has_distinct, has_flat, has_places, has_rows, has_totals, name_of, row_of}
use Rattle.run_lists.proofs.heads_held.head_in.Goals as goal

pub returns-in-Some : goal.returns-in-Some
returns-in-Some c =
    let names = c.in_ok-names.names in
    let events = c.args.events.now in
    let derived = c.args.derived.now in
    let flat = c.in-Some.derived in
    let stated = c.in_ok-stated.stated in
    let same : names ≡ c.in_ok-event_names.field-0 = names_of_places events names c.in_ok-names.ensures.read ∙ sym (names_of_places events c.in_ok-event_names.field-0 c.in_ok-event_names.ensures.read) in
    let rows : flat.derived ≡ c.in_ok-rows.rows = c.in-Some.ensures.given.1 in
    let both : c.in_ok-all.all ≡ names ++ map name_of flat.derived =
    c.in_ok-all.ensures.read ∙ ap₂ ◌++◌ (sym (names_of_places events names c.in_ok-names.ensures.read)) (sym (names_of_derived derived (map name_of c.in_ok-rows.rows) c.in_ok-rows.ensures.names) ∙ sym (ap (map name_of) rows)) in
    let once : are_distinct c.in_ok-all.all ≡ true = search rules in record {
      read = record {
        sound = record {
          events_same = c.in-Some.ensures.given.0 ∙ sym same;
          stated_all = stated_for_all events names stated c.in_ok-names.ensures.read c.in_ok-stated.ensures.read;
          distinct = sym (ap are_distinct both) ∙ once;
        };
        events_are = said_events events names stated c.in_ok-names.ensures.read c.in_ok-stated.ensures.read;
        derived_are = c.in_ok-rows.ensures.names ∙ sym (ap (λ d. placed 0 (map name_of d)) rows);
        coefs_are = c.in_ok-rows.ensures.rows ∙ sym (ap (λ d. coefs_from 0 (map row_of d)) rows);
      };
      serves = λ wanted said small. tt;
    }

pub returns-in_err-all-clause-serves : goal.returns-in_err-all-clause-serves
returns-in_err-all-clause-serves c = λ head said small.
    let p = err_from_is_err_and c.from_residual.result c.from_residual.ensures.1 in
    rw (p.1, p.2) (c.in_err-all.ensures.serves head.events (has_places head c.args.events.now c.args.derived.now c.args.coefs.now said))

pub returns-then-not-is_distinct-clause-serves : goal.returns-then-not-is_distinct-clause-serves
returns-then-not-is_distinct-clause-serves c = λ head said small.
    let once : are_distinct c.in_ok-all.all ≡ true = has_distinct head c.args.events.now c.args.derived.now c.args.coefs.now said c.in_ok-all.all c.in_ok-all.ensures.read in
    let never : false ≡ true = c.if-not-is_distinct.ensures ∙ ap are_distinct c.as_slice.ensures ∙ once in
    absurd cc

pub returns-in_err-names-clause-serves : goal.returns-in_err-names-clause-serves
returns-in_err-names-clause-serves c = λ head said small.
    let p = err_from_is_err_and c.from_residual-in_err-names.result c.from_residual-in_err-names.ensures.1 in
    rw (p.1, p.2) (c.in_err-names.ensures.serves head.events (has_places head c.args.events.now c.args.derived.now c.args.coefs.now said))

pub returns-in_err-stated-clause-serves : goal.returns-in_err-stated-clause-serves
returns-in_err-stated-clause-serves c = λ head said small.
    let p = err_from_is_err_and c.from_residual-in_err-stated.result c.from_residual-in_err-stated.ensures.1 in
    rw (p.1, p.2) (c.in_err-stated.ensures.serves head.stated small (has_totals head c.args.events.now c.args.derived.now c.args.coefs.now said))

pub returns-in_err-rows-clause-serves : goal.returns-in_err-rows-clause-serves
returns-in_err-rows-clause-serves c = λ head said small.
    let p = err_from_is_err_and c.from_residual-in_err-rows.result c.from_residual-in_err-rows.ensures.1 in
    let wide = has_rows head c.args.events.now c.args.derived.now c.args.coefs.now said c.in_ok-names.names c.in_ok-names.ensures.read in
    let many = subst (λ n. All (λ d. length d.1 ≡ n) head.derived.derived) (sym c.len.ensures) wide in
    rw (p.1, p.2) (c.in_err-rows.ensures.serves head.derived.derived said.derived_are said.coefs_are many)

pub returns-in_err-event_names-clause-serves : goal.returns-in_err-event_names-clause-serves
returns-in_err-event_names-clause-serves c = λ head said small.
    let p = err_from_is_err_and c.from_residual-in_err-event_names.result c.from_residual-in_err-event_names.ensures.1 in
    rw (p.1, p.2) (c.in_err-event_names.ensures.serves head.events (has_places head c.args.events.now c.args.derived.now c.args.coefs.now said))

pub returns-in-None-clause-serves : goal.returns-in-None-clause-serves
returns-in-None-clause-serves c = λ head said small.
    let wide = has_rows head c.args.events.now c.args.derived.now c.args.coefs.now said c.in_ok-names.names c.in_ok-names.ensures.read in
    let many = subst (λ n. All (λ d. length d.1 ≡ n) head.derived.derived) (sym c.len.ensures) wide in
    let same = c.in_ok-rows.ensures.serves head.derived.derived said.derived_are said.coefs_are many in
    let flat = has_flat head c.args.events.now c.args.derived.now c.args.coefs.now said c.in_ok-event_names.field-0 c.in_ok-rows.rows c.in_ok-event_names.ensures.read same in
    let never : false ≡ true = c.in-None.ensures.which.1 flat in
    absurd cc
