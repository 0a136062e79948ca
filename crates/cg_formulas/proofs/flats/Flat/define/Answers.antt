use Rattle.std.proofs.Common.{rules, ◌≡◌, ◌<◌, ◌≤◌, ℕ, List, [], ◌∷◌, ◌++◌, true, false, length, sum, is_some, sym, ap, ◌∙◌, subst, arith}
use Rattle.std.specs.List.{list_all, list_any}
use Rattle.std.specs.Str.{bytes_eq}
use Rattle.cg_formulas.specs.Formulas.{is_known, coefficients, derived_of}
use Rattle.cg_formulas.specs.EventViews.{terms_in}
use Rattle.cg_formulas.specs.Definitions.{plain_definition}
use Rattle.cg_formulas.specs.Rows.{counted, IsRow, capped}
use Rattle.cg_formulas.proofs.DefineLemmas.{is_event, fault-event, fault-many, fault-unknown, fault-large, fault-none, new-row, row-large, row-small, derived-new, count-derived}
use Rattle.cg_formulas.proofs.FlatLemmas.{pushed_all}
use Rattle.cg_formulas.proofs.flats.Flat.define.Goals as goal

pub returns-then-is_some-clause-defines : goal.returns-then-is_some-clause-defines
returns-then-is_some-clause-defines c back flattens new =
    let d = plain_definition c.args.definition.now in
    let event : list_any (bytes_eq d.name) c.args.self.now.events ≡ true = sym (is_event d.name c.args.self.now.events) ∙ search rules in
    fault-event c.args.self.now.events d back flattens.free event

pub returns-then-len-ge-MOST_NAMES-clause-defines :
    goal.returns-then-len-ge-MOST_NAMES-clause-defines
returns-then-len-ge-MOST_NAMES-clause-defines c back flattens new =
    let d = plain_definition c.args.definition.now in
    let event : list_any (bytes_eq d.name) c.args.self.now.events ≡ false = sym (is_event d.name c.args.self.now.events) ∙ search rules in
    let count = count-derived c.args.self.now.events back in
    let same = ap length flattens.derived in
    fault-many c.args.self.now.events d back flattens.free event new (omega (arith, count, same))

pub returns-in_default-clause-defines : goal.returns-in_default-clause-defines
returns-in_default-clause-defines c back flattens new =
    let d = plain_definition c.args.definition.now in
    let events = c.args.self.now.events in
    let event : list_any (bytes_eq d.name) events ≡ false = sym (is_event d.name events) ∙ search rules in
    let count = count-derived events back in
    let same = ap length flattens.derived in
    let none : is_some c.in_ok-row.field-0 ≡ false = search rules in
    let unknown : list_all (λ t. is_known events back t.1) d.terms ≡ false = sym (sym none ∙ (c.in_ok-row.ensures.known back flattens ∙ ap (λ text. list_all (λ t. is_known events back t.1) (terms_in text)) c.as_slice.ensures)) in
    fault-unknown events d back flattens.free event new (omega (arith, count, same)) unknown

pub returns-then-total-gt-MOST_COUNTS-clause-defines :
    goal.returns-then-total-gt-MOST_COUNTS-clause-defines
returns-then-total-gt-MOST_COUNTS-clause-defines c back flattens new =
    let d = plain_definition c.args.definition.now in
    let events = c.args.self.now.events in
    let event : list_any (bytes_eq d.name) events ≡ false = sym (is_event d.name events) ∙ search rules in
    let count = count-derived events back in
    let same = ap length flattens.derived in
    let some : is_some c.in_ok-row.field-0 ≡ true = ap is_some c.in-Some.is in
    let known : list_all (λ t. is_known events back t.1) d.terms ≡ true = sym (sym some ∙ (c.in_ok-row.ensures.known back flattens ∙ ap (λ text. list_all (λ t. is_known events back t.1) (terms_in text)) c.as_slice.ensures)) in
    let counted_row : IsRow c.in-Some.row.items events (λ event'. counted event' (terms_in c.as_slice.result.now) back) = (rw c.in-Some.is at c.in_ok-row.ensures.counts) back flattens in
    let row : IsRow c.in-Some.row.items events (λ event'. counted event' d.terms back) = subst (λ text. IsRow c.in-Some.row.items events (λ event'. counted event' (terms_in text) back)) c.as_slice.ensures counted_row in
    let total = c.total.ensures ∙ ap (λ xs. capped (sum xs)) c.deref.ensures.value in
    let more = c.if-total-gt-MOST_COUNTS.true in
    let large = row-large c.in-Some.row.items events (λ event'. counted event' d.terms back) row (subst (λ n. 1000000 < n) total more) in
    fault-large events d back flattens.free event new (omega (arith, count, same)) known (subst (λ xs. 1000000 < sum xs) (sym (new-row events d back)) large)

pub invariant_of-self : goal.invariant_of-self
invariant_of-self c =
    let entry : List ℕ × List ℕ = (c.from_vec-name.result, c.from_vec.result) in
    let wide : length c.from_vec.result ≡ length c.args.self.now.events = ap length c.from_vec.ensures ∙ (rw c.in-Some.is at c.in_ok-row.ensures.wide) in
    let total = c.total.ensures ∙ ap (λ xs. capped (sum xs)) (c.deref.ensures.value ∙ sym c.from_vec.ensures) in
    let few = c.if-total-gt-MOST_COUNTS.false in
    let small : sum c.from_vec.result ≤ 1000000 = omega (arith, total, few) in
    record {
      distinct = c.args.self.now.distinct;
      shape = pushed_all c.push.result (λ d. length d.1 ≡ length c.args.self.now.events) c.args.self.now.derived c.push.new.self entry c.push.ensures.ok c.push.ensures.err c.args.self.now.shape wide;
      small = pushed_all c.push.result (λ d. sum d.1 ≤ 1000000) c.args.self.now.derived c.push.new.self entry c.push.ensures.ok c.push.ensures.err c.args.self.now.small small;
    }

pub returns-clause-defines : goal.returns-clause-defines
returns-clause-defines c back flattens new =
    let d = plain_definition c.args.definition.now in
    let events = c.args.self.now.events in
    let event : list_any (bytes_eq d.name) events ≡ false = sym (is_event d.name events) ∙ search rules in
    let count = count-derived events back in
    let same = ap length flattens.derived in
    let some : is_some c.in_ok-row.field-0 ≡ true = ap is_some c.in-Some.is in
    let known : list_all (λ t. is_known events back t.1) d.terms ≡ true = sym (sym some ∙ (c.in_ok-row.ensures.known back flattens ∙ ap (λ text. list_all (λ t. is_known events back t.1) (terms_in text)) c.as_slice.ensures)) in
    let counted_row : IsRow c.in-Some.row.items events (λ event'. counted event' (terms_in c.as_slice.result.now) back) = (rw c.in-Some.is at c.in_ok-row.ensures.counts) back flattens in
    let row : IsRow c.in-Some.row.items events (λ event'. counted event' d.terms back) = subst (λ text. IsRow c.in-Some.row.items events (λ event'. counted event' (terms_in text) back)) c.as_slice.ensures counted_row in
    let total = c.total.ensures ∙ ap (λ xs. capped (sum xs)) c.deref.ensures.value in
    let few = c.if-total-gt-MOST_COUNTS.false in
    let small = row-small c.in-Some.row.items events (λ event'. counted event' d.terms back) row (subst (λ n. n ≤ 1000000) total few) in
    let coefs : c.in-Some.row.items ≡ coefficients events d.name (d ∷ back) = small.0 ∙ sym (new-row events d back) in
    let pushed : c.push.new.self ≡ c.args.self.now.derived ++ (c.from_vec-name.result, c.from_vec.result) ∷ [] = c.in_ok-push.ensures.ok in
    let name : c.from_vec-name.result ≡ d.name = search rules in
    let own : c.from_vec.result ≡ coefficients events d.name (d ∷ back) = c.from_vec.ensures ∙ coefs in
    record {
      free = fault-none events d back flattens.free event new (omega (arith, count, same)) known (subst (λ xs. sum xs ≤ 1000000) (sym (new-row events d back)) small.1);
      derived = pushed ∙ (ap (λ xs. xs ++ (c.from_vec-name.result, c.from_vec.result) ∷ []) flattens.derived
          ∙ (ap (λ n. derived_of events back ++ (n, c.from_vec.result) ∷ []) name
          ∙ (ap (λ r. derived_of events back ++ (d.name, r) ∷ []) own
          ∙ sym (derived-new events d back new))));
    }
