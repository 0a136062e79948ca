use Rattle.std.proofs.Common.{◌≡◌, ℕ, ◌+◌, ◌<◌, ◌≤◌, true, false, List, ◌∷◌, length, map, drop, get_or, refl, sym, ap, subst, ◌∙◌, arith, rules, add-one, drop-cons}
use Rattle.httparse.specs.Spans.{header_bytes, span_bytes}
use Rattle.httparse.specs.declared.spans.HeaderSpan.{HeaderSpan}
use Rattle.http_exchange.specs.Lengths.{same_name, values_named}
use Rattle.http_exchange.specs.declared.lengths.Values.{Values}
use Rattle.http_exchange.specs.declared.lengths.Values.TheVariants as are
use Rattle.http_exchange.proofs.lengths.values_of.Invariants.{AreFound}
use Rattle.http_exchange.proofs.lengths.values_of.Goals as goal

module _ (name bytes : List ℕ) (fields : List HeaderSpan) where
  abbrev left : ℕ → List (List ℕ)
  left i = values_named name (map (header_bytes bytes) (drop i fields))

  -- a field of another name
  other : (i : ℕ) (d : HeaderSpan) → i < length fields → same_name (span_bytes bytes (get_or fields i d).name) name ≡ false → left i ≡ left (i + 1)
  other i d below e = rw (add-one, drop-cons fields i d below, e) refl

  -- a field of this name
  one_more : (i : ℕ) (d : HeaderSpan) → i < length fields → same_name (span_bytes bytes (get_or fields i d).name) name ≡ true
      → left i ≡ span_bytes bytes (get_or fields i d).value ∷ left (i + 1)
  one_more i d below e = rw (add-one, drop-cons fields i d below, e) refl

go_on : (all more next : List (List ℕ)) (found : Values) → more ≡ next → AreFound all found more → AreFound all found next
go_on all more next found e is = subst (AreFound all found) e is

none_found : (all more : List (List ℕ)) (found : Values) → found ≡ are.None → AreFound all found more → all ≡ more
none_found all more are.None e is = is
none_found all more (are.One value) e is = let wrong : ⊥ = search rules in absurd wrong
none_found all more are.Many e is = absurd is

many : (all more : List (List ℕ)) (value : List ℕ) (found : Values) → (found ≡ are.None → ⊥) → AreFound all found (value ∷ more) → 2 ≤ length all
many all more value are.None some is = absurd (some refl)
many all more value (are.One first) some is = rw is (omega arith)
many all more value are.Many some is = absurd is

pub loop-field-preserved-then-not-is_named : goal.loop-field-preserved-then-not-is_named
loop-field-preserved-then-not-is_named c =
    let past = other c.args.name.now c.args.bytes.now c.args.fields.now c.loop-field.field-index _ c.loop-field-test.true (sym c.is_named.ensures ∙ c.if-not-is_named.true) in
    go_on _ _ _ c.loop-field.found past c.loop-field.invariant

pub returns-in_default : goal.returns-in_default
returns-in_default c =
    let this = one_more c.args.name.now c.args.bytes.now c.args.fields.now c.loop-field.field-index _ c.loop-field-test.true (sym c.is_named.ensures ∙ c.if-not-is_named.false) in
    many _ _ _ c.loop-field.found c.in_default.not-None (go_on _ _ _ c.loop-field.found this c.loop-field.invariant)

pub loop-field-preserved : goal.loop-field-preserved
loop-field-preserved c =
    let this = one_more c.args.name.now c.args.bytes.now c.args.fields.now c.loop-field.field-index _ c.loop-field-test.true (sym c.is_named.ensures ∙ c.if-not-is_named.false) in
    none_found _ _ c.loop-field.found c.in-None.is c.loop-field.invariant ∙ this
    ∙ ap (λ v. v ∷ left c.args.name.now c.args.bytes.now c.args.fields.now (c.loop-field.field-index + 1)) (sym c.of.ensures)
