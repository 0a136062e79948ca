use Rattle.std.proofs.Common.{◌≡◌, List, ◌∷◌, ℕ, map, drop}
use Rattle.httparse.specs.Spans.{header_bytes}
use Rattle.http_exchange.specs.Lengths.{values_named}
use Rattle.http_exchange.specs.declared.lengths.Values.{Values}
use Rattle.http_exchange.specs.declared.lengths.Values.TheVariants as are
use Rattle.http_exchange.proofs.lengths.values_of.Given as goal

-- all values are those found and then those of the fields that are left
abbrev pub AreFound : List (List ℕ) → Values → List (List ℕ) → Type 0
AreFound all are.None more = all ≡ more
AreFound all (are.One value) more = all ≡ value.now ∷ more
AreFound all are.Many more = ⊥

abbrev pub invariant-loop-field : goal.invariant-loop-field
invariant-loop-field l = AreFound (values_named l.name (map (header_bytes l.bytes) l.fields)) l.found (values_named l.name (map (header_bytes l.bytes) (drop l.field-index l.fields)))
