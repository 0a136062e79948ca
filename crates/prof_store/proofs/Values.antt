-- Values as columns take them, and as tests compare them.
use Rattle.std.proofs.Common.{◌≡◌, ℕ, ℤ, List, pos, Bool, true, false, cond, bytes_eq, Some, refl, ap, ◌∙◌, ◌<◌, arith}
use Rattle.sqlite_value.specs.declared.value.Value.{Value}
use Rattle.sqlite_value.specs.declared.value.Value.TheVariants.{Null, Int, Blob}
use Rattle.sqlite_value.specs.declared.keys.Collation.TheVariants.{Binary}
use Rattle.sqlite_value.specs.Order.{value_cmp}
use Rattle.sqlite_value.proofs.OrderLemmas.{value_cmp-Int, value_cmp-Blob}
use Rattle.sqlite_sql.specs.Ops.{unary, binary, is_true, from_truth}
use Rattle.sqlite_sql.specs.declared.ops.BinaryOp.TheVariants.{Compare}
use Rattle.sqlite_sql.specs.declared.ops.CompareOp.TheVariants.{Eq}
use Rattle.sqlite_schema.specs.declared.schema.Kind.TheVariants.{Integer}
use Rattle.sqlite_rules.specs.Cast.{cast}
use Rattle.std.specs.declared.cmp.Ordering.{Ordering}
use Rattle.std.specs.declared.cmp.Ordering.TheVariants.{Less, Equal, Greater}
use Rattle.std.specs.Ordering.{is_eq}
use Rattle.std.proofs.lemmas.Map.Text.{is_eq-slice_cmp}
use Rattle.std.proofs.lemmas.Int.{ints}
use Rattle.sqlite_keyed.proofs.KeyedLemmas.{Less-from_lt}
use Rattle.prof_store.specs.Tables.{number}

either : (b : Bool) (x : Value) → cond b x x ≡ x
either true x = refl
either false x = refl

pub cast_null : cast Integer Null ≡ Null
unfolding unary
cast_null = either _ Null

-- an INTEGER column takes a whole number as it is
pub cast_whole : (z : ℤ) → cast Integer (Int z) ≡ Int z
unfolding unary
cast_whole z = either _ (Int z)

pub cast_number : (n : ℕ) → cast Integer (Int (pos n)) ≡ Int (pos n)
cast_number n = cast_whole (pos n)

-- SQL's = on two blobs
pub blobs_equal : (a b : List ℕ) → is_true (binary (Compare Eq Binary) (Blob a) (Blob b)) ≡ bytes_eq a b
unfolding binary
blobs_equal a b = go (value_cmp (Blob a) (Blob b)) ∙ ap is_eq (value_cmp-Blob a b) ∙ is_eq-slice_cmp a b
  where
    go : (o : Ordering) → is_true (from_truth (Some (is_eq o))) ≡ is_eq o
    go Less = refl
    go Equal = refl
    go Greater = refl

pub number_below : (a b : ℕ) → a < b → value_cmp (number a) (number b) ≡ Less
number_below a b below = value_cmp-Int (pos a) (pos b) ∙ Less-from_lt (pos a) (pos b) (grind (arith, ints, below))
