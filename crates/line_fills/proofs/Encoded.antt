-- One more value behind those of a record that is being made.
use Rattle.std.proofs.Common.{◌≡◌, ◌≢◌, ℕ, ◌+◌, ◌<◌, ◌≤◌, List, [], ◌∷◌, ◌++◌, length, slice_index, refl, sym, ap, subst, ◌∙◌, arith, append_assoc, append-nil, length-append}
use Rattle.std.proofs.lemmas.Bool.Decides.{nat_tests}
use Rattle.sqlite_format.specs.Varint.{varint_len, varint_value, IsVarintOf}
use Rattle.sqlite_record.specs.Record.{AreBodiesOf, AreTypesOf, IsBodyOf, IsRecordOf}
use Rattle.sqlite_record.specs.Serial.{serial_of}
use Rattle.sqlite_value.specs.declared.value.Value.{Value}
use Rattle.sqlite_value.specs.Order.{Row}

pub one_type : (types : List ℕ) (row : Row) (more : List ℕ) (value : Value) → AreTypesOf types row → IsVarintOf more (serial_of value) → slice_index more 0 ≢ 128
    → AreTypesOf (types ++ more) (row ++ value ∷ [])
one_type types [] more value none is short = (more, [], ap (λ l. l ++ more) none ∙ sym (append-nil more), is, refl, short)
one_type types (v ∷ row) more value (first, rest, parts, first_is, rest_are, first_short) is short =
    (first, rest ++ more, ap (λ l. l ++ more) parts ∙ append_assoc first rest more, first_is, one_type rest row more value rest_are is short, first_short)

pub one_body : (body : List ℕ) (row : Row) (more : List ℕ) (value : Value) → AreBodiesOf body row → IsBodyOf more value → AreBodiesOf (body ++ more) (row ++ value ∷ [])
one_body body [] more value none is = (more, [], ap (λ l. l ++ more) none ∙ sym (append-nil more), is, refl)
one_body body (v ∷ row) more value (first, rest, parts, first_is, rest_are) is =
    (first, rest ++ more, ap (λ l. l ++ more) parts ∙ append_assoc first rest more, first_is, one_body rest row more value rest_are is)

-- a number below 128 is its own byte
pub small_varint : (n : ℕ) → n < 128 → IsVarintOf (n ∷ []) n
unfolding varint_len varint_value
small_varint n small = record { whole = grind (arith, nat_tests); holds = grind (arith, nat_tests) }

some_bytes : (bytes : List ℕ) (n : ℕ) → IsVarintOf bytes n → 0 < length bytes
unfolding varint_len
some_bytes [] n is = omega (arith, is.whole)
some_bytes (b ∷ bytes) n is = omega arith

-- each type has a byte
pub few_values : (types : List ℕ) (row : Row) → AreTypesOf types row → length row ≤ length types
few_values types [] are = omega arith
few_values types (v ∷ row) (first, rest, parts, first_is, rest_are, first_short) =
    omega (arith, some_bytes first (serial_of v) first_is, few_values rest row rest_are, ap length parts, length-append first rest)

pub some_values : (types : List ℕ) (row : Row) → AreTypesOf types row → 0 < length types → 0 < length row
some_values types [] are some = omega (arith, some, ap length are)
some_values types (v ∷ row) are some = omega arith

-- the length of a short header is its own byte
pub header_of : (types : List ℕ) → length types < 127 → IsVarintOf ((length types + 1) ∷ []) (1 + length types)
header_of types few =
    let same : length types + 1 ≡ 1 + length types = omega arith in
    subst (IsVarintOf ((length types + 1) ∷ [])) same (small_varint (length types + 1) (omega (arith, few)))

pub record_of : (types body : List ℕ) (row : Row) → AreTypesOf types row → AreBodiesOf body row → length types < 127 → IsRecordOf ((length types + 1) ∷ (types ++ body)) row
record_of types body row typed filled few =
    record { head = (length types + 1) ∷ []; types = types; body = body; parts = refl; header_len = header_of types few; narrow = λ _. refl; typed = typed; filled = filled }

pub one_byte : (bytes : List ℕ) → length bytes ≡ 1 → varint_len bytes ≡ length bytes → slice_index bytes 0 ≢ 128
unfolding varint_len
one_byte [] len whole = absurd (omega arith)
one_byte (b ∷ []) len whole = λ e. omega (arith, rw e at whole)
one_byte (b ∷ c ∷ bytes) len whole = absurd (omega arith)
