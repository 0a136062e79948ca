-- The totals that a file states: one for each event, each small enough that its decimal tells it.
use Rattle.std.proofs.Common.{◌≡◌, ℕ, zero, suc, ◌+◌, ◌*◌, ◌/◌, ◌%◌, ◌^◌, ◌<◌, ◌≤◌, Bool, true, false, ◌==◌, nat_lt, if◌then◌else◌, List, [], ◌∷◌, map, length, slice_index, Result, Ok, Err, Option, Some, None, refl, sym, ap, subst, ◌∙◌, arith, inl, inr}
use Rattle.std.specs.Prelude.{IfOk, IfSome}
use Rattle.std.specs.Fmt.{decimal, digits, digits_onto, digit_glyph}
use Rattle.std.specs.List.{AllByRecursion, onto_first, range_with_len}
use Rattle.std.specs.Str.Parse.{digits_value}
use Rattle.std.proofs.Math.Nat.{pow-suc}
use Rattle.std.proofs.lemmas.Bool.{cases_lt, ne_eqb}
use Rattle.std.proofs.lemmas.Bool.Decides.{nat_tests}
use Rattle.std.proofs.lemmas.Fmt.{decimal_is_IsNumeral_wide, length-decimal-le_wide}
use Rattle.std.proofs.lemmas.List.{length-map}
use Rattle.std.proofs.lemmas.List.FromFn.{length-map-range_with_len}
use Rattle.std.proofs.lemmas.Nat.{le-div}
use Rattle.cg_text.specs.Fields.{fields_of}
use Rattle.cg_text.specs.Lines.{is_line_feed, lines_of}
use Rattle.cg_text.specs.Numbers.{amount_of, below_half, number_of}
use Rattle.cg_text.specs.Readings.{Reading}
use Rattle.cg_text.specs.declared.faults.Fault.{Fault}
use Rattle.cg_text.specs.declared.faults.Fault.TheVariants.{NumberTooLarge}
use Rattle.callgrind_reader.specs.Faulty.{◌>>=◌, each}
use Rattle.callgrind_reader.specs.Files.{end_by, events_by}
use Rattle.callgrind_reader.specs.Grammars.{Grammar, reading_in}
use Rattle.callgrind_reader.specs.Totals.{amount_in, amounts_or_none, columns, is_stated, plus, stated_by, sum_in}
use Rattle.callgrind_reader.specs.declared.stated.StatedKey.{StatedKey}
use Rattle.callgrind_reader.specs.declared.stated.StatedKey.TheVariants.{Totals, Summary}
use Rattle.histories.specs.Formats.{Format, Callgrind, Folded}
use Rattle.histories.specs.Files.{events_of, stated_of}

-- ---- a number is told by its decimal, if that has fewer digits than are ever written

abbrev pub IsSmall : ℕ → Type 0
IsSmall n = n < 10 ^ 63

-- as many digits are written as there is room for, where the number has them
digits_wide : (k n : ℕ) (acc : List ℕ) → 10 ^ k ≤ n → length (digits_onto (suc k) 10 false n acc) ≡ suc (k + length acc)
digits_wide zero n acc wide = go (n / 10 == 0)
  where
    go : (b : Bool) → length (if b then digit_glyph false (n % 10) ∷ acc else digit_glyph false (n % 10) ∷ acc) ≡ suc (zero + length acc)
    go true = omega arith
    go false = omega arith
digits_wide (suc k) n acc wide = go (n / 10 == 0) (ne_eqb (n / 10) 0 (λ none. omega (arith, some, none))) (digits_wide k (n / 10) (digit_glyph false (n % 10) ∷ acc) up)
  where
    up : 10 ^ k ≤ n / 10
    up = le-div (10 ^ k) n 10 (omega arith) (subst (λ m. m ≤ n) (pow-suc 10 k) wide)

    some : 1 ≤ n / 10
    some = let one : 1 ≤ 10 ^ k = power k in omega (arith, one, up)
      where
        power : (j : ℕ) → 1 ≤ 10 ^ j
        power zero = omega arith
        power (suc j) = let e : 10 ^ suc j ≡ 10 ^ j * 10 = pow-suc 10 j in let h = power j in omega (arith, e, h)

    go : (b : Bool) → b ≡ false → length (digits_onto (suc k) 10 false (n / 10) (digit_glyph false (n % 10) ∷ acc)) ≡ suc (k + suc (length acc))
        → length (if b then digit_glyph false (n % 10) ∷ acc else digits_onto (suc k) 10 false (n / 10) (digit_glyph false (n % 10) ∷ acc)) ≡ suc (suc k + length acc)
    go true e long = absurd cc
    go false e long = omega (arith, long)

decimal_wide : (n : ℕ) → 10 ^ 63 ≤ n → length (decimal n) ≡ 64
unfolding digits
decimal_wide n wide = let e : length (digits_onto 64 10 false n []) ≡ suc (63 + 0) = digits_wide 63 n [] wide in e

same_small : (m n : ℕ) → IsSmall m → IsSmall n → decimal m ≡ decimal n → m ≡ n
same_small m n small_m small_n same = sym (decimal_is_IsNumeral_wide m (omega (arith, small_m))).1 ∙ ap (digits_value 10) same ∙ (decimal_is_IsNumeral_wide n (omega (arith, small_n))).1

pub same_number : (m n : ℕ) → IsSmall n → decimal m ≡ decimal n → m ≡ n
same_number m n small same = elim (cases_lt m (10 ^ 63)) [
  | inl low ↦ same_small m n low small same
  | inr wide ↦
      absurd
      (let long : length (decimal m) ≡ 64 = decimal_wide m wide in
      let few : length (decimal n) ≤ 63 = length-decimal-le_wide 63 n (omega arith) small (omega (arith, small)) in
      let e : length (decimal m) ≡ length (decimal n) = ap length same in
      omega (arith, long, few, e))
]

-- ---- amounts

abbrev IsAmount : ℕ → Type 0
IsAmount n = n < 2 ^ 63

is_below : (n limit : ℕ) → nat_lt n limit ≡ true → n < limit
is_below n limit is = grind (arith, nat_tests)

below_is : (n : ℕ) (b : Bool) → (b ≡ true → IsAmount n) → IfOk (let r : Result ℕ Fault = if b then Ok n else Err NumberTooLarge in r) IsAmount
below_is n true small = small refl
below_is n false small = tt

half_is : (r : Result ℕ Fault) → IfOk (below_half r) IsAmount
half_is (Ok n) = below_is n (nat_lt n (2 ^ 63)) (is_below n (2 ^ 63))
half_is (Err fault) = tt

amount_is : (field : List ℕ) → IfOk (amount_of field) IsAmount
unfolding amount_of
amount_is field = half_is (number_of field)

one_more : (r : Result ℕ Fault) (rs : Result (List ℕ) Fault) → IfOk r IsAmount → AllByRecursion IsAmount (amounts_or_none rs) → AllByRecursion IsAmount (amounts_or_none (r >>= λ x. (rs >>= λ xs. Ok (x ∷ xs))))
one_more (Ok n) (Ok ns) one all = (one, all)
one_more (Ok n) (Err fault) one all = tt
one_more (Err fault) rs one all = tt

all_amounts : (fields : List (List ℕ)) → AllByRecursion IsAmount (amounts_or_none (each amount_of fields))
all_amounts [] = tt
all_amounts (field ∷ fields) = one_more (amount_of field) (each amount_of fields) (amount_is field) (all_amounts fields)

at_column : (ns : List ℕ) (k : ℕ) → AllByRecursion IsAmount ns → slice_index ns k < 2 ^ 63
at_column [] k all = omega arith
at_column (n ∷ ns) zero all = all.0
at_column (n ∷ ns) (suc k) all = at_column ns k all.1

-- ---- their sums over the lines of a file

more : (k m sum : ℕ) (o : Option (List ℕ)) → sum ≤ m * 2 ^ 63 → plus k sum o ≤ suc m * 2 ^ 63
more k m sum None low = omega (arith, low)
more k m sum (Some value) low = let one : amount_in k value < 2 ^ 63 = at_column (amounts_or_none (each amount_of (fields_of value))) k (all_amounts (fields_of value)) in omega (arith, low, one)

sum_low : (key : StatedKey) (k : ℕ) (back : List Reading) → sum_in key k back ≤ length back * 2 ^ 63
sum_low key k [] = omega arith
sum_low key k (r ∷ back) = more k (length back) (sum_in key k back) (stated_by r key) (sum_low key k back)

first_long : (b : ℕ) (lines : List (List ℕ)) (n : ℕ) → length lines ≤ n → length (onto_first b lines) ≤ suc n
first_long b [] n few = omega arith
first_long b (line ∷ lines) n few = omega (arith, few)

lines_few : (bytes : List ℕ) → length (lines_of bytes) ≤ length bytes
lines_few [] = omega arith
lines_few (b ∷ bytes) = go (is_line_feed b) (lines_few bytes)
  where
    go : (ends : Bool) → length (lines_of bytes) ≤ length bytes → length (if ends then [] ∷ lines_of bytes else onto_first b (lines_of bytes)) ≤ suc (length bytes)
    go true few = omega (arith, few)
    go false few = first_long b (lines_of bytes) (length bytes) few

-- lines in front of others, the nearest first
abbrev onto : {A : Type 0} → List A → List A → List A
onto [] back = back
onto (x ∷ ahead) back = onto ahead (x ∷ back)

onto_long : {A : Type 0} (ahead back : List A) → length (onto ahead back) ≡ length ahead + length back
onto_long [] back = omega arith
onto_long (x ∷ ahead) back = let e = onto_long ahead (x ∷ back) in omega (arith, e)

end_few : (g : Grammar) (bytes : List ℕ) → length (end_by g bytes) ≤ length bytes
end_few g bytes =
    let long : length (end_by g bytes) ≡ length (map (reading_in g) (lines_of bytes)) + 0 = onto_long (map (reading_in g) (lines_of bytes)) [] in
    let same : length (map (reading_in g) (lines_of bytes)) ≡ length (lines_of bytes) = length-map (lines_of bytes) (reading_in g) in
    let few = lines_few bytes in
    omega (arith, long, same, few)

sum_small : (g : Grammar) (bytes : List ℕ) → length bytes ≤ 2 ^ 30 → (key : StatedKey) (k : ℕ) → IsSmall (sum_in key k (end_by g bytes))
sum_small g bytes short key k =
    let low : sum_in key k (end_by g bytes) ≤ length (end_by g bytes) * 2 ^ 63 = sum_low key k (end_by g bytes) in
    let few : length (end_by g bytes) ≤ length bytes = end_few g bytes in
    omega (arith, low, few, short)

-- ---- the totals of a file

-- one for each event, and small
abbrev pub AreTotalsFor : List (List ℕ) → Option (List ℕ) → Type 0
AreTotalsFor events stated = IfSome stated (λ totals. (length totals ≡ length events) × AllByRecursion IsSmall totals)

all_small : (sum : ℕ → ℕ) (ks : List ℕ) → ((k : ℕ) → IsSmall (sum k)) → AllByRecursion IsSmall (map sum ks)
all_small sum [] small = tt
all_small sum (k ∷ ks) small = (small k, all_small sum ks small)

columns_are : (sum : ℕ → ℕ) (n : ℕ) → ((k : ℕ) → IsSmall (sum k)) → (length (columns sum n) ≡ n) × AllByRecursion IsSmall (columns sum n)
columns_are sum n small = (length-map-range_with_len sum 0 n, all_small sum (range_with_len 0 n) small)

pub file_totals : (format : Format) (bytes : List ℕ) → length bytes ≤ 2 ^ 30 → AreTotalsFor (events_of format bytes) (stated_of format bytes)
file_totals (Callgrind g) bytes short =
    go (length (events_by g bytes) == 0) (is_stated Totals (end_by g bytes)) (is_stated Summary (end_by g bytes))
  where
    n : ℕ
    n = length (events_by g bytes)

    are : (key : StatedKey) → (length (columns (λ k. sum_in key k (end_by g bytes)) (length (events_by g bytes))) ≡ length (events_by g bytes)) × AllByRecursion IsSmall (columns (λ k. sum_in key k (end_by g bytes)) (length (events_by g bytes)))
    are key = columns_are (λ k. sum_in key k (end_by g bytes)) (length (events_by g bytes)) (sum_small g bytes short key)

    go : (none totals summary : Bool)
        → AreTotalsFor (events_by g bytes)
        (if none then None
        else (if totals then Some (columns (λ k. sum_in Totals k (end_by g bytes)) (length (events_by g bytes)))
        else (if summary then Some (columns (λ k. sum_in Summary k (end_by g bytes)) (length (events_by g bytes))) else None)))
    go true totals summary = tt
    go false true summary = are Totals
    go false false true = are Summary
    go false false false = tt
file_totals Folded bytes short = tt
