-- Differences: what their rows sum to, and the same backwards.
use Rattle.std.proofs.Common.{inl, inr, ◌≡◌, ℕ, zero, suc, ◌+◌, ◌-◌, ◌==◌, ◌≤◌, nat_lt, Bool, true, false, not, ◌&&◌, ◌||◌, List, [], ◌∷◌, ◌++◌, map, drop, if◌then◌else◌, refl, sym, ap, ap₂, subst, ◌∙◌, arith}
use Rattle.std.proofs.Math.Bool.{or_assoc}
use Rattle.std.specs.declared.cmp.Ordering.{Ordering}
use Rattle.std.specs.declared.cmp.Ordering.TheVariants.{Less, Equal, Greater}
use Rattle.std.specs.List.{list_any, AllByRecursion}
use Rattle.std.specs.List.Sorted.{IsStrictlySortedBy}
use Rattle.std.specs.Map.{keys_of}
use Rattle.std.proofs.lemmas.Bool.{cases_Bool, eqb-true, eqb-false, ltb-true, ltb-false, lt-ltb, eq-eqb}
use Rattle.std.proofs.lemmas.Map.Keys.{sorted_head, sorted_tail}
use Rattle.cost_rows.specs.Keys.{named_cmp}
use Rattle.cost_rows.specs.KeySums.{total_of}
use Rattle.cost_rows.specs.Merging.{sum_where}
use Rattle.cost_rows.specs.Sums.{Spot}
use Rattle.cost_rows.specs.declared.keys.Key.{Key}
use Rattle.cost_rows.proofs.KeysLemmas.{named_cmp-total, named_cmp-apart}
use Rattle.report_texts.specs.Differences.{less, beside, differing, difference_cmp, difference_of, gains_of, losses_of, negated, negated_row, negative, on_side}
use Rattle.report_texts.specs.Pairs.{firsts_of, seconds_of}
use Rattle.report_texts.specs.Ranking.{placed, among, ranked}
use Rattle.report_texts.specs.declared.differences.Side.TheVariants.{First, Second}
use Rattle.report_texts.specs.declared.pairs.Pair.{Pair}
use Rattle.report_texts.specs.declared.signed.Signed.{Signed}
use Rattle.cost_reports.proofs.PairLemmas.{pair, measure, told, firsts_by, seconds_by, keys_by, sorted_by}
use Rattle.cost_reports.proofs.RankLemmas.{all_ranked}
use Rattle.cost_reports.proofs.RowLemmas.{difference_cmp-total, difference_cmp-apart}
use Rattle.cost_reports.proofs.SameSums.{same_merged}

-- ---- sums side by side

nothing : (b : Bool) (n : ℕ) → (if b then n else n) ≡ n
nothing true n = refl
nothing false n = refl

no_firsts : (passes : Spot → Bool) (seconds : List (Spot × ℕ)) → sum_where passes (λ (p : Pair). p.first) (map (on_side Second) seconds) ≡ 0
no_firsts passes [] = refl
no_firsts passes (e ∷ seconds) = let here = nothing (passes e.0) 0 in let rest = no_firsts passes seconds in omega (arith, here, rest)

firsts_where : (passes : Spot → Bool) (firsts seconds : List (Spot × ℕ)) → sum_where passes (λ (p : Pair). p.first) (map (on_side First) firsts ++ map (on_side Second) seconds) ≡ sum_where passes (λ n. n) firsts
firsts_where passes [] seconds = no_firsts passes seconds
firsts_where passes (e ∷ firsts) seconds = ap (λ n. (if passes e.0 then e.1 else 0) + n) (firsts_where passes firsts seconds)

seconds_alone : (passes : Spot → Bool) (seconds : List (Spot × ℕ)) → sum_where passes (λ (p : Pair). p.second) (map (on_side Second) seconds) ≡ sum_where passes (λ n. n) seconds
seconds_alone passes [] = refl
seconds_alone passes (e ∷ seconds) = ap (λ n. (if passes e.0 then e.1 else 0) + n) (seconds_alone passes seconds)

seconds_where : (passes : Spot → Bool) (firsts seconds : List (Spot × ℕ)) → sum_where passes (λ (p : Pair). p.second) (map (on_side First) firsts ++ map (on_side Second) seconds) ≡ sum_where passes (λ n. n) seconds
seconds_where passes [] seconds = seconds_alone passes seconds
seconds_where passes (e ∷ firsts) seconds =
    let here = nothing (passes e.0) 0 in
    let rest = seconds_where passes firsts seconds in
    omega (arith, here, rest)

keys_alone : (passes : Spot → Bool) (seconds : List (Spot × ℕ)) → list_any passes (keys_of (map (on_side Second) seconds)) ≡ list_any passes (keys_of seconds)
keys_alone passes [] = refl
keys_alone passes (e ∷ seconds) = ap (λ b. passes e.0 || b) (keys_alone passes seconds)

keys_where : (passes : Spot → Bool) (firsts seconds : List (Spot × ℕ)) → list_any passes (keys_of (map (on_side First) firsts ++ map (on_side Second) seconds)) ≡ (list_any passes (keys_of firsts) || list_any passes (keys_of seconds))
keys_where passes [] seconds = keys_alone passes seconds
keys_where passes (e ∷ firsts) seconds =
    ap (λ b. passes e.0 || b) (keys_where passes firsts seconds) ∙ sym (or_assoc (passes e.0) (list_any passes (keys_of firsts)) (list_any passes (keys_of seconds)))

-- ---- the sides exchanged

abbrev turned : Spot × Pair → Spot × Pair
turned e = (e.0, pair e.1.second e.1.first)

turned_firsts : (passes : Spot → Bool) (es : List (Spot × Pair)) → sum_where passes (λ (p : Pair). p.first) (map turned es) ≡ sum_where passes (λ (p : Pair). p.second) es
turned_firsts passes [] = refl
turned_firsts passes (e ∷ es) = ap (λ n. (if passes e.0 then e.1.second else 0) + n) (turned_firsts passes es)

turned_seconds : (passes : Spot → Bool) (es : List (Spot × Pair)) → sum_where passes (λ (p : Pair). p.second) (map turned es) ≡ sum_where passes (λ (p : Pair). p.first) es
turned_seconds passes [] = refl
turned_seconds passes (e ∷ es) = ap (λ n. (if passes e.0 then e.1.first else 0) + n) (turned_seconds passes es)

turned_keys : (es : List (Spot × Pair)) → keys_of (map turned es) ≡ keys_of es
turned_keys [] = refl
turned_keys (e ∷ es) = ap (λ ks. e.0 ∷ ks) (turned_keys es)

or_turned : (a b : Bool) → (a || b) ≡ (b || a)
or_turned true true = refl
or_turned true false = refl
or_turned false true = refl
or_turned false false = refl

beside_turned : (firsts seconds : List (Spot × ℕ)) → beside seconds firsts ≡ map turned (beside firsts seconds)
beside_turned firsts seconds =
    same_merged named_cmp-total named_cmp-apart measure told (beside seconds firsts) (map turned (beside firsts seconds))
    (sorted_by (map (on_side First) seconds ++ map (on_side Second) firsts))
    (subst (IsStrictlySortedBy named_cmp) (sym (turned_keys (beside firsts seconds))) (sorted_by (map (on_side First) firsts ++ map (on_side Second) seconds)))
    keys sums
  where
    keys : (passes : Spot → Bool) → list_any passes (keys_of (beside seconds firsts)) ≡ list_any passes (keys_of (map turned (beside firsts seconds)))
    keys passes =
        keys_by passes (map (on_side First) seconds ++ map (on_side Second) firsts)
        ∙ keys_where passes seconds firsts
        ∙ or_turned (list_any passes (keys_of seconds)) (list_any passes (keys_of firsts))
        ∙ sym (keys_where passes firsts seconds)
        ∙ sym (keys_by passes (map (on_side First) firsts ++ map (on_side Second) seconds))
        ∙ ap (list_any passes) (sym (turned_keys (beside firsts seconds)))

    first_sums : (passes : Spot → Bool) → sum_where passes (λ (p : Pair). p.first) (beside seconds firsts) ≡ sum_where passes (λ (p : Pair). p.first) (map turned (beside firsts seconds))
    first_sums passes =
        firsts_by passes (map (on_side First) seconds ++ map (on_side Second) firsts)
        ∙ firsts_where passes seconds firsts
        ∙ sym (seconds_where passes firsts seconds)
        ∙ sym (seconds_by passes (map (on_side First) firsts ++ map (on_side Second) seconds))
        ∙ sym (turned_firsts passes (beside firsts seconds))

    second_sums : (passes : Spot → Bool) → sum_where passes (λ (p : Pair). p.second) (beside seconds firsts) ≡ sum_where passes (λ (p : Pair). p.second) (map turned (beside firsts seconds))
    second_sums passes =
        seconds_by passes (map (on_side First) seconds ++ map (on_side Second) firsts)
        ∙ seconds_where passes seconds firsts
        ∙ sym (firsts_where passes firsts seconds)
        ∙ sym (firsts_by passes (map (on_side First) firsts ++ map (on_side Second) seconds))
        ∙ sym (turned_seconds passes (beside firsts seconds))

    sums : (i : ℕ) (passes : Spot → Bool) → sum_where passes (measure i) (beside seconds firsts) ≡ sum_where passes (measure i) (map turned (beside firsts seconds))
    sums zero passes = first_sums passes
    sums (suc i) passes = second_sums passes

-- ---- sums less themselves

abbrev head_of : Spot × Pair → List (Spot × Pair) → Spot × Pair
head_of other [] = other
head_of other (e ∷ es) = e

none_differ : (es : List (Spot × Pair)) → es ≡ map turned es → differing es ≡ []
none_differ [] same = refl
none_differ (e ∷ es) same =
    let first : e ≡ turned e = ap (head_of e) same in
    let rest : es ≡ map turned es = ap (drop 1) same in
    let is : e.1.first ≡ e.1.second = ap (λ (x : Spot × Pair). x.1.first) first in
    rw (eq-eqb e.1.first e.1.second is) (none_differ es rest)

pub less_itself : (key : Key) (sums : List (Spot × ℕ)) → difference_of key sums sums ≡ record { key = key; rows = []; total = record { size = 0; below = false } }
less_itself key sums = ap₂ (λ rows total. record { key = key; rows = rows; total = total }) (ap (ranked difference_cmp) (none_differ (beside sums sums) (beside_turned sums sums))) (zero_less (total_of sums))
  where
    zero_less : (n : ℕ) → less n n ≡ record { size = 0; below = false }
    zero_less n = ap₂ (λ size below. record { size = size; below = below }) (let e : (n - n) + (n - n) ≡ 0 = omega arith in e) (ltb_self n)
      where
        ltb_self : (n : ℕ) → nat_lt n n ≡ false
        ltb_self n = elim (cases_Bool (nat_lt n n)) [
          | inl less ↦ absurd (let h = ltb-true n n less in omega (arith, h))
          | inr not_less ↦ not_less
        ]

-- ---- a difference backwards

abbrev signed : ℕ → Bool → Signed
signed n b = record { size = n; below = b }

less_back : (m n : ℕ) → less n m ≡ negated (less m n)
less_back m n = ap₂ signed size below
  where
    size : (n - m) + (m - n) ≡ (m - n) + (n - m)
    size = omega arith

    below : nat_lt n m ≡ (not (nat_lt m n) && not (((m - n) + (n - m)) == 0))
    below = elim (cases_Bool (nat_lt m n)) [
      | inl is ↦ rw is (not_lt n m (let h = ltb-true m n is in omega (arith, h)))
      | inr isnt ↦ rw isnt (other (let h = ltb-false m n isnt in omega (arith, h)))
    ]
      where
        not_lt : (a b : ℕ) → b ≤ a → nat_lt a b ≡ false
        not_lt a b up = elim (cases_Bool (nat_lt a b)) [
          | inl less ↦ absurd (let h = ltb-true a b less in omega (arith, h, up))
          | inr fine ↦ fine
        ]

        other : n ≤ m → nat_lt n m ≡ not (((m - n) + (n - m)) == 0)
        other up = elim (cases_Bool (((m - n) + (n - m)) == 0)) [
          | inl none ↦ rw none (not_lt n m (let h = eqb-true ((m - n) + (n - m)) 0 none in omega (arith, h, up)))
          | inr some ↦ rw some (lt-ltb n m (let h = eqb-false ((m - n) + (n - m)) 0 some in omega (arith, h, up)))
        ]

differing_back : (es : List (Spot × Pair)) → differing (map turned es) ≡ map negated_row (differing es)
differing_back [] = refl
differing_back (e ∷ es) = elim (cases_Bool (e.1.first == e.1.second)) [
  | inl same ↦ rw same (rw (eq-eqb e.1.second e.1.first (sym (eqb-true e.1.first e.1.second same))) (differing_back es))
  | inr apart ↦
      let h = eqb-false e.1.first e.1.second apart in
      let back : (e.1.second == e.1.first) ≡ false = other e.1.first e.1.second apart in
      rw apart (rw back (ap₂ (λ (n : Signed) rows. (e.0, n) ∷ rows) (less_back e.1.first e.1.second) (differing_back es)))
]
  where
    other : (m n : ℕ) → (m == n) ≡ false → (n == m) ≡ false
    other m n apart = elim (cases_Bool (n == m)) [
      | inl same ↦ absurd (let k : (m == n) ≡ true = eq-eqb m n (sym (eqb-true n m same)) in cc)
      | inr fine ↦ fine
    ]

-- rows at other places compare by size and place alone
cmp_back : (a b : Spot × Signed) → named_cmp a.0 b.0 ≡ Less → difference_cmp (negated_row a) (negated_row b) ≡ difference_cmp a b
cmp_back a b apart = rw apart refl

among_back : (x : Spot × Signed) (ys : List (Spot × Signed)) → AllByRecursion (λ (y : Spot × Signed). named_cmp x.0 y.0 ≡ Less) ys → among difference_cmp (negated_row x) (map negated_row ys) ≡ map negated_row (among difference_cmp x ys)
among_back x [] all = refl
among_back x (y ∷ ys) all =
    ap₂ (λ o more. placed o (negated_row x) (negated_row y) more (map negated_row ys)) (cmp_back x y all.0) (among_back x ys all.1)
    ∙ go (difference_cmp x y) (among difference_cmp x ys)
  where
    go : (o : Ordering) (more : List (Spot × Signed)) → placed o (negated_row x) (negated_row y) (map negated_row more) (map negated_row ys) ≡ map negated_row (placed o x y more ys)
    go Less more = refl
    go Equal more = refl
    go Greater more = refl

-- each row's place is before those of the rows behind it
abbrev Rising : List (Spot × Signed) → Type 0
Rising [] = Unit {0}
Rising (x ∷ xs) = AllByRecursion (λ (y : Spot × Signed). named_cmp x.0 y.0 ≡ Less) xs × Rising xs

ranked_back : (xs : List (Spot × Signed)) → Rising xs → ranked difference_cmp (map negated_row xs) ≡ map negated_row (ranked difference_cmp xs)
ranked_back [] up = refl
ranked_back (x ∷ xs) up =
    ap (among difference_cmp (negated_row x)) (ranked_back xs up.1)
    ∙ among_back x (ranked difference_cmp xs) (all_ranked difference_cmp-total difference_cmp-apart (λ (y : Spot × Signed). named_cmp x.0 y.0 ≡ Less) xs up.0)

above_differing : (p : Spot) (es : List (Spot × Pair)) → AllByRecursion (λ q. named_cmp p q ≡ Less) (keys_of es) → AllByRecursion (λ (y : Spot × Signed). named_cmp p y.0 ≡ Less) (differing es)
above_differing p [] all = tt
above_differing p (e ∷ es) all = go (e.1.first == e.1.second) (above_differing p es all.1)
  where
    go : (b : Bool) → AllByRecursion (λ (y : Spot × Signed). named_cmp p y.0 ≡ Less) (differing es)
        → AllByRecursion (λ (y : Spot × Signed). named_cmp p y.0 ≡ Less) (if b then differing es else (e.0, less e.1.first e.1.second) ∷ differing es)
    go true rest = rest
    go false rest = (all.0, rest)

rising_differing : (es : List (Spot × Pair)) → IsStrictlySortedBy named_cmp (keys_of es) → Rising (differing es)
rising_differing [] up = tt
rising_differing (e ∷ es) up =
    go (e.1.first == e.1.second) (above_differing e.0 es (sorted_head named_cmp e.0 (keys_of es) up)) (rising_differing es (sorted_tail named_cmp e.0 (keys_of es) up))
  where
    go : (b : Bool) → AllByRecursion (λ (y : Spot × Signed). named_cmp e.0 y.0 ≡ Less) (differing es) → Rising (differing es) → Rising (if b then differing es else (e.0, less e.1.first e.1.second) ∷ differing es)
    go true above rest = rest
    go false above rest = (above, rest)

pub less_backwards : (key : Key) (firsts seconds : List (Spot × ℕ)) → difference_of key seconds firsts ≡ negative (difference_of key firsts seconds)
less_backwards key firsts seconds =
    ap₂ (λ rows total. record { key = key; rows = rows; total = total })
    (ap (λ es. ranked difference_cmp (differing es)) (beside_turned firsts seconds)
    ∙ ap (ranked difference_cmp) (differing_back (beside firsts seconds))
    ∙ ranked_back (differing (beside firsts seconds)) (rising_differing (beside firsts seconds) (sorted_by (map (on_side First) firsts ++ map (on_side Second) seconds))))
    (less_back (total_of firsts) (total_of seconds))

-- ---- what rows sum to

module _ (measure : Spot × Signed → ℕ) where
  abbrev rows_sum : List (Spot × Signed) → ℕ
  rows_sum [] = 0
  rows_sum (e ∷ rows) = measure e + rows_sum rows

  sum_placed : (x y : Spot × Signed) (o : Ordering) (more ys : List (Spot × Signed)) → rows_sum more ≡ measure x + rows_sum ys → rows_sum (placed o x y more ys) ≡ measure x + (measure y + rows_sum ys)
  sum_placed x y Less more ys e = refl
  sum_placed x y Equal more ys e = refl
  sum_placed x y Greater more ys e = omega (arith, e)

  sum_among : (x : Spot × Signed) (ys : List (Spot × Signed)) → rows_sum (among difference_cmp x ys) ≡ measure x + rows_sum ys
  sum_among x [] = refl
  sum_among x (y ∷ ys) = sum_placed x y (difference_cmp x y) (among difference_cmp x ys) ys (sum_among x ys)

  sum_ranked : (xs : List (Spot × Signed)) → rows_sum (ranked difference_cmp xs) ≡ rows_sum xs
  sum_ranked [] = refl
  sum_ranked (x ∷ xs) = sum_among x (ranked difference_cmp xs) ∙ ap (λ n. measure x + n) (sum_ranked xs)

abbrev gain : Spot × Signed → ℕ
gain e = if e.1.below then 0 else e.1.size

abbrev loss : Spot × Signed → ℕ
loss e = if e.1.below then e.1.size else 0

gains_sum : (rows : List (Spot × Signed)) → gains_of rows ≡ rows_sum gain rows
gains_sum [] = refl
gains_sum (e ∷ rows) = ap (λ n. gain e + n) (gains_sum rows)

losses_sum : (rows : List (Spot × Signed)) → losses_of rows ≡ rows_sum loss rows
losses_sum [] = refl
losses_sum (e ∷ rows) = ap (λ n. loss e + n) (losses_sum rows)

one_differs : (p : Spot) (m n : ℕ) → gain (p, less m n) + n ≡ loss (p, less m n) + m
one_differs p m n = elim (cases_Bool (nat_lt m n)) [
  | inl is ↦ rw is (let h = ltb-true m n is in omega (arith, h))
  | inr isnt ↦ rw isnt (let h = ltb-false m n isnt in omega (arith, h))
]

differing_sum : (es : List (Spot × Pair)) → rows_sum gain (differing es) + seconds_of es ≡ rows_sum loss (differing es) + firsts_of es
differing_sum [] = refl
differing_sum (e ∷ es) = elim (cases_Bool (e.1.first == e.1.second)) [
  | inl same ↦
      let is = eqb-true e.1.first e.1.second same in
      let rest = differing_sum es in
      rw same (omega (arith, is, rest))
  | inr apart ↦
      let here = one_differs e.0 e.1.first e.1.second in
      let rest = differing_sum es in
      rw apart (omega (arith, here, rest))
]

pub come_to_the_total : (key : Key) (firsts seconds : List (Spot × ℕ)) → gains_of (difference_of key firsts seconds).rows + total_of seconds ≡ losses_of (difference_of key firsts seconds).rows + total_of firsts
come_to_the_total key firsts seconds =
    let es = beside firsts seconds in
    let rows = ranked difference_cmp (differing es) in
    let gains : gains_of rows ≡ rows_sum gain (differing es) = gains_sum rows ∙ sum_ranked gain (differing es) in
    let losses : losses_of rows ≡ rows_sum loss (differing es) = losses_sum rows ∙ sum_ranked loss (differing es) in
    let first : firsts_of es ≡ total_of firsts = firsts_by (λ _. true) (map (on_side First) firsts ++ map (on_side Second) seconds) ∙ firsts_where (λ _. true) firsts seconds in
    let second : seconds_of es ≡ total_of seconds = seconds_by (λ _. true) (map (on_side First) firsts ++ map (on_side Second) seconds) ∙ seconds_where (λ _. true) firsts seconds in
    let sums = differing_sum es in
    omega (arith, gains, losses, first, second, sums)
