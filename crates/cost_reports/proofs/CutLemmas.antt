-- What is shown of a report is a part of it, and the shortest that reaches the threshold.
use Rattle.std.proofs.Common.{◌≡◌, ℕ, zero, suc, ◌+◌, ◌*◌, ◌≤◌, ◌<◌, Bool, true, false, if◌then◌else◌, nat_le, List, [], ◌∷◌, length, take, Option, Some, None, refl, ap, ◌∙◌, arith}
use Rattle.std.specs.declared.cmp.Ordering.{Ordering}
use Rattle.std.specs.declared.cmp.Ordering.TheVariants.{Less, Equal, Greater}
use Rattle.std.proofs.Math.Nat.{mul-le-mul_right}
use Rattle.std.proofs.lemmas.Bool.{le-leb, leb-true, leb-false}
use Rattle.cost_rows.specs.KeySums.{total_of}
use Rattle.cost_rows.specs.Sums.{Spot}
use Rattle.report_texts.specs.KeyReports.{rank_cmp, reaching, limited, enough, shown, IsShortest}
use Rattle.report_texts.specs.Ranking.{placed, among, ranked}
use Rattle.report_texts.specs.declared.cuts.Cut.{Cut}
use Rattle.cost_reports.specs.Rows.{shown_of}

total_placed : (x y : Spot × ℕ) (o : Ordering) (more ys : List (Spot × ℕ)) → total_of more ≡ x.1 + total_of ys → total_of (placed o x y more ys) ≡ x.1 + (y.1 + total_of ys)
total_placed x y Less more ys e = refl
total_placed x y Equal more ys e = refl
total_placed x y Greater more ys e = omega (arith, e)

total_among : (x : Spot × ℕ) (ys : List (Spot × ℕ)) → total_of (among rank_cmp x ys) ≡ x.1 + total_of ys
total_among x [] = refl
total_among x (y ∷ ys) = total_placed x y (rank_cmp x y) (among rank_cmp x ys) ys (total_among x ys)

pub total_ranked : (xs : List (Spot × ℕ)) → total_of (ranked rank_cmp xs) ≡ total_of xs
total_ranked [] = refl
total_ranked (x ∷ xs) = total_among x (ranked rank_cmp xs) ∙ ap (λ n. x.1 + n) (total_ranked xs)

total_reaching : (need before : ℕ) (xs : List (Spot × ℕ)) → total_of (reaching need before xs) ≤ total_of xs
total_reaching need before [] = omega arith
total_reaching need before (x ∷ xs) = go (nat_le need (before * 100)) (total_reaching need (before + x.1) xs)
  where
    go : (b : Bool) → total_of (reaching need (before + x.1) xs) ≤ total_of xs → total_of (if b then [] else x ∷ reaching need (before + x.1) xs) ≤ x.1 + total_of xs
    go true rest = omega arith
    go false rest = omega (arith, rest)

total_take : (n : ℕ) (xs : List (Spot × ℕ)) → total_of (take n xs) ≤ total_of xs
total_take zero xs = omega arith
total_take (suc n) [] = omega arith
total_take (suc n) (x ∷ xs) = let r = total_take n xs in omega (arith, r)

total_limited : (limit : Option ℕ) (xs : List (Spot × ℕ)) → total_of (limited limit xs) ≤ total_of xs
total_limited None xs = omega arith
total_limited (Some n) xs = total_take n xs

-- what is shown is at most what there is
pub shown_of_within : (cut : Cut) (total : ℕ) (sums : List (Spot × ℕ)) → total_of (shown_of cut total sums) ≤ total_of sums
shown_of_within cut total sums =
    let rows = ranked rank_cmp sums in
    let a = total_limited cut.limit (reaching (cut.threshold * total) 0 rows) in
    let b = total_reaching (cut.threshold * total) 0 rows in
    let c = total_ranked sums in
    omega (arith, a, b, c)

pub shown_within : (cut : Cut) (sums : List (Spot × ℕ)) → total_of (shown cut sums) ≤ total_of sums
shown_within cut sums = shown_of_within cut (total_of sums) sums

-- nothing more is shown once enough is
pub reached : (need before : ℕ) (xs : List (Spot × ℕ)) → need ≤ before * 100 → reaching need before xs ≡ []
reached need before [] enough = refl
reached need before (x ∷ xs) enough = rw (le-leb need (before * 100) enough) refl

-- ---- the shortest

begins_from : (need before : ℕ) (xs : List (Spot × ℕ)) → reaching need before xs ≡ take (length (reaching need before xs)) xs
begins_from need before [] = refl
begins_from need before (x ∷ xs) = go (nat_le need (before * 100)) (begins_from need (before + x.1) xs)
  where
    more : List (Spot × ℕ)
    more = reaching need (before + x.1) xs

    go : (b : Bool) → more ≡ take (length more) xs → (if b then [] else x ∷ more) ≡ take (length (if b then [] else x ∷ more)) (x ∷ xs)
    go true rest = refl
    go false rest = ap (λ ys. x ∷ ys) rest

reaches_from : (need before : ℕ) (xs : List (Spot × ℕ)) → need ≤ (before + total_of xs) * 100 → need ≤ (before + total_of (reaching need before xs)) * 100
reaches_from need before [] all = all
reaches_from need before (x ∷ xs) all = go (nat_le need (before * 100)) refl (reaches_from need (before + x.1) xs (omega (arith, all)))
  where
    more : List (Spot × ℕ)
    more = reaching need (before + x.1) xs

    go : (b : Bool) → nat_le need (before * 100) ≡ b → need ≤ ((before + x.1) + total_of more) * 100 → need ≤ (before + total_of (if b then [] else x ∷ more)) * 100
    go true is rest = let h = leb-true need (before * 100) is in omega (arith, h)
    go false is rest = omega (arith, rest)

shortest_from : (need before : ℕ) (xs : List (Spot × ℕ)) (n : ℕ) → n < length (reaching need before xs) → (before + total_of (take n xs)) * 100 < need
shortest_from need before [] n less = absurd (omega (arith, less))
shortest_from need before (x ∷ xs) n less = go (nat_le need (before * 100)) refl n less (shortest_from need (before + x.1) xs)
  where
    more : List (Spot × ℕ)
    more = reaching need (before + x.1) xs

    go : (b : Bool) → nat_le need (before * 100) ≡ b → (n : ℕ) → n < length (if b then [] else x ∷ more)
        → ((n : ℕ) → n < length more → ((before + x.1) + total_of (take n xs)) * 100 < need) → (before + total_of (take n (x ∷ xs))) * 100 < need
    go true is n less rest = absurd (omega (arith, less))
    go false is zero less rest = let h = leb-false need (before * 100) is in omega (arith, h)
    go false is (suc n) less rest = let h = rest n (omega (arith, less)) in omega (arith, h)

reaches_all : (threshold total : ℕ) (xs : List (Spot × ℕ)) → threshold ≤ 100 → total_of xs ≡ total → threshold * total ≤ total_of (reaching (threshold * total) 0 xs) * 100
reaches_all threshold total xs within is =
    let most : threshold * total ≤ 100 * total = mul-le-mul_right {m = threshold} {n = 100} total within in
    let n : ℕ = total_of xs in
    let same : n ≡ total = is in
    let reaches = reaches_from (threshold * total) 0 xs (omega (arith, most, same)) in
    omega (arith, reaches)

shortest_of : (need : ℕ) (xs : List (Spot × ℕ)) (n : ℕ) → n < length (reaching need 0 xs) → total_of (take n xs) * 100 < need
shortest_of need xs n less = let h = shortest_from need 0 xs n less in omega (arith, h)

pub shortest_enough : (threshold : ℕ) (sums : List (Spot × ℕ)) → threshold ≤ 100 → IsShortest (threshold * total_of sums) (ranked rank_cmp sums) (enough threshold sums)
shortest_enough threshold sums within = record {
  begins = begins_from (threshold * total_of sums) 0 (ranked rank_cmp sums);
  reaches = reaches_all threshold (total_of sums) (ranked rank_cmp sums) within (total_ranked sums);
  shortest = shortest_of (threshold * total_of sums) (ranked rank_cmp sums);
}
