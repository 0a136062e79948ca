-- What a cut shows of sums is told by those of them that cost the most, in any order.
use Rattle.std.proofs.Common.{◌≡◌, ℕ, zero, suc, ◌+◌, ◌-◌, ◌*◌, ◌≤◌, ◌<◌, Bool, true, false, if◌then◌else◌, nat_le, List, [], ◌∷◌, ◌++◌, length, take, sum_by, IsPermutation, inl, inr, refl, sym, ap, ap₂, ◌∙◌, arith, append-nil}
use Rattle.std.specs.List.{AllByRecursion}
use Rattle.std.specs.Ordering.{is_lt, ordering_then}
use Rattle.std.specs.Cmp.{nat_cmp_is}
use Rattle.std.specs.declared.cmp.Ordering.{Ordering}
use Rattle.std.specs.declared.cmp.Ordering.TheVariants.{Less, Equal, Greater}
use Rattle.std.proofs.lemmas.List.Sums.{sum_by-cons}
use Rattle.std.proofs.lemmas.List.Sorted.{sum_by-IsPermutation}
use Rattle.cost_rows.specs.Keys.{named_cmp}
use Rattle.cost_rows.specs.KeySums.{total_of}
use Rattle.cost_rows.specs.Sums.{Spot}
use Rattle.cost_rows.specs.declared.keys.Key.{Key}
use Rattle.report_texts.specs.KeyReports.{ReportByKey, rank_cmp, reaching, limited, shown, report_of}
use Rattle.report_texts.specs.Ranking.{placed, among, ranked}
use Rattle.report_texts.specs.declared.cuts.Cut.{Cut}
use Rattle.cost_reports.specs.Enough.{AreAbove, AreEnough, Suffice}
use Rattle.cost_reports.specs.Rows.{shown_of}
use Rattle.cost_reports.proofs.CutLemmas.{reached, total_ranked}
use Rattle.cost_reports.proofs.RankLemmas.{same_ranked, ranked_append}
use Rattle.cost_reports.proofs.RowLemmas.{rank_cmp-total, rank_cmp-apart}

abbrev cost_of : Spot × ℕ → ℕ
cost_of e = e.1

-- ---- totals

pub total_is_sum : (sums : List (Spot × ℕ)) → total_of sums ≡ sum_by (λ (e : Spot × ℕ). e.1) sums
total_is_sum [] = refl
total_is_sum (e ∷ sums) = ap (λ n. e.1 + n) (total_is_sum sums) ∙ sym (sum_by-cons cost_of e sums)

pub same_total : (xs ys : List (Spot × ℕ)) → IsPermutation xs ys → total_of ys ≡ total_of xs
same_total xs ys moved = total_is_sum ys ∙ sum_by-IsPermutation cost_of xs ys moved ∙ sym (total_is_sum xs)

-- ---- the order in which sums come

same_rank : (xs ys : List (Spot × ℕ)) → IsPermutation xs ys → ranked rank_cmp xs ≡ ranked rank_cmp ys
same_rank = same_ranked rank_cmp-total rank_cmp-apart

-- ---- sums that cost more than others

greater_first : (a b : Spot × ℕ) → b.1 < a.1 → is_lt (rank_cmp b a) ≡ false
greater_first a b more = ap (λ o. is_lt (ordering_then o (named_cmp b.0 a.0))) (sym (nat_cmp_is a.1 b.1 Greater more))

all_after : (a : Spot × ℕ) (others : List (Spot × ℕ)) → AllByRecursion (λ b. b.1 < a.1) others → AllByRecursion (λ b. is_lt (rank_cmp b a) ≡ false) others
all_after a [] above = tt
all_after a (b ∷ others) above = (greater_first a b above.0, all_after a others above.1)

each_after : (some others : List (Spot × ℕ)) → AreAbove cost_of some others → AllByRecursion (λ a. AllByRecursion (λ b. is_lt (rank_cmp b a) ≡ false) others) some
each_after [] others above = tt
each_after (a ∷ some) others above = (all_after a others above.0, each_after some others above.1)

above_first : (some others : List (Spot × ℕ)) → AreAbove cost_of some others → ranked rank_cmp (some ++ others) ≡ ranked rank_cmp some ++ ranked rank_cmp others
above_first some others above = ranked_append rank_cmp-total rank_cmp-apart some others (each_after some others above)

length_placed : (x y : Spot × ℕ) (o : Ordering) (more ys : List (Spot × ℕ)) → length more ≡ suc (length ys) → length (placed o x y more ys) ≡ suc (suc (length ys))
length_placed x y Less more ys e = refl
length_placed x y Equal more ys e = refl
length_placed x y Greater more ys e = ap suc e

length_among : (x : Spot × ℕ) (ys : List (Spot × ℕ)) → length (among rank_cmp x ys) ≡ suc (length ys)
length_among x [] = refl
length_among x (y ∷ ys) = length_placed x y (rank_cmp x y) (among rank_cmp x ys) ys (length_among x ys)

length_ranked : (xs : List (Spot × ℕ)) → length (ranked rank_cmp xs) ≡ length xs
length_ranked [] = refl
length_ranked (x ∷ xs) = length_among x (ranked rank_cmp xs) ∙ ap suc (length_ranked xs)

-- ---- the others are not shown

-- where the first rows sum to what is needed
enough_reached : (need before : ℕ) (xs ys : List (Spot × ℕ)) → need ≤ (before + total_of xs) * 100 → reaching need before (xs ++ ys) ≡ reaching need before xs
enough_reached need before [] ys within = reached need before ys (omega (arith, within))
enough_reached need before (x ∷ xs) ys within =
    ap (λ more. if nat_le need (before * 100) then [] else x ∷ more) (enough_reached need (before + x.1) xs ys (omega (arith, within)))

-- where the first rows are as many as are shown
enough_taken : (need before limit : ℕ) (xs ys : List (Spot × ℕ)) → limit ≤ length xs → take limit (reaching need before (xs ++ ys)) ≡ take limit (reaching need before xs)
enough_taken need before zero xs ys within = refl
enough_taken need before (suc limit) [] ys within = absurd (omega (arith, within))
enough_taken need before (suc limit) (x ∷ xs) ys within = go (nat_le need (before * 100)) (enough_taken need (before + x.1) limit xs ys (omega (arith, within)))
  where
    shorter : List (Spot × ℕ)
    shorter = reaching need (before + x.1) xs

    longer : List (Spot × ℕ)
    longer = reaching need (before + x.1) (xs ++ ys)

    go : (b : Bool) → take limit longer ≡ take limit shorter → take (suc limit) (if b then [] else x ∷ longer) ≡ take (suc limit) (if b then [] else x ∷ shorter)
    go true rest = refl
    go false rest = ap (λ more. x ∷ more) rest

suffice_shown : (cut : Cut) (all some others : List (Spot × ℕ)) → Suffice cost_of cut all some others
    → limited cut.limit (reaching (cut.threshold * total_of all) 0 (ranked rank_cmp some ++ ranked rank_cmp others)) ≡ shown_of cut (total_of all) some
suffice_shown cut all some others (inl none) =
    let rows = ranked rank_cmp some in
    ap (λ more. limited cut.limit (reaching (cut.threshold * total_of all) 0 (rows ++ ranked rank_cmp more))) none
    ∙ ap (λ more. limited cut.limit (reaching (cut.threshold * total_of all) 0 more)) (append-nil rows)
suffice_shown cut all some others (inr (inl few)) =
    let need = cut.threshold * total_of all in
    let rows = ranked rank_cmp some in
    let more = rows ++ ranked rank_cmp others in
    let within : few.0 ≤ length rows = (let e = length_ranked some in let h = few.2 in omega (arith, e, h)) in
    ap (λ l. limited l (reaching need 0 more)) few.1
    ∙ enough_taken need 0 few.0 rows (ranked rank_cmp others) within
    ∙ ap (λ l. limited l (reaching need 0 rows)) (sym few.1)
suffice_shown cut all some others (inr (inr reach)) =
    let rows = ranked rank_cmp some in
    let within : cut.threshold * sum_by cost_of all ≤ sum_by cost_of some * 100 = reach in
    let need : cut.threshold * total_of all ≡ cut.threshold * sum_by cost_of all = ap (λ n. cut.threshold * n) (total_is_sum all) in
    let sum : total_of rows ≡ sum_by cost_of some = total_ranked some ∙ total_is_sum some in
    ap (limited cut.limit) (enough_reached (cut.threshold * total_of all) 0 rows (ranked rank_cmp others) (omega (arith, within, need, sum)))

-- what is shown of all is shown of those that are enough
pub shown_enough : (cut : Cut) (all some : List (Spot × ℕ)) → AreEnough cost_of cut all some → shown_of cut (total_of all) some ≡ shown cut all
shown_enough cut all some enough =
    sym (suffice_shown cut all some enough.others enough.suffice)
    ∙ ap (λ rows. limited cut.limit (reaching (cut.threshold * total_of all) 0 rows))
    (sym (above_first some enough.others enough.above) ∙ same_rank (some ++ enough.others) all enough.are_all)

-- rows and the total make the report of all sums
pub report_enough : (key : Key) (cut : Cut) (total : ℕ) (all some rows : List (Spot × ℕ)) → total_of all ≡ total → AreEnough cost_of cut all some → rows ≡ shown_of cut total some
    → record { key = key; rows = rows; rest = total - total_of rows; total = total } ≡ report_of key cut all
report_enough key cut total all some rows is enough shows =
    let report : ℕ → List (Spot × ℕ) → ReportByKey = λ n r. record { key = key; rows = r; rest = n - total_of r; total = n } in
    ap₂ report (sym is) (shows ∙ ap (λ n. shown_of cut n some) (sym is) ∙ shown_enough cut all some enough)
