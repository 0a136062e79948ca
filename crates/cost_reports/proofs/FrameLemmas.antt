-- The frames of a stack, one after another, and the set of their functions.
use Rattle.std.proofs.Common.{zero, suc, ◌≡◌, ℕ, ◌+◌, ◌*◌, ◌<◌, ◌≤◌, Bool, true, false, ◌&&◌, ◌||◌, cond, List, [], ◌∷◌, map, fold, length, take, drop, slice_index, refl, sym, ap, ◌∙◌, arith}
use Rattle.std.proofs.lemmas.Bool.{false_from_ne_true}
use Rattle.std.proofs.Math.Bool.{or-false}
use Rattle.std.specs.declared.cmp.Ordering.{Ordering}
use Rattle.std.specs.declared.cmp.Ordering.TheVariants.{Less, Equal, Greater}
use Rattle.std.specs.Borrow.{Bor}
use Rattle.std.specs.BTreeSet.{insert_key}
use Rattle.std.specs.List.{list_any, slice_split, onto_first}
use Rattle.std.specs.Str.{bytes_eq}
use Rattle.cg_text.specs.Names.{unknown}
use Rattle.cost_rows.proofs.NamingLemmas.{same_bytes, bytes-same}
use Rattle.std.specs.Ordering.{match_ordering}
use Rattle.std.proofs.Math.Nat.{mul-le-mul_right}
use Rattle.std.proofs.lemmas.List.Splits.{slice_split-cons_yes, slice_split-cons_no}
use Rattle.memchr.specs.Find.{Nowhere, Passes}
use Rattle.cost_rows.specs.KeySums.{total_of}
use Rattle.cost_rows.specs.Stacks.{bytes_cmp}
use Rattle.profile_records.specs.Frames.{is_semicolon, function_of, functions_of}
use Rattle.report_texts.specs.Inclusive.{functions_in, names_costs, names_in}

-- ---- the first frame, and the others

pub no_more_frames : (xs : List ℕ) → Nowhere (Passes is_semicolon xs) 0 (length xs) → slice_split is_semicolon xs ≡ xs ∷ []
no_more_frames [] none = refl
no_more_frames (x ∷ xs) none =
    slice_split-cons_no is_semicolon x xs (false_from_ne_true (is_semicolon x) (none 0 (omega arith) (omega arith)))
    ∙ ap (onto_first x) (no_more_frames xs (λ k low high. none (suc k) (omega arith) (omega (arith, high))))

frame_first : (xs : List ℕ) (k : ℕ) → k < length xs → Nowhere (Passes is_semicolon xs) 0 k → is_semicolon (slice_index xs k) ≡ true
    → slice_split is_semicolon xs ≡ take k xs ∷ slice_split is_semicolon (drop (suc k) xs)
frame_first [] k within none here = absurd (omega (arith, within))
frame_first (x ∷ xs) zero within none here = slice_split-cons_yes is_semicolon x xs here
frame_first (x ∷ xs) (suc k) within none here =
    slice_split-cons_no is_semicolon x xs (false_from_ne_true (is_semicolon x) (none 0 (omega arith) (omega arith)))
    ∙ ap (onto_first x) (frame_first xs k (omega (arith, within)) (λ j low high. none (suc j) (omega arith) (omega (arith, high))) here)

pub functions_first : (xs : List ℕ) (k : ℕ) → k < length xs → Nowhere (Passes is_semicolon xs) 0 k → is_semicolon (slice_index xs k) ≡ true
    → functions_of xs ≡ function_of (take k xs) ∷ functions_of (drop (k + 1) xs)
functions_first xs k within none here =
    let next : suc k ≡ k + 1 = omega arith in
    ap (map function_of) (frame_first xs k within none here)
    ∙ ap (λ n. function_of (take k xs) ∷ functions_of (drop n xs)) next

-- ---- the set of functions

abbrev pub lent_cmp : Bor (List ℕ) → Bor (List ℕ) → Ordering
lent_cmp a b = bytes_cmp a.now b.now

insert_step : (k x : Bor (List ℕ)) (xs : List (Bor (List ℕ))) (o : Ordering) → names_in (insert_key lent_cmp xs k) ≡ insert_key bytes_cmp (names_in xs) k.now
    → names_in (match_ordering o (k ∷ x ∷ xs) (x ∷ xs) (x ∷ insert_key lent_cmp xs k))
    ≡ match_ordering o (k.now ∷ x.now ∷ names_in xs) (x.now ∷ names_in xs) (x.now ∷ insert_key bytes_cmp (names_in xs) k.now)
insert_step k x xs Less rest = refl
insert_step k x xs Equal rest = refl
insert_step k x xs Greater rest = ap (λ names. x.now ∷ names) rest

pub names_insert : (xs : List (Bor (List ℕ))) (k : Bor (List ℕ)) → names_in (insert_key lent_cmp xs k) ≡ insert_key bytes_cmp (names_in xs) k.now
names_insert [] k = refl
names_insert (x ∷ xs) k = insert_step k x xs (lent_cmp k x) (names_insert xs k)

-- ---- how many there are

length_step : (k x : List ℕ) (xs : List (List ℕ)) (o : Ordering) → length (insert_key bytes_cmp xs k) ≤ length xs + 1
    → length (match_ordering o (k ∷ x ∷ xs) (x ∷ xs) (x ∷ insert_key bytes_cmp xs k)) ≤ length (x ∷ xs) + 1
length_step k x xs Less rest = omega arith
length_step k x xs Equal rest = omega arith
length_step k x xs Greater rest = omega (arith, rest)

length_insert : (xs : List (List ℕ)) (k : List ℕ) → length (insert_key bytes_cmp xs k) ≤ length xs + 1
length_insert [] k = omega arith
length_insert (x ∷ xs) k = length_step k x xs (bytes_cmp k x) (length_insert xs k)

length_fold : (names xs : List (List ℕ)) → length (fold (insert_key bytes_cmp) xs names) ≤ length xs + length names
length_fold [] xs = omega arith
length_fold (name ∷ names) xs =
    let one = length_insert xs name in
    let rest = length_fold names (insert_key bytes_cmp xs name) in
    omega (arith, one, rest)

length_onto : (x : ℕ) (parts : List (List ℕ)) (n : ℕ) → length parts ≤ n + 1 → length (onto_first x parts) ≤ n + 1
length_onto x [] n few = omega arith
length_onto x (part ∷ parts) n few = few

length_split : (xs : List ℕ) → length (slice_split is_semicolon xs) ≤ length xs + 1
length_split [] = omega arith
length_split (x ∷ xs) = go (is_semicolon x) (length_split xs) (length_onto x (slice_split is_semicolon xs) (length xs) (length_split xs))
  where
    go : (b : Bool) → length (slice_split is_semicolon xs) ≤ length xs + 1 → length (onto_first x (slice_split is_semicolon xs)) ≤ length xs + 1
        → length (cond b ([] ∷ slice_split is_semicolon xs) (onto_first x (slice_split is_semicolon xs))) ≤ length (x ∷ xs) + 1
    go true rest other = omega (arith, rest)
    go false rest other = omega (arith, other)

length_map : (parts : List (List ℕ)) → length (map function_of parts) ≡ length parts
length_map [] = refl
length_map (part ∷ parts) = ap (λ n. suc n) (length_map parts)

few_functions : (frames : List ℕ) → length (functions_in frames) ≤ length frames + 1
few_functions frames =
    let parts = length_split frames in
    let functions = length_map (slice_split is_semicolon frames) in
    let set = length_fold (functions_of frames) [] in
    omega (arith, parts, functions, set)

times_more : (n count : ℕ) → suc n * count ≡ count + n * count
times_more n count = grind arith

total_costs : (count : ℕ) (names : List (List ℕ)) → total_of (names_costs count names) ≡ length names * count
total_costs count [] = omega arith
total_costs count (name ∷ names) = ap (λ n. count + n) (total_costs count names) ∙ sym (times_more (length names) count)

-- a stack counts at most once for each of its bytes, and once more
pub total_in : (count : ℕ) (frames : List ℕ) → total_of (names_costs count (functions_in frames)) ≤ (length frames + 1) * count
total_in count frames =
    let total = total_costs count (functions_in frames) in
    let most = mul-le-mul_right {m = length (functions_in frames)} {n = length frames + 1} count (few_functions frames) in
    omega (arith, total, most)

-- ---- whether one of the functions has a name

pub functions_last : (xs : List ℕ) → Nowhere (Passes is_semicolon xs) 0 (length xs) → functions_of xs ≡ function_of xs ∷ []
functions_last xs none = ap (map function_of) (no_more_frames xs none)

pub last_named : (p : List ℕ → Bool) (xs : List ℕ) → Nowhere (Passes is_semicolon xs) 0 (length xs) → list_any p (functions_of xs) ≡ p (function_of xs)
last_named p xs none = ap (list_any p) (functions_last xs none) ∙ or-false (p (function_of xs))

-- the functions of another object are none of its own
pub other_object : (object name : List ℕ) (names : List (List ℕ)) → bytes_eq object unknown ≡ false → list_any (λ n. bytes_eq unknown object && bytes_eq n name) names ≡ false
other_object object name names other = go names
  where
    flipped : (b : Bool) → bytes_eq unknown object ≡ b → b ≡ false
    flipped true is = absurd (let e : bytes_eq object unknown ≡ true = bytes-same object unknown (sym (same_bytes unknown object is)) in let n : true ≡ false = sym e ∙ other in cc)
    flipped false is = refl

    apart : bytes_eq unknown object ≡ false
    apart = flipped (bytes_eq unknown object) refl

    go : (ns : List (List ℕ)) → list_any (λ n. bytes_eq unknown object && bytes_eq n name) ns ≡ false
    go [] = refl
    go (n ∷ ns) = ap (λ b. (b && bytes_eq n name) || list_any (λ n. bytes_eq unknown object && bytes_eq n name) ns) apart ∙ go ns
