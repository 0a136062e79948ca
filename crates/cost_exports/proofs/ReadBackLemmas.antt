-- The folded text of stacks is read as these stacks.
use Rattle.std.proofs.Common.{zero, suc, ◌≡◌, ◌≢◌, ℕ, ◌+◌, ◌-◌, ◌*◌, ◌/◌, ◌%◌, ◌<◌, ◌≤◌, ◌^◌, Bool, true, false, not, ◌&&◌, ◌==◌, nat_le, nat_lt, if◌then◌else◌, List, [], ◌∷◌, ◌++◌, length, map, take, drop, get_or, Some, None, Ok, Err, refl, sym, ap, ap₂, ◌∙◌, arith, length-append}
use Rattle.std.specs.Fmt.{decimal}
use Rattle.std.specs.List.{list_all}
use Rattle.std.specs.Str.Lines.{strip_carriage_return}
use Rattle.std.proofs.Math.Seq.{drop-append_seam, get_or-append_seam, take-append_seam}
use Rattle.std.proofs.lemmas.Bool.{and_parts, lt-ltb}
use Rattle.std.proofs.lemmas.Bool.Decides.{nat_tests}
use Rattle.std.proofs.lemmas.Fmt.{decimal_by_steps}
use Rattle.std.proofs.lemmas.List.{append_assoc, get_or-append-add}
use Rattle.std.proofs.lemmas.List.Folds.{list_all-append}
use Rattle.std.proofs.lemmas.List.Sums.{fold-append, suffix_len_is}
use Rattle.std.proofs.lemmas.Nat.{div-add-mod'}
use Rattle.cg_text.specs.Fields.{is_blank}
use Rattle.cg_text.specs.Lines.{is_line_feed, is_one_line, joined, lines_of}
use Rattle.cg_text.specs.Numbers.{below, digit_value, is_digit, value_in}
use Rattle.cg_text.specs.Readings.{line_limit}
use Rattle.cg_text.specs.declared.faults.Fault.TheVariants.{FoldedLine, LineTooLong}
use Rattle.cg_text.proofs.JoinedLemmas.{lines_of-joined}
use Rattle.folded_reader.specs.Files.{fault_from, readings_of, stacks_from}
use Rattle.folded_reader.specs.Lines.{Reading, behind_blank, count_of, counted, cut_at, reading_of, some_stack, stack_of, text_says}
use Rattle.report_texts.specs.Folded.{counts_of, folded_text, stack_line, stack_text}
use Rattle.cost_exports.specs.ReadBack.{AreReadable, IsReadable, ReadsBackAs}

-- ---- digits

-- digits, of which there are some, and what they represent
record AreDigits (n : ℕ) (digits : List ℕ) : Type 0 where
  all : list_all is_digit digits ≡ true
  value : value_in 10 digits ≡ n
  some : 0 < length digits

digit_is : (m : ℕ) → m < 10 → is_digit (48 + m) ≡ true
digit_is m low = grind (arith, nat_tests)

digit_stands_for : (m : ℕ) → m < 10 → digit_value (48 + m) ≡ m
digit_stands_for m low =
    let few : nat_le (48 + m) 57 ≡ true = grind (arith, nat_tests) in
    rw few (omega arith)

one_digit : (n : ℕ) → n < 10 → AreDigits n ((48 + n) ∷ [])
one_digit n low = record {
  all = rw (digit_is n low) refl;
  value = let is = digit_stands_for n low in omega (arith, is);
  some = omega arith;
}

last_digit : (n : ℕ) → n % 10 < 10
last_digit n = omega arith

more_digits : (n : ℕ) (digits : List ℕ) → 10 ≤ n → AreDigits (n / 10) digits → AreDigits n (digits ++ ((48 + n % 10) ∷ []))
more_digits n digits many are = record {
  all = list_all-append is_digit digits ((48 + n % 10) ∷ []) ∙ ap₂ ◌&&◌ are.all (ap (λ b. b && true) (digit_is (n % 10) (last_digit n)));
  value =
      fold-append (λ m b. m * 10 + digit_value b) 0 digits ((48 + n % 10) ∷ [])
      ∙ ap₂ (λ m k. m * 10 + k) are.value (digit_stands_for (n % 10) (last_digit n))
      ∙ div-add-mod' n 10;
  some = let more = length-append digits ((48 + n % 10) ∷ []) in omega (arith, more);
}

digits_are : (n : ℕ) → n < 2 ^ 64 → AreDigits n (decimal n)
digits_are n low = decimal_by_steps AreDigits one_digit more_digits n low

count_is : (n : ℕ) (digits : List ℕ) → n < 2 ^ 63 → AreDigits n digits → count_of digits ≡ Ok n
count_is n [] low are = let some = are.some in absurd (omega (arith, some))
count_is n (b ∷ bs) low are =
    let fits : below (2 ^ 64) n ≡ Ok n = rw (lt-ltb n (2 ^ 64) (omega (arith, low))) refl in
    let half : below (2 ^ 63) n ≡ Ok n = rw (lt-ltb n (2 ^ 63) low) refl in
    rw are.all (rw are.value (rw fits (rw half refl)))

digit_at : (digits : List ℕ) (k : ℕ) → list_all is_digit digits ≡ true → k < length digits → is_digit (get_or digits k 0) ≡ true
digit_at [] k all low = absurd (omega (arith, low))
digit_at (b ∷ bs) zero all low = (and_parts (is_digit b) (list_all is_digit bs) all).0
digit_at (b ∷ bs) (suc k) all low = digit_at bs k (and_parts (is_digit b) (list_all is_digit bs) all).1 (omega (arith, low))

not_blank : (b : ℕ) → is_digit b ≡ true → not (is_blank b) ≡ true
not_blank b is = grind (arith, nat_tests)

not_return : (b : ℕ) → is_digit b ≡ true → (b == 13) ≡ false
not_return b is = grind (arith, nat_tests)

not_feed : (b : ℕ) → is_digit b ≡ true → not (is_line_feed b) ≡ true
not_feed b is = grind (arith, nat_tests)

no_feeds : (digits : List ℕ) → list_all is_digit digits ≡ true → is_one_line digits ≡ true
no_feeds [] all = refl
no_feeds (b ∷ bs) all =
    let parts = and_parts (is_digit b) (list_all is_digit bs) all in
    ap₂ ◌&&◌ (not_feed b parts.0) (no_feeds bs parts.1)

-- ---- a line of frames and digits

module _ (frames digits : List ℕ) (n : ℕ) (are : AreDigits n digits) where
  abbrev text : List ℕ
  text = frames ++ 32 ∷ digits

  long : length text ≡ length frames + suc (length digits)
  long = length-append frames (32 ∷ digits)

  byte_behind : (k : ℕ) → get_or text (length frames + suc k) 0 ≡ get_or digits k 0
  byte_behind k = get_or-append-add frames (32 ∷ digits) (suc k) 0

  behind_is : (k : ℕ) → length frames + 1 ≤ k → k < length text → is_digit (get_or text k 0) ≡ true
  behind_is k low high =
      let total = long in
      let j : ℕ = k - length frames - 1 in
      let at : length frames + suc j ≡ k = omega (arith, low) in
      let within : j < length digits = omega (arith, low, high, total) in
      ap (λ i. is_digit (get_or text i 0)) (sym at) ∙ ap is_digit (byte_behind j) ∙ digit_at digits j are.all within

  blank_is : not (is_blank (get_or text (length frames + 1 - 1) 0)) ≡ false
  blank_is =
      let at : length frames + 1 - 1 ≡ length frames = omega arith in
      ap (λ i. not (is_blank (get_or text i 0))) at ∙ ap (λ b. not (is_blank b)) (get_or-append_seam frames 32 digits 0)

  behind_last : behind_blank text ≡ length digits
  behind_last =
      let total = long in
      let is = suffix_len_is (λ b. not (is_blank b)) text (length frames + 1) 0 (omega (arith, total)) (λ k low high. not_blank (get_or text k 0) (behind_is k low high)) (λ _. blank_is) in
      omega (arith, is, total)

  last_is : (get_or text (length text - 1) 0 == 13) ≡ false
  last_is =
      let total = long in
      let some = are.some in
      not_return (get_or text (length text - 1) 0) (behind_is (length text - 1) (omega (arith, total, some)) (omega (arith, total, some)))

  stripped : strip_carriage_return text ≡ text
  stripped = rw last_is refl

  cut : cut_at (behind_blank text) text ≡ stack_of frames digits
  cut =
      let total = long in
      let within : nat_lt (length digits) (length text) ≡ true = lt-ltb (length digits) (length text) (omega (arith, total)) in
      let front : length text - length digits - 1 ≡ length frames = omega (arith, total) in
      let from : length text - length digits ≡ length (frames ++ 32 ∷ []) = (let one = length-append frames (32 ∷ []) in omega (arith, total, one)) in
      let whole : text ≡ (frames ++ 32 ∷ []) ++ digits = sym (append_assoc frames (32 ∷ []) digits) in
      let kept : take (length text - length digits - 1) text ≡ frames = ap (λ k. take k text) front ∙ take-append_seam frames (32 ∷ digits) in
      let left : drop (length text - length digits) text ≡ digits = ap₂ (λ k xs. drop k xs) from whole ∙ drop-append_seam (frames ++ 32 ∷ []) digits in
      ap (λ k. cut_at k text) behind_last
      ∙ ap (λ b. if b then stack_of (take (length text - length digits - 1) text) (drop (length text - length digits) text) else Err FoldedLine) within
      ∙ ap₂ stack_of kept left

  one_line : is_one_line frames ≡ true → is_one_line text ≡ true
  one_line is = list_all-append (λ b. not (is_line_feed b)) frames (32 ∷ digits) ∙ ap₂ ◌&&◌ is (no_feeds digits are.all)

-- ---- a line that is read

abbrev said : List ℕ × ℕ → Reading
said e = Ok (Some (record { frames = e.0; count = e.1 }))

not_long : (n : ℕ) → n ≤ line_limit → nat_lt line_limit n ≡ false
not_long n fits = grind (arith, nat_tests)

reads : (frames : List ℕ) (n : ℕ) → frames ≢ [] → n < 2 ^ 63 → length (stack_text (frames, n)) ≤ line_limit → reading_of (stack_text (frames, n)) ≡ said (frames, n)
unfolding reading_of
reads [] n some low fits = absurd (some refl)
reads (b ∷ bs) n some low fits =
    let digits = decimal n in
    let are = digits_are n (omega (arith, low)) in
    let line = (b ∷ bs) ++ 32 ∷ digits in
    ap (λ (long_line : Bool). if long_line then Err LineTooLong else text_says (strip_carriage_return line)) (not_long (length line) fits)
    ∙ ap text_says (stripped (b ∷ bs) digits n are)
    ∙ ap some_stack (cut (b ∷ bs) digits n are)
    ∙ ap (λ count. some_stack (counted (b ∷ bs) count)) (count_is n digits low are)

line_reads : (e : List ℕ × ℕ) → IsReadable e → reading_of (stack_text e) ≡ said e
line_reads e is = reads e.0 e.1 is.some is.below is.fits

line_is_one : (e : List ℕ × ℕ) → IsReadable e → is_one_line (stack_text e) ≡ true
line_is_one e is = let low = is.below in one_line e.0 (decimal e.1) e.1 (digits_are e.1 (omega (arith, low))) is.one_line

-- ---- a text that is read

folded_joined : (stacks : List (List ℕ × ℕ)) → folded_text stacks ≡ joined (map stack_text stacks)
folded_joined [] = refl
folded_joined (e ∷ stacks) = ap (λ bytes. stack_line e ++ bytes) (folded_joined stacks)

all_one : (stacks : List (List ℕ × ℕ)) → AreReadable stacks → list_all is_one_line (map stack_text stacks) ≡ true
all_one [] are = refl
all_one (e ∷ stacks) are = ap₂ ◌&&◌ (line_is_one e are.0) (all_one stacks are.1)

all_read : (stacks : List (List ℕ × ℕ)) → AreReadable stacks → map reading_of (map stack_text stacks) ≡ map said stacks
all_read [] are = refl
all_read (e ∷ stacks) are = ap₂ (λ (r : Reading) rest. r ∷ rest) (line_reads e are.0) (all_read stacks are.1)

readings_are : (stacks : List (List ℕ × ℕ)) → AreReadable stacks → readings_of (folded_text stacks) ≡ map said stacks
readings_are stacks are = ap (map reading_of) (ap lines_of (folded_joined stacks) ∙ lines_of-joined (map stack_text stacks) (all_one stacks are)) ∙ all_read stacks are

no_fault : (n : ℕ) (stacks : List (List ℕ × ℕ)) → fault_from n (map said stacks) ≡ None
no_fault n [] = refl
no_fault n (e ∷ stacks) = no_fault (n + 1) stacks

same_stacks : (n : ℕ) (stacks : List (List ℕ × ℕ)) → counts_of (stacks_from n (map said stacks)) ≡ stacks
same_stacks n [] = refl
same_stacks n (e ∷ stacks) = ap (λ rest. e ∷ rest) (same_stacks (n + 1) stacks)

pub read-back : (stacks : List (List ℕ × ℕ)) → AreReadable stacks → ReadsBackAs (folded_text stacks) stacks
read-back stacks are = record {
  accepted = ap (fault_from 1) (readings_are stacks are) ∙ no_fault 1 stacks;
  stacks = ap (λ readings. counts_of (stacks_from 1 readings)) (readings_are stacks are) ∙ same_stacks 1 stacks;
}
