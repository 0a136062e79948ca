-- The totals that lines state, one line more, and as a list.
use Rattle.std.proofs.Common.{◌≡◌, ℕ, ◌+◌, ◌<◌, ◌≤◌, Bool, true, false, nat_lt, if◌then◌else◌, List, ◌∷◌, length, take, slice_index, Result, Ok, Err, Option, Some, None, is_some, refl, sym, ap, ◌∙◌, arith}
use Rattle.std.proofs.lemmas.Bool.Decides.{nat_tests}
use Rattle.std.proofs.lemmas.List.{get_or-take, length-take-le}
use Rattle.std.proofs.lemmas.List.FromFn.{fill_by_all}
use Rattle.cg_text.specs.Readings.{Reading}
use Rattle.cg_text.specs.Kinds.{Header}
use Rattle.cg_text.specs.Fields.{fields_of}
use Rattle.cg_text.specs.Numbers.{amount_of}
use Rattle.cg_text.specs.declared.words.HeaderKey.TheVariants as keys
use Rattle.callgrind_reader.specs.Faulty.{each, err_of}
use Rattle.callgrind_reader.specs.Lines.{header_fault}
use Rattle.callgrind_reader.specs.Parts.{list_or, with_front}
use Rattle.callgrind_reader.specs.Headers.{TakesHeader}
use Rattle.callgrind_reader.specs.declared.header.Header as headers
use Rattle.cg_text.specs.declared.faults.Fault.{Fault}
use Rattle.callgrind_reader.specs.Totals.{header_key, amounts_or_none, amount_in, columns, sum_in, is_stated, stated_or, first_stated}
use Rattle.callgrind_reader.specs.Stated.{SumsAre, StatedIs, sums_of}
use Rattle.callgrind_reader.specs.declared.totals.Sums.{Sums}
use Rattle.callgrind_reader.specs.declared.stated.StatedKey.{StatedKey}
use Rattle.callgrind_reader.specs.declared.stated.StatedKey.TheVariants.{Totals, Summary}

-- ---- one line more

-- the amounts of a line were added
pub record Adds (old : Sums) (amounts : List ℕ) (new : Sums) : Type 0 where
  pub sums : (k : ℕ) → k < 64 → slice_index new.sums.items k ≡ slice_index old.sums.items k + slice_index amounts k
  pub lines : new.lines ≡ old.lines + 1

is_given : (n m : ℕ) → n ≡ m + 1 → nat_lt 0 n ≡ true
is_given n m e = grind (arith, nat_tests)

module _ (back : List Reading) (value amounts : List ℕ) (said : each amount_of (fields_of value) ≡ Ok amounts) where
  one_more : (old new : Sums) (key : StatedKey) → Adds old amounts new → SumsAre old (λ k. sum_in key k back) (is_stated key back) → SumsAre new (λ k. sum_in key k back + amount_in k value) true
  one_more old new key adds is = record {
    sums = λ k below. adds.sums k below ∙ ap (λ n. n + slice_index amounts k) (is.sums k below) ∙ ap (λ r. sum_in key k back + slice_index (amounts_or_none r) k) (sym said);
    given = is_given new.lines old.lines adds.lines;
  }

  pub added_totals : (totals new summary : Sums) → Adds totals amounts new → StatedIs (record { totals = totals; summary = summary }) back → StatedIs (record { totals = new; summary = summary }) (Ok (Header keys.Totals value) ∷ back)
  added_totals totals new summary adds is = record { each = go }
    where
      go : (key : StatedKey) → SumsAre (sums_of (record { totals = new; summary = summary }) key) (λ k. sum_in key k (Ok (Header keys.Totals value) ∷ back)) (is_stated key (Ok (Header keys.Totals value) ∷ back))
      go Totals = one_more totals new Totals adds (is.each Totals)
      go Summary = is.each Summary

  pub added_summary : (totals summary new : Sums) → Adds summary amounts new → StatedIs (record { totals = totals; summary = summary }) back → StatedIs (record { totals = totals; summary = new }) (Ok (Header keys.Summary value) ∷ back)
  added_summary totals summary new adds is = record { each = go }
    where
      go : (key : StatedKey) → SumsAre (sums_of (record { totals = totals; summary = new }) key) (λ k. sum_in key k (Ok (Header keys.Summary value) ∷ back)) (is_stated key (Ok (Header keys.Summary value) ∷ back))
      go Totals = is.each Totals
      go Summary = one_more summary new Summary adds (is.each Summary)

-- the fault of a line that states totals
pub stated_fault : (key : StatedKey) (value : List ℕ) (back : List Reading) → header_fault (header_key key) value back ≡ err_of (each amount_of (fields_of value))
stated_fault Totals value back = refl
stated_fault Summary value back = refl

fault_is : (fault : Option Fault) (row front : List ℕ) (r : Result (List ℕ) Fault) → list_or fault row ≡ with_front front r → fault ≡ err_of r
fault_is None row front (Ok xs) is = refl
fault_is None row front (Err e) is = cc
fault_is (Some f) row front (Ok xs) is = cc
fault_is (Some f) row front (Err e) is = let same : f ≡ e = cc in ap Some same

-- a line with a fault leaves the header as it was
pub stated_refused : (line : ℕ) (key : StatedKey) (value row front : List ℕ) (old new : headers.Header) (fault : Option Fault) → list_or fault row ≡ with_front front (each amount_of (fields_of value)) → is_some fault ≡ true → TakesHeader line (header_key key) value old fault new
stated_refused line key value row front old new None is some = cc
stated_refused line key value row front old new (Some f) is some = record {
  fault_is = λ back represents. fault_is (Some f) row front (each amount_of (fields_of value)) is ∙ sym (stated_fault key value back);
  represents = λ back represents at none. cc;
}

-- ---- as a list

-- the first sums are those of the first columns
take-columns : (sums : List ℕ) (n : ℕ) (sum_in : ℕ → ℕ) → n ≤ length sums → ((k : ℕ) → k < n → slice_index sums k ≡ sum_in k) → take n sums ≡ columns sum_in n
take-columns sums n sum_in few each = fill_by_all sum_in (take n sums) n 0 (length-take-le n sums few) (λ k below. get_or-take n sums k 0 below ∙ each k below)

-- the first columns of sums, if a line was added
abbrev first_of : Sums → ℕ → Option (List ℕ) → Option (List ℕ)
first_of s n others = if nat_lt 0 s.lines then Some (take n s.sums.items) else others

stated_now : (s : Sums) (n : ℕ) (key : StatedKey) (back : List Reading) (others : Option (List ℕ)) → n ≤ 64 → SumsAre s (λ k. sum_in key k back) (is_stated key back) → first_of s n others ≡ stated_or key n back others
stated_now s n key back others few is =
    let wide = s.wide in
    ap (λ b. if b then Some (take n s.sums.items) else others) is.given
    ∙ ap (λ l. if is_stated key back then Some l else others) (take-columns s.sums.items n (λ k. sum_in key k back) (omega (arith, few, wide)) (λ k below. is.sums k (omega (arith, few, below))))

some_first : (b : Bool) (x t : List ℕ) (others : Option (List ℕ)) → Some t ≡ (if b then Some x else None) → Some t ≡ (if b then Some x else others)
some_first true x t others is = is
some_first false x t others is = cc

none_first : (b : Bool) (x : List ℕ) (others : Option (List ℕ)) → None ≡ (if b then Some x else None) → others ≡ (if b then Some x else others)
none_first true x others is = cc
none_first false x others is = refl

module _ (totals summary : Sums) (n : ℕ) (few : n ≤ 64) (back : List Reading) (is : StatedIs (record { totals = totals; summary = summary }) back) where
  pub stated_totals : (t : List ℕ) → Some t ≡ first_of totals n None → Some t ≡ first_stated n back
  stated_totals t found = some_first (nat_lt 0 totals.lines) (take n totals.sums.items) t _ found ∙ stated_now totals n Totals back (stated_or Summary n back None) few (is.each Totals)

  pub stated_summary : (t : Option (List ℕ)) → None ≡ first_of totals n None → t ≡ first_of summary n None → t ≡ first_stated n back
  stated_summary t none found =
      found ∙ stated_now summary n Summary back None few (is.each Summary)
      ∙ none_first (nat_lt 0 totals.lines) (take n totals.sums.items) _ none
      ∙ stated_now totals n Totals back (stated_or Summary n back None) few (is.each Totals)
