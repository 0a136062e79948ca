-- The sums over the files that are held stay within their bound.
use Rattle.std.proofs.Common.{◌≡◌, ℕ, suc, ◌+◌, ◌≤◌, Bool, true, false, not, nat_lt, bytes_eq, if◌then◌else◌, List, [], ◌∷◌, ◌++◌, filter, sum_by, Some, None, refl, sym, ap₂, subst, ◌∙◌, arith}
use Rattle.std.specs.List.{list_any, AllByRecursion}
use Rattle.std.proofs.lemmas.Bool.Decides.{nat_tests}
use Rattle.std.proofs.lemmas.Bool.{and_parts, not-true, or_parts}
use Rattle.std.proofs.lemmas.List.Filters.{sum_by-filter_both}
use Rattle.std.proofs.lemmas.List.Sums.{sum_by-append, sum_by-cons}
use Rattle.cg_text.specs.Distinct.{are_distinct}
use Rattle.cost_rows.specs.Admit.{bound}
use Rattle.cost_rows.proofs.NamingLemmas.{same_bytes}
use Rattle.histories.specs.Formats.{Format}
use Rattle.byte_io.specs.Outcomes.{bytes_of}
use Rattle.histories.specs.Files.{events_of}
use Rattle.histories.specs.History.{Command, Import, History, File, held}
use Rattle.histories.specs.Legal.{IsLegal, IsHistory}
use Rattle.histories.specs.Sums.{Sum, self_column, call_column, calls_of, column_named, self_held, calls_cost_held, calls_held, self_sums, call_sums, sums_with, first_above, excess_of}
use Rattle.histories.specs.Told.{SumsFit}
use Rattle.histories.specs.declared.answers.Answer.{Answer}
use Rattle.histories.specs.declared.answers.Answer.TheVariants.{Run}
use Rattle.histories.specs.declared.answers.Excess.TheVariants.{CallCount}
use Rattle.histories.specs.declared.limits.Limits.{Limits}
use Rattle.histories.proofs.Distinct.{events_apart}
use Rattle.histories.proofs.Expected.{run_fits}
use Rattle.histories.proofs.Held.{stays, taken, held_more}
use Rattle.histories.proofs.Tests.{bytes-flip}
use Rattle.histories.proofs.StepsTo.{by_steps}

-- ---- no sum is above

not_above : (b n : ℕ) → nat_lt b n ≡ false → n ≤ b
not_above b n none = grind (arith, nat_tests)

abbrev Fits : Sum → Type 0
Fits s = s.sum ≤ bound

all_fit : (sums : List Sum) → first_above sums ≡ None → AllByRecursion Fits sums
all_fit [] none = tt
all_fit (s ∷ sums) none = let two = go (nat_lt bound s.sum) refl none in (two.0, all_fit sums two.1)
  where
    go : (b : Bool) → nat_lt bound s.sum ≡ b → (if b then Some s.of else first_above sums) ≡ None → Fits s × (first_above sums ≡ None)
    go true is none = absurd cc
    go false is none = (not_above bound s.sum is, none)

split : (xs ys : List Sum) → AllByRecursion Fits (xs ++ ys) → AllByRecursion Fits xs × AllByRecursion Fits ys
split [] ys all = (tt, all)
split (x ∷ xs) ys all = let two = split xs ys all.1 in ((all.0, two.0), two.1)

-- ---- of columns, by the names of their events

module _ (total : List ℕ → ℕ) (column : ℕ → ℕ) where
  -- each column fits beside the total of its event
  abbrev AreFit : ℕ → List (List ℕ) → Type 0
  AreFit k [] = Unit {0}
  AreFit k (event ∷ events) = (total event + column k ≤ bound) × AreFit (suc k) events

  none_named : (name : List ℕ) (k : ℕ) (events : List (List ℕ)) → list_any (bytes_eq name) events ≡ false → column_named name column k events ≡ 0
  none_named name k [] none = refl
  none_named name k (event ∷ events) none =
      let two = or_parts (bytes_eq name event) (list_any (bytes_eq name) events) none in
      ap₂ (λ b n. (if b then column k else 0) + n) (bytes-flip event name ∙ two.0) (none_named name (suc k) events two.1)

  alone : (n m : ℕ) → m ≡ 0 → n + m ≡ n
  alone n m none = omega (arith, none)

  -- so the column of a name does, which is that of one event, or none
  named_fits : (name : List ℕ) (k : ℕ) (events : List (List ℕ)) → are_distinct events ≡ true → total name ≤ bound → AreFit k events → total name + column_named name column k events ≤ bound
  named_fits name k [] distinct was fit = subst (λ n. n ≤ bound) (sym (alone (total name) 0 refl)) was
  named_fits name k (event ∷ events) distinct was fit =
      let two = and_parts (not (list_any (bytes_eq event) events)) (are_distinct events) distinct in
      go (bytes_eq event name) refl (not-true (list_any (bytes_eq event) events) two.0) (named_fits name (suc k) events two.1 was fit.1)
    where
      first : (n m : ℕ) → m ≡ 0 → n + m ≡ n
      first n m none = omega (arith, none)

      zero_more : (n m : ℕ) → n + (0 + m) ≡ n + m
      zero_more n m = omega arith

      go : (b : Bool) → bytes_eq event name ≡ b → list_any (bytes_eq event) events ≡ false → total name + column_named name column (suc k) events ≤ bound
          → total name + ((if b then column k else 0) + column_named name column (suc k) events) ≤ bound
      go true same none rest =
          let is : event ≡ name = same_bytes event name same in
          let zero : column_named name column (suc k) events ≡ 0 = none_named name (suc k) events (subst (λ n. list_any (bytes_eq n) events ≡ false) is none) in
          subst (λ n. total name + n ≤ bound) (sym (first (column k) (column_named name column (suc k) events) zero)) (subst (λ n. total n + column k ≤ bound) is fit.0)
      go false same none rest = subst (λ n. n ≤ bound) (sym (zero_more (total name) (column_named name column (suc k) events))) rest

self_fit : (files : List File) (column : ℕ → ℕ) (k : ℕ) (events : List (List ℕ)) → AllByRecursion Fits (self_sums files column k events) → AreFit (self_held files) column k events
self_fit files column k [] all = tt
self_fit files column k (event ∷ events) all = (all.0, self_fit files column (suc k) events all.1)

calls_fit : (files : List File) (column : ℕ → ℕ) (k : ℕ) (events : List (List ℕ)) → AllByRecursion Fits (call_sums files column k events) → AreFit (calls_cost_held files) column k events
calls_fit files column k [] all = tt
calls_fit files column k (event ∷ events) all = (all.0, calls_fit files column (suc k) events all.1)

-- ---- files that stay, and one more

module _ (m : File → ℕ) (p : File → Bool) where
  fewer : (files : List File) → sum_by m (filter p files) ≤ sum_by m files
  fewer files = let e = sum_by-filter_both p (λ f. not (p f)) (λ f. refl) m files in omega (arith, e)

  stay_fit : (files : List File) → sum_by m files ≤ bound → sum_by m (filter p files ++ []) ≤ bound
  stay_fit files was =
      let e = sum_by-append m (filter p files) [] in
      let less = fewer files in
      let none : sum_by m [] ≡ 0 = refl in
      low (sum_by m (filter p files ++ [])) (sum_by m (filter p files)) (sum_by m []) (sum_by m files) bound e none less was
    where
      low : (a b d files bound : ℕ) → a ≡ b + d → d ≡ 0 → b ≤ files → files ≤ bound → a ≤ bound
      low a b d files bound e none less was = omega arith

  more_fit : (files : List File) (f : File) → sum_by m files + m f ≤ bound → sum_by m (filter p files ++ f ∷ []) ≤ bound
  more_fit files f fit =
      let e = sum_by-append m (filter p files) (f ∷ []) in
      let one = sum_by-cons m f [] in
      let none : sum_by m [] ≡ 0 = refl in
      low (sum_by m (filter p files ++ f ∷ [])) (sum_by m (filter p files)) (sum_by m (f ∷ [])) (m f) (sum_by m []) (sum_by m files) bound e one none (fewer files) fit
    where
      low : (a b d one nothing files bound : ℕ) → a ≡ b + d → d ≡ one + nothing → nothing ≡ 0 → b ≤ files → files + one ≤ bound → a ≤ bound
      low a b d one nothing files bound e is none less fit = omega arith

-- ---- each step

left_fit : (p : File → Bool) (files : List File) → SumsFit files → SumsFit (filter p files ++ [])
left_fit p files was = record {
  self_cost = λ name. stay_fit (λ (f : File). column_named name (self_column f.format f.bytes) 0 (events_of f.format f.bytes)) p files (was.self_cost name);
  call_cost = λ name. stay_fit (λ (f : File). column_named name (call_column f.format f.bytes) 0 (events_of f.format f.bytes)) p files (was.call_cost name);
  call_count = stay_fit (λ (f : File). calls_of f.format f.bytes) p files was.call_count;
}

import_fit : (p : File → Bool) (files : List File) (number : ℕ) (format : Format) (label bytes : List ℕ) → SumsFit files → are_distinct (events_of format bytes) ≡ true → excess_of files format bytes ≡ None
    → SumsFit (filter p files ++ record { number = number; format = format; label = label; bytes = bytes } ∷ [])
import_fit p files number format label bytes was distinct none =
    let events : List (List ℕ) = events_of format bytes in
    let f : File = record { number = number; format = format; label = label; bytes = bytes } in
    let own : List Sum = self_sums files (self_column format bytes) 0 events in
    let calls : List Sum = call_sums files (call_column format bytes) 0 events in
    let count : List Sum = record { of = CallCount; sum = calls_held files + calls_of format bytes } ∷ [] in
    let costs = split (own ++ calls) count (all_fit (sums_with files format bytes) none) in
    let each = split own calls costs.0 in
    record {
      self_cost = λ name.
          more_fit (λ (f : File). column_named name (self_column f.format f.bytes) 0 (events_of f.format f.bytes)) p files f
          (named_fits (self_held files) (self_column format bytes) name 0 events distinct (was.self_cost name) (self_fit files (self_column format bytes) 0 events each.0));
      call_cost = λ name.
          more_fit (λ (f : File). column_named name (call_column f.format f.bytes) 0 (events_of f.format f.bytes)) p files f
          (named_fits (calls_cost_held files) (call_column format bytes) name 0 events distinct (was.call_cost name) (calls_fit files (call_column format bytes) 0 events each.1));
      call_count = more_fit (λ (f : File). calls_of f.format f.bytes) p files f costs.1.0;
    }

step_fits : (limits : Limits) (h : History) (command : Command) (answer : Answer) → IsLegal limits h command answer → SumsFit (held h) → SumsFit (filter (stays command answer) (held h) ++ taken command answer)
step_fits limits h (Import format label outcomes) (Run n) legal was =
    let two = run_fits limits h format label outcomes n legal in
    import_fit (stays (Import format label outcomes) (Run n)) (held h) n format label (bytes_of outcomes) was (events_apart format (bytes_of outcomes) two.0) two.1
step_fits limits h (Import format label outcomes) answer legal was = left_fit (stays (Import format label outcomes) answer) (held h) was
step_fits limits h command answer legal was = left_fit (stays command answer) (held h) was

no_sum : 0 ≤ bound
no_sum = omega arith

pub sums_fit : (h : History) → IsHistory h → SumsFit (held h)
sums_fit h is =
    by_steps (λ h. SumsFit (held h)) (record { self_cost = λ name. no_sum; call_cost = λ name. no_sum; call_count = no_sum })
    (λ limits h step is was legal. subst SumsFit (sym (held_more h step)) (step_fits limits h step.command step.answer legal was)) h is
