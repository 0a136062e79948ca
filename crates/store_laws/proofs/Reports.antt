-- Reports of the same files are the same.
use Rattle.std.proofs.Common.{◌≡◌, ℕ, ◌+◌, Bool, true, false, not, if◌then◌else◌, List, [], ◌∷◌, ◌++◌, map, flat_map, sum_by, refl, sym, ap, ap₂, ◌∙◌}
use Rattle.std.proofs.lemmas.List.Sums.{sum_by-cons}
use Rattle.cost_rows.specs.Sums.{Spot}
use Rattle.cost_rows.specs.declared.keys.Key.{Key}
use Rattle.cost_rows.specs.declared.keys.Key.TheVariants.{Function}
use Rattle.report_texts.specs.Calls.{Calls, all_calls, asked, call_report_of, call_report_text, calls_at, calls_of, other}
use Rattle.report_texts.specs.Costs.{EventRecords, all_costs, costs_of}
use Rattle.report_texts.specs.Differences.{difference_of, difference_text}
use Rattle.report_texts.specs.Functions.{is_one_function}
use Rattle.report_texts.specs.Inclusive.{count_of, frame_costs, functions_in, inclusive_costs, inclusive_report, inclusive_text, names_costs, outward_costs}
use Rattle.report_texts.specs.KeyReports.{report_of}
use Rattle.report_texts.specs.KeyTexts.{key_report_text}
use Rattle.report_texts.specs.declared.call_sides.CallSide.{CallSide}
use Rattle.report_texts.specs.declared.cuts.Cut.{Cut}
use Rattle.report_texts.specs.declared.pairs.Pair.{Pair}
use Rattle.profile_records.specs.Stacks.{Seen}
use Rattle.histories.specs.History.{File}
use Rattle.histories.specs.Legal.{no_event, no_name, when}
use Rattle.histories.specs.Reports.{by_text, calls_text, costs_of_files, event_records, event_stacks, has_event, inclusive_of_files, inclusive_records, knows, subtract_text}
use Rattle.histories.specs.declared.answers.Answer.TheVariants.{Refused}
use Rattle.histories.specs.declared.answers.Refusal.TheVariants as reasons
use Rattle.store_laws.specs.SameFiles.{AreSameFiles, format_and_bytes}
use Rattle.store_laws.proofs.Alike.{Alike, both_alike, pairs_alike, pieces_alike, sums_alike, total_alike}
use Rattle.store_laws.proofs.FilesAlike.{bare, said_alike, same_any, same_any_of_both}

pub seen_as : {A : Type 0} (xs ys us vs : List A) → xs ≡ us → ys ≡ vs → Alike us vs → Alike xs ys
seen_as xs ys us vs one other same m = ap (sum_by m) one ∙ same m ∙ ap (sum_by m) (sym other)

-- ---- costs and calls of files, each as records of an event

module _ (records : File → EventRecords) (told : (f : File) → records f ≡ records (bare (format_and_bytes f))) where
  costs_piece : File → List (Spot × ℕ)
  costs_piece f = costs_of (records f).coefs (records f).records

  costs_said : (files : List File) → all_costs (map records files) ≡ flat_map costs_piece files
  unfolding costs_piece
  costs_said [] = refl
  costs_said (f ∷ files) = ap (λ l. costs_of (records f).coefs (records f).records ++ l) (costs_said files)

  pub costs_alike : (files others : List File) → AreSameFiles files others → Alike (all_costs (map records files)) (all_costs (map records others))
  unfolding costs_piece
  costs_alike files others same = seen_as (all_costs (map records files)) (all_costs (map records others)) (flat_map costs_piece files) (flat_map costs_piece others) (costs_said files) (costs_said others)
      (said_alike costs_piece (λ f. ap (λ (e : EventRecords). costs_of e.coefs e.records) (told f)) files others same)

  calls_piece : File → List Calls
  calls_piece f = calls_of (records f).coefs (records f).records

  calls_said : (files : List File) → all_calls (map records files) ≡ flat_map calls_piece files
  unfolding calls_piece
  calls_said [] = refl
  calls_said (f ∷ files) = ap (λ l. calls_of (records f).coefs (records f).records ++ l) (calls_said files)

  pub calls_alike : (files others : List File) → AreSameFiles files others → Alike (all_calls (map records files)) (all_calls (map records others))
  unfolding calls_piece
  calls_alike files others same = seen_as (all_calls (map records files)) (all_calls (map records others)) (flat_map calls_piece files) (flat_map calls_piece others) (calls_said files) (calls_said others)
      (said_alike calls_piece (λ f. ap (λ (e : EventRecords). calls_of e.coefs e.records) (told f)) files others same)

-- ---- by key

pub same_costs : (key : Key) (event : List ℕ) (files others : List File) → AreSameFiles files others → costs_of_files key event files ≡ costs_of_files key event others
same_costs key event files others same = sums_alike key (all_costs (map (event_records event) files)) (all_costs (map (event_records event) others)) (costs_alike (event_records event) (λ f. refl) files others same)

pub same_by : (key : Key) (event : List ℕ) (cut : Cut) (files others : List File) → AreSameFiles files others → by_text files key event cut ≡ by_text others key event cut
same_by key event cut files others same = ap (λ sums. key_report_text event (report_of key cut sums)) (same_costs key event files others same)

pub same_difference : (key : Key) (event : List ℕ) (xs ys us vs : List File) → AreSameFiles xs us → AreSameFiles ys vs → subtract_text key event xs ys ≡ subtract_text key event us vs
same_difference key event xs ys us vs one other =
    ap₂ (λ firsts seconds. difference_text event (difference_of key firsts seconds)) (same_costs key event xs us one) (same_costs key event ys vs other)

-- ---- calls

module _ (side : CallSide) (f : Spot) where
  at_piece : Calls → List (Spot × Pair)
  at_piece c = if is_one_function f (asked side c) then (other side c, c.sum) ∷ [] else []

  at_said : (calls : List Calls) → calls_at side f calls ≡ flat_map at_piece calls
  unfolding at_piece
  at_said [] = refl
  at_said (c ∷ calls) = go (is_one_function f (asked side c)) (at_said calls)
    where
      go : (b : Bool) → calls_at side f calls ≡ flat_map at_piece calls
          → (if b then (other side c, c.sum) ∷ calls_at side f calls else calls_at side f calls) ≡ (if b then (other side c, c.sum) ∷ [] else []) ++ flat_map at_piece calls
      go true rest = ap (λ l. (other side c, c.sum) ∷ l) rest
      go false rest = rest

  at_alike : (calls more : List Calls) → Alike calls more → Alike (calls_at side f calls) (calls_at side f more)
  at_alike calls more same =
      seen_as (calls_at side f calls) (calls_at side f more) (flat_map at_piece calls) (flat_map at_piece more) (at_said calls) (at_said more) (pieces_alike at_piece calls more same)

  pub same_calls : (event : List ℕ) (files others : List File) → AreSameFiles files others → calls_text side f files event ≡ calls_text side f others event
  same_calls event files others same =
      ap (λ sums. call_report_text event (call_report_of (record { side = side; function = f; sums = sums })))
      (pairs_alike (calls_at side f calls) (calls_at side f more) (at_alike calls more (calls_alike (event_records event) (λ f. refl) files others same)))
    where
      calls : List Calls
      calls = all_calls (map (event_records event) files)

      more : List Calls
      more = all_calls (map (event_records event) others)

-- ---- inclusive costs

outward_piece : Calls → List (Spot × ℕ)
outward_piece c = if is_one_function c.caller c.callee then [] else (c.caller, c.sum.first) ∷ []

outward_said : (calls : List Calls) → outward_costs calls ≡ flat_map outward_piece calls
unfolding outward_piece
outward_said [] = refl
outward_said (c ∷ calls) = go (is_one_function c.caller c.callee) (outward_said calls)
  where
    go : (b : Bool) → outward_costs calls ≡ flat_map outward_piece calls
        → (if b then outward_costs calls else (c.caller, c.sum.first) ∷ outward_costs calls) ≡ (if b then [] else (c.caller, c.sum.first) ∷ []) ++ flat_map outward_piece calls
    go true rest = rest
    go false rest = ap (λ l. (c.caller, c.sum.first) ∷ l) rest

outward_alike : (calls more : List Calls) → Alike calls more → Alike (outward_costs calls) (outward_costs more)
outward_alike calls more same =
    seen_as (outward_costs calls) (outward_costs more) (flat_map outward_piece calls) (flat_map outward_piece more) (outward_said calls) (outward_said more) (pieces_alike outward_piece calls more same)

frame_piece : Seen → List (Spot × ℕ)
frame_piece s = names_costs s.stack.count (functions_in s.stack.frames)

frames_said : (seen : List Seen) → frame_costs seen ≡ flat_map frame_piece seen
unfolding frame_piece
frames_said [] = refl
frames_said (s ∷ seen) = ap (λ l. names_costs s.stack.count (functions_in s.stack.frames) ++ l) (frames_said seen)

frames_alike : (seen more : List Seen) → Alike seen more → Alike (frame_costs seen) (frame_costs more)
frames_alike seen more same =
    seen_as (frame_costs seen) (frame_costs more) (flat_map frame_piece seen) (flat_map frame_piece more) (frames_said seen) (frames_said more) (pieces_alike frame_piece seen more same)

counts_said : (seen : List Seen) → count_of seen ≡ sum_by (λ (s : Seen). s.stack.count) seen
counts_said [] = refl
counts_said (s ∷ seen) = ap (λ n. s.stack.count + n) (counts_said seen) ∙ sym (sum_by-cons (λ (s : Seen). s.stack.count) s seen)

-- costs, calls and stacks that add up alike have the same inclusive costs
inclusive_alike : (files others : List EventRecords) (seen more : List Seen) → Alike (all_costs files) (all_costs others) → Alike (all_calls files) (all_calls others) → Alike seen more
    → inclusive_costs files seen ≡ inclusive_costs others more
inclusive_alike files others seen more costs calls stacks =
    ap₂ (λ sums total. record { sums = sums; total = total })
    (sums_alike Function (own ++ (outward_costs (all_calls files) ++ frame_costs seen)) (other ++ (outward_costs (all_calls others) ++ frame_costs more))
    (both_alike own (outward_costs (all_calls files) ++ frame_costs seen) other (outward_costs (all_calls others) ++ frame_costs more) costs
    (both_alike (outward_costs (all_calls files)) (frame_costs seen) (outward_costs (all_calls others)) (frame_costs more)
    (outward_alike (all_calls files) (all_calls others) calls) (frames_alike seen more stacks))))
    (ap₂ ◌+◌ (total_alike own other costs) (counts_said seen ∙ stacks (λ (s : Seen). s.stack.count) ∙ sym (counts_said more)))
  where
    own : List (Spot × ℕ)
    own = all_costs files

    other : List (Spot × ℕ)
    other = all_costs others

pub same_inclusive : (event : List ℕ) (files others : List File) → AreSameFiles files others → inclusive_of_files files event ≡ inclusive_of_files others event
same_inclusive event files others same =
    ap (λ costs. inclusive_text event (inclusive_report costs))
    (inclusive_alike (map (inclusive_records event) files) (map (inclusive_records event) others) (flat_map (event_stacks event) files) (flat_map (event_stacks event) others)
    (costs_alike (inclusive_records event) (λ f. refl) files others same) (calls_alike (inclusive_records event) (λ f. refl) files others same)
    (said_alike (event_stacks event) (λ f. refl) files others same))

-- ---- what is refused

pub same_event : (event : List ℕ) (files others : List File) → AreSameFiles files others → no_event event files ≡ no_event event others
same_event event files others same = ap (λ b. when (not b) (Refused reasons.NoSuchEvent)) (same_any (has_event event) (λ f. refl) files others same)

pub same_event_of_both : (event : List ℕ) (xs ys us vs : List File) → AreSameFiles xs us → AreSameFiles ys vs → no_event event (xs ++ ys) ≡ no_event event (us ++ vs)
same_event_of_both event xs ys us vs one more =
    ap (λ b. when (not b) (Refused reasons.NoSuchEvent)) (same_any_of_both (has_event event) (λ f. refl) xs ys us vs one more)

pub same_name : (f : Spot) (files others : List File) → AreSameFiles files others → no_name f files ≡ no_name f others
same_name f files others same = ap (λ b. when (not b) (Refused reasons.NoSuchName)) (same_any (knows f) (λ _. refl) files others same)
