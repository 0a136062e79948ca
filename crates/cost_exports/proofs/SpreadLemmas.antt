-- Sums under the names of places are the sums of these places, one after another.
use Rattle.std.proofs.Common.{inl, inr, ◌≡◌, ℕ, ◌+◌, ◌≤◌, Bool, true, List, [], ◌∷◌, ◌++◌, Some, refl, sym, ap, ap₂, ◌∙◌, arith}
use Rattle.std.specs.declared.cmp.Ordering.{Ordering}
use Rattle.std.specs.declared.cmp.Ordering.TheVariants.{Less, Equal, Greater}
use Rattle.std.specs.Cmp.{IsTotalOrder}
use Rattle.std.specs.Cmp.Lexicographic.{nat_list_cmp_total}
use Rattle.std.specs.List.{AllByRecursion}
use Rattle.std.specs.List.Sorted.{IsStrictlySortedBy}
use Rattle.std.specs.Map.{lookup, keys_of}
use Rattle.std.specs.Ordering.{match_ordering, nat_cmp, ordering_then}
use Rattle.std.proofs.lemmas.Bool.{cases_Bool}
use Rattle.std.proofs.lemmas.Cmp.{on_total, then_total, tied_itself}
use Rattle.std.proofs.lemmas.Map.Keys.{sorted_head, sorted_tail}
use Rattle.cost_rows.specs.Keys.{named_cmp}
use Rattle.cost_rows.specs.Merging.{merge, TellsApart}
use Rattle.cost_rows.specs.Stacks.{bytes_cmp, counts_added}
use Rattle.cost_rows.specs.Sums.{Spot}
use Rattle.cost_rows.proofs.KeysLemmas.{named_cmp-total, named_cmp-apart}
use Rattle.cost_rows.proofs.MergeLemmas.{lower}
use Rattle.cost_rows.proofs.PlacesLemmas.{both_equal}
use Rattle.report_texts.specs.Amounts.{amount_of}
use Rattle.report_texts.specs.Csv.{EventSpot, event_spot_cmp}
use Rattle.cost_exports.specs.Views.{LineEvent, PlaceNames, line_cmp, lines_added, names_cmp, placed, spot_with, spread}
use Rattle.cost_exports.proofs.AmountLemmas.{sum-append}
use Rattle.cost_exports.proofs.StackLemmas.{bytes_apart}

-- ---- the orders

pub event_spot-total : IsTotalOrder event_spot_cmp
event_spot-total = then_total (on_total (λ (s : EventSpot). s.spot) named_cmp-total) (on_total (λ (s : EventSpot). s.event) nat_list_cmp_total)

pub event_spot-apart : TellsApart event_spot_cmp
event_spot-apart a b h =
    let both = both_equal (named_cmp a.spot b.spot) (bytes_cmp a.event b.event) h in
    let make : Spot → List ℕ → EventSpot = λ spot event. record { spot = spot; event = event } in
    ap₂ make (named_cmp-apart a.spot b.spot both.0) (bytes_apart a.event b.event both.1)

pub names-total : IsTotalOrder names_cmp
names-total =
    then_total (on_total (λ (n : PlaceNames). n.object) nat_list_cmp_total)
    (then_total (on_total (λ (n : PlaceNames). n.file) nat_list_cmp_total) (on_total (λ (n : PlaceNames). n.function) nat_list_cmp_total))

names-apart : TellsApart names_cmp
names-apart a b h =
    let first = both_equal (bytes_cmp a.object b.object) _ h in
    let second = both_equal (bytes_cmp a.file b.file) (bytes_cmp a.function b.function) first.1 in
    let make : List ℕ → List ℕ → List ℕ → PlaceNames = λ object file function. record { object = object; file = file; function = function } in
    ap (λ n. make n a.file a.function) (bytes_apart a.object b.object first.0)
    ∙ ap (λ n. make b.object n a.function) (bytes_apart a.file b.file second.0)
    ∙ ap (make b.object b.file) (bytes_apart a.function b.function second.1)

-- names first, then lines and events; none of the places tells a thread
grouped : (a b d e f : Ordering) → ordering_then (ordering_then a (ordering_then b (ordering_then d (ordering_then e Equal)))) f ≡ ordering_then (ordering_then a (ordering_then b d)) (ordering_then e f)
grouped Less b d e f = refl
grouped Greater b d e f = refl
grouped Equal Less d e f = refl
grouped Equal Greater d e f = refl
grouped Equal Equal Less e f = refl
grouped Equal Equal Greater e f = refl
grouped Equal Equal Equal Less f = refl
grouped Equal Equal Equal Greater f = refl
grouped Equal Equal Equal Equal f = refl

cmp-with : (p q : PlaceNames) (l m : LineEvent) → event_spot_cmp (spot_with p l) (spot_with q m) ≡ ordering_then (names_cmp p q) (line_cmp l m)
cmp-with p q l m = grouped (bytes_cmp p.object q.object) (bytes_cmp p.file q.file) (bytes_cmp p.function q.function) (nat_cmp l.line m.line) (bytes_cmp l.event m.event)

cmp-less : (p q : PlaceNames) (l m : LineEvent) → names_cmp p q ≡ Less → event_spot_cmp (spot_with p l) (spot_with q m) ≡ Less
cmp-less p q l m is = cmp-with p q l m ∙ ap (λ o. ordering_then o (line_cmp l m)) is

cmp-greater : (p q : PlaceNames) (l m : LineEvent) → names_cmp p q ≡ Greater → event_spot_cmp (spot_with p l) (spot_with q m) ≡ Greater
cmp-greater p q l m is = cmp-with p q l m ∙ ap (λ o. ordering_then o (line_cmp l m)) is

cmp-same : (p : PlaceNames) (l m : LineEvent) → event_spot_cmp (spot_with p l) (spot_with p m) ≡ line_cmp l m
cmp-same p l m = cmp-with p p l m ∙ ap (λ o. ordering_then o (line_cmp l m)) (tied_itself names-total p)

-- ---- where one more goes

abbrev merged : List (EventSpot × ℕ) → EventSpot → ℕ → List (EventSpot × ℕ)
merged es key n = merge event_spot_cmp counts_added es key n

abbrev AllAbove : EventSpot → List (EventSpot × ℕ) → Type 0
AllAbove key es = AllByRecursion (λ y. event_spot_cmp key y ≡ Less) (keys_of es)

in_front : (es : List (EventSpot × ℕ)) (key : EventSpot) (n : ℕ) → AllAbove key es → merged es key n ≡ (key, n) ∷ es
in_front [] key n all = refl
in_front (e ∷ es) key n all = ap (λ o. match_ordering o ((key, n) ∷ e ∷ es) ((e.0, e.1 + n) ∷ es) (e ∷ merged es key n)) all.0

above-placed : (p q : PlaceNames) (l : LineEvent) (lines : List (LineEvent × ℕ)) (rest : List (EventSpot × ℕ)) → names_cmp p q ≡ Less → AllAbove (spot_with p l) rest → AllAbove (spot_with p l) (placed q lines ++ rest)
above-placed p q l [] rest below all = all
above-placed p q l (e ∷ lines) rest below all = (cmp-less p q l e.0 below, above-placed p q l lines rest below all)

above-spread : (p : PlaceNames) (l : LineEvent) (places : List (PlaceNames × List (LineEvent × ℕ))) → AllByRecursion (λ q. names_cmp p q ≡ Less) (keys_of places) → AllAbove (spot_with p l) (spread places)
above-spread p l [] all = tt
above-spread p l (g ∷ places) all = above-placed p g.0 l g.1 (spread places) all.0 (above-spread p l places all.1)

-- among the lines of its own names
in_place : (p : PlaceNames) (l : LineEvent) (n : ℕ) (lines : List (LineEvent × ℕ)) (rest : List (EventSpot × ℕ)) → AllAbove (spot_with p l) rest
    → placed p (merge line_cmp counts_added lines l n) ++ rest ≡ merged (placed p lines ++ rest) (spot_with p l) n
in_place p l n [] rest above = sym (in_front rest (spot_with p l) n above)
in_place p l n (e ∷ lines) rest above =
    go (line_cmp l e.0) (in_place p l n lines rest above)
    ∙ ap (λ o. match_ordering o ((spot_with p l, n) ∷ (spot_with p e.0, e.1) ∷ placed p lines ++ rest) ((spot_with p e.0, e.1 + n) ∷ placed p lines ++ rest) ((spot_with p e.0, e.1) ∷ merged (placed p lines ++ rest) (spot_with p l) n))
    (sym (cmp-same p l e.0))
  where
    go : (o : Ordering) → placed p (merge line_cmp counts_added lines l n) ++ rest ≡ merged (placed p lines ++ rest) (spot_with p l) n
        → placed p (match_ordering o ((l, n) ∷ e ∷ lines) ((e.0, e.1 + n) ∷ lines) (e ∷ merge line_cmp counts_added lines l n)) ++ rest
        ≡ match_ordering o ((spot_with p l, n) ∷ (spot_with p e.0, e.1) ∷ placed p lines ++ rest) ((spot_with p e.0, e.1 + n) ∷ placed p lines ++ rest) ((spot_with p e.0, e.1) ∷ merged (placed p lines ++ rest) (spot_with p l) n)
    go Less further = refl
    go Equal further = refl
    go Greater further = ap (λ es. (spot_with p e.0, e.1) ∷ es) further

-- past the lines of lesser names
past : (p q : PlaceNames) (l : LineEvent) (n : ℕ) (lines : List (LineEvent × ℕ)) (rest : List (EventSpot × ℕ)) → names_cmp p q ≡ Greater
    → merged (placed q lines ++ rest) (spot_with p l) n ≡ placed q lines ++ merged rest (spot_with p l) n
past p q l n [] rest above = refl
past p q l n (e ∷ lines) rest above =
    ap (λ o. match_ordering o ((spot_with p l, n) ∷ (spot_with q e.0, e.1) ∷ placed q lines ++ rest) ((spot_with q e.0, e.1 + n) ∷ placed q lines ++ rest) ((spot_with q e.0, e.1) ∷ merged (placed q lines ++ rest) (spot_with p l) n))
    (cmp-greater p q l e.0 above)
    ∙ ap (λ es. (spot_with q e.0, e.1) ∷ es) (past p q l n lines rest above)

pub spread-merge : (places : List (PlaceNames × List (LineEvent × ℕ))) (p : PlaceNames) (l : LineEvent) (n : ℕ) → IsStrictlySortedBy names_cmp (keys_of places)
    → spread (merge names_cmp lines_added places p ((l, n) ∷ [])) ≡ merged (spread places) (spot_with p l) n
spread-merge [] p l n sorted = refl
spread-merge (g ∷ places) p l n sorted = go (names_cmp p g.0) refl (spread-merge places p l n (sorted_tail names_cmp g.0 (keys_of places) sorted))
  where
    higher : AllByRecursion (λ q. names_cmp g.0 q ≡ Less) (keys_of places)
    higher = sorted_head names_cmp g.0 (keys_of places) sorted

    go : (o : Ordering) → names_cmp p g.0 ≡ o → spread (merge names_cmp lines_added places p ((l, n) ∷ [])) ≡ merged (spread places) (spot_with p l) n
        → spread (match_ordering o ((p, (l, n) ∷ []) ∷ g ∷ places) ((g.0, lines_added g.1 ((l, n) ∷ [])) ∷ places) (g ∷ merge names_cmp lines_added places p ((l, n) ∷ [])))
        ≡ merged (placed g.0 g.1 ++ spread places) (spot_with p l) n
    go Less is further = sym (in_front (placed g.0 g.1 ++ spread places) (spot_with p l) n (above-placed p g.0 l g.1 (spread places) is (above-spread p l places (lower names-total p g.0 (keys_of places) is higher))))
    go Equal is further =
        in_place g.0 l n g.1 (spread places) (above-spread g.0 l places higher)
        ∙ ap (λ q. merged (placed g.0 g.1 ++ spread places) (spot_with q l) n) (sym (names-apart p g.0 is))
    go Greater is further = ap (λ es. placed g.0 g.1 ++ es) further ∙ sym (past p g.0 l n g.1 (spread places) is)

-- ---- what is under names is at most all

amount-placed : (p : PlaceNames) (lines : List (LineEvent × ℕ)) → amount_of (placed p lines) ≡ amount_of lines
amount-placed p [] = refl
amount-placed p (e ∷ lines) = ap (λ n. e.1 + n) (amount-placed p lines)

pub under-least : (test : PlaceNames → Bool) (places : List (PlaceNames × List (LineEvent × ℕ))) (lines : List (LineEvent × ℕ)) → Some lines ≡ lookup test places → amount_of lines ≤ amount_of (spread places)
under-least test [] lines found = cc
under-least test (g ∷ places) lines found = elim (cases_Bool (test g.0)) [
  | inl here ↦
      let same : Some lines ≡ Some g.1 = rw here at found in
      let is : lines ≡ g.1 = cc in
      let all = sum-append (λ _. true) (placed g.0 g.1) (spread places) in
      let one = ap amount_of is ∙ sym (amount-placed g.0 g.1) in
      omega (arith, all, one)
  | inr further ↦
      let rest : Some lines ≡ lookup test places = rw further at found in
      let least = under-least test places lines rest in
      let all = sum-append (λ _. true) (placed g.0 g.1) (spread places) in
      omega (arith, least, all)
]
