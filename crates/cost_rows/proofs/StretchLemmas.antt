-- Sums by key in one list: what is done to a stretch is done to the sums of its key.
use Rattle.std.proofs.Common.{inl, inr, ◌≡◌, ℕ, suc, ◌+◌, ◌≤◌, ◌<◌, ◌^◌, Bool, true, List, [], ◌∷◌, ◌++◌, length, take, drop, Option, Some, None, unwrap_or, option_map, is_some, Result, Ok, Err, OnErr, All, slice_index, refl, sym, ap, subst, ◌∙◌, arith, length-append, length-drop, length-take}
use Rattle.std.specs.declared.cmp.Ordering.{Ordering}
use Rattle.std.specs.Cmp.{IsTotalOrder}
use Rattle.std.specs.List.Sorted.{IsStrictlySortedBy}
use Rattle.std.specs.Map.{lookup, keys_of, values_of, set_value}
use Rattle.std.specs.BTreeMap.{is_at, insert_entry}
use Rattle.std.proofs.lemmas.List.{length-take-le, take-append-drop, take-append-le, drop-append-le, take_at, drop_at, take_all, take_more, append_assoc}
use Rattle.std.proofs.lemmas.List.Elements.{All-nil, All-weaker}
use Rattle.std.proofs.lemmas.Map.Made.{lookup-map_values}
use Rattle.std.proofs.lemmas.Slice.{drop-put_mid}
use borrow.Rule.Slice.PartMut.{put_mid, post_of}
use Rattle.profile_records.specs.Columns.{added, HaveRoom}
use Rattle.profile_records.proofs.ColumnsLemmas.{slice_index-added}
use Rattle.cost_rows.specs.Merging.{merge}
use Rattle.cost_rows.specs.Own.{valued}
use Rattle.cost_rows.specs.Stretches.{sums_at, IsWithin, AreApart, HaveSums}
use Rattle.cost_rows.specs.declared.stretches.Stretch.{Stretch}
use Rattle.cost_rows.proofs.MergeLemmas.{merge-held, merge-put}
use Rattle.cost_rows.proofs.OwnLemmas.{of_found, sorted-valued, insert-valued, valued-same, own-written, own-put}

-- ---- a list of sums

-- sums that come behind change no stretch
sums-kept : (sums more : List ℕ) (s : Stretch) → s.start + s.len ≤ length sums → sums_at (sums ++ more) s ≡ sums_at sums s
sums-kept sums more s within =
    ap (take s.len) (drop-append-le s.start sums more (omega arith))
    ∙ take-append-le s.len (drop s.start sums) more (omega (arith, length-drop s.start sums))

-- and are a stretch
sums-behind : (sums more : List ℕ) (s : Stretch) → s.start ≡ length sums → s.len ≡ length more → sums_at (sums ++ more) s ≡ more
sums-behind sums more s starts ends =
    ap (take s.len) (drop_at sums more s.start (sym starts)) ∙ take_all s.len more (omega (arith, ends))

pub no_sums : (sums : List ℕ) (s : Stretch) → s.len ≡ 0 → sums_at sums s ≡ []
no_sums sums s none = ap (λ n. take n (drop s.start sums)) none

pub length-sums : (sums : List ℕ) (s : Stretch) → s.start + s.len ≤ length sums → length (sums_at sums s) ≡ s.len
length-sums sums s within = length-take-le s.len (drop s.start sums) (omega (arith, length-drop s.start sums))

-- what is written over a stretch stands there
pub sums-written : (sums ys : List ℕ) (s : Stretch) (k : ℕ) → s.start + s.len ≤ length sums → length ys ≡ s.len → sums_at (put_mid s.start k sums ys) s ≡ ys
sums-written sums ys s k within size =
    ap (take s.len) (drop_at (take s.start sums) (ys ++ post_of s.start k sums) s.start (length-take-le s.start sums (omega arith)))
    ∙ take_at ys (post_of s.start k sums) s.len size

-- and changes no stretch that is apart from it
pub sums-apart : (sums ys : List ℕ) (held s : Stretch) (k : ℕ) → held.start + held.len ≤ length sums → k ≡ held.len → length ys ≡ k → s.start + s.len ≤ length sums → AreApart s held → sums_at (put_mid held.start k sums ys) s ≡ sums_at sums s
sums-apart sums ys held s k within is size inside (inl before) =
    let front : length (take held.start sums) ≡ held.start = length-take-le held.start sums (omega arith) in
    let fits : s.start + s.len ≤ length (take held.start sums) = omega (arith, front, before) in
    sums-kept (take held.start sums) (ys ++ post_of held.start k sums) s fits
    ∙ sym (sums-kept (take held.start sums) (drop held.start sums) s fits)
    ∙ ap (λ xs. sums_at xs s) (take-append-drop held.start sums)
sums-apart sums ys held s k within is size inside (inr behind) =
    ap (take s.len) (drop-put_mid held.start k sums ys s.start (omega (arith, is, behind)) (omega arith) size)

pub length-written : (sums ys : List ℕ) (s : Stretch) (k : ℕ) → s.start + s.len ≤ length sums → k ≡ s.len → length ys ≡ k → length (put_mid s.start k sums ys) ≡ length sums
length-written sums ys s k within is size =
    let post : List ℕ = post_of s.start k sums in
    let all = length-append (take s.start sums) (ys ++ post) in
    let front : length (take s.start sums) ≡ s.start = length-take-le s.start sums (omega arith) in
    omega (arith, all, front, size, is, length-append ys post, length-drop k (drop s.start sums), length-drop s.start sums)

swapped : (s t : Stretch) → AreApart s t → AreApart t s
swapped s t (inl before) = inr before
swapped s t (inr behind) = inl behind

-- ---- what a key has, if it is there

held-sums : (old : List ℕ) (found : Option Stretch) (none held : Stretch) → none.len ≡ 0 → held ≡ unwrap_or found none → sums_at old held ≡ unwrap_or (option_map (sums_at old) found) []
held-sums old None none held nothing here = ap (sums_at old) here ∙ no_sums old none nothing
held-sums old (Some s) none held nothing here = ap (sums_at old) here

pub held-there : (found : Option Stretch) (none held : Stretch) → is_some found ≡ true → held ≡ unwrap_or found none → found ≡ Some held
held-there None none held there here = absurd (cc)
held-there (Some s) none held there here = ap Some (sym here)

room-found : {K : Type 0} (test : K → Bool) (es : List (K × List ℕ)) (found : Option (List ℕ)) → All HaveRoom (values_of es) → lookup test es ≡ found → HaveRoom (unwrap_or found [])
room-found test es None room is = All-nil (λ s. s < 2 ^ 127)
room-found test es (Some sums) room is = of_found HaveRoom test es sums is room

pub held-room : {K : Type 0} (test : K → Bool) (es : List (K × Stretch)) (sums : List ℕ) (found : Option Stretch) (none held : Stretch) → All HaveRoom (values_of (valued (sums_at sums) es)) → found ≡ lookup test es → none.len ≡ 0 → held ≡ unwrap_or found none → HaveRoom (sums_at sums held)
held-room test es sums found none held room is nothing here =
    subst HaveRoom (sym (held-sums sums found none held nothing here))
    (room-found test (valued (sums_at sums) es) (option_map (sums_at sums) found) room (lookup-map_values (sums_at sums) test es ∙ ap (option_map (sums_at sums)) (sym is)))

pub held-within : {K : Type 0} (test : K → Bool) (es : List (K × Stretch)) (count : ℕ) (found : Option Stretch) (none held : Stretch) → All (IsWithin count) (values_of es) → found ≡ lookup test es → none.start ≡ 0 → none.len ≡ 0 → held ≡ unwrap_or found none → IsWithin count held
held-within test es count None none held all is start len here = subst (IsWithin count) (sym here) (omega (arith, start, len))
held-within test es count (Some s) none held all is start len here = subst (IsWithin count) (sym here) (of_found (IsWithin count) test es s (sym is) all)

-- ---- a key's sums are raised where they are

module _ {K : Type 0} (cmp : K → K → Ordering) (total : IsTotalOrder cmp) where
  -- costs that are added to a key's sums are merged
  pub raised-merged : (es : List (K × Stretch)) (old new : List ℕ) (held : Stretch) (key : K) (costs : List ℕ) → HaveSums es (length old) → IsStrictlySortedBy cmp (keys_of es) → lookup (is_at (cmp key)) es ≡ Some held
      → sums_at new held ≡ added (sums_at old held) costs → ((s : Stretch) → IsWithin (length old) s → AreApart s held → sums_at new s ≡ sums_at old s)
      → valued (sums_at new) es ≡ merge cmp added (valued (sums_at old) es) key costs
  raised-merged es old new held key costs own sorted found sums others =
      own-written AreApart swapped (IsWithin (length old)) (sums_at old) (sums_at new) held others (is_at (cmp key)) es found own
      ∙ ap (set_value (is_at (cmp key)) (valued (sums_at old) es)) sums
      ∙ merge-held total added (valued (sums_at old) es) key costs (sums_at old held) (sorted-valued (sums_at old) cmp es sorted)
      (lookup-map_values (sums_at old) (is_at (cmp key)) es ∙ ap (option_map (sums_at old)) found)

-- ---- a key's sums are put behind all others

-- where the sums so far still stand in front, each key has its sums
pub front-kept : {K : Type 0} (es : List (K × Stretch)) (old new : List ℕ) → All (IsWithin (length old)) (values_of es) → take (length old) new ≡ old → valued (sums_at new) es ≡ valued (sums_at old) es
front-kept es old new within front =
    let whole : new ≡ old ++ drop (length old) new = sym (take-append-drop (length old) new) ∙ ap (λ xs. xs ++ drop (length old) new) front in
    valued-same (sums_at old) (sums_at new) (IsWithin (length old)) (λ s inside. ap (λ xs. sums_at xs s) whole ∙ sums-kept old (drop (length old) new) s inside) es within

pub own-front : {K : Type 0} (es : List (K × Stretch)) (old new : List ℕ) → HaveSums es (length old) → take (length old) new ≡ old → HaveSums es (length new)
own-front es old new own front =
    let size : length (take (length old) new) ≡ length old = ap length front in
    let more : length old ≤ length new = omega (arith, size, length-take (length old) new) in
    record {
      within = All-weaker (IsWithin (length old)) (IsWithin (length new)) (λ s inside. omega (arith, inside, more)) (values_of es) own.within;
      apart = own.apart;
    }

-- the sums that are put behind are the key's own
pub sums-own : {K : Type 0} (cmp : K → K → Ordering) (es new : List (K × Stretch)) (sums more : List ℕ) (key : K) (s : Stretch) → HaveSums es (length sums) → s.start ≡ length sums → s.len ≡ length more → new ≡ insert_entry cmp es key s → HaveSums new (length (sums ++ more))
sums-own cmp es new sums more key s own starts ends put =
    let size = length-append sums more in
    own-put AreApart swapped (IsWithin (length sums)) (IsWithin (length (sums ++ more))) cmp es new key s own (λ t inside. omega (arith, inside, size)) (λ t inside. inl (omega (arith, inside, starts))) (omega (arith, starts, ends, size)) put

module _ {K : Type 0} (cmp : K → K → Ordering) (total : IsTotalOrder cmp) where
  -- and merged, with those that the key had
  pub put-merged : (es new : List (K × Stretch)) (old sums : List ℕ) (key : K) (found : Option Stretch) (none held s : Stretch) (costs : List ℕ) → HaveSums es (length old) → IsStrictlySortedBy cmp (keys_of es)
      → found ≡ lookup (is_at (cmp key)) es → none.len ≡ 0 → held ≡ unwrap_or found none → sums ≡ old ++ added (sums_at old held) costs → s.start ≡ length old → s.len ≡ length (added (sums_at old held) costs) → new ≡ insert_entry cmp es key s
      → valued (sums_at sums) new ≡ merge cmp added (valued (sums_at old) es) key costs
  put-merged es new old sums key found none held s costs own sorted is nothing here now starts ends put =
      let more : List ℕ = added (sums_at old held) costs in
      let entries : List (K × List ℕ) = valued (sums_at old) es in
      ap (λ xs. valued (sums_at xs) new) now
      ∙ ap (valued (sums_at (old ++ more))) put
      ∙ insert-valued (sums_at (old ++ more)) cmp es key s
      ∙ ap (insert_entry cmp (valued (sums_at (old ++ more)) es) key) (sums-behind old more s starts ends)
      ∙ ap (λ xs. insert_entry cmp xs key more) (valued-same (sums_at old) (sums_at (old ++ more)) (IsWithin (length old)) (λ t inside. sums-kept old more t inside) es own.within)
      ∙ ap (λ xs. insert_entry cmp entries key (added xs costs)) (held-sums old found none held nothing here)
      ∙ merge-put total added entries key costs [] (option_map (sums_at old) found) refl (sorted-valued (sums_at old) cmp es sorted) (lookup-map_values (sums_at old) (is_at (cmp key)) es ∙ ap (option_map (sums_at old)) (sym is))

-- ---- column by column

-- costs that are added to no more sums make as many
pub length-added_to : (sums costs : List ℕ) → length sums ≤ length costs → length (added sums costs) ≡ length costs
length-added_to [] costs short = refl
length-added_to (sum ∷ sums) [] short = absurd (omega arith)
length-added_to (sum ∷ sums) (cost ∷ costs) short = ap (λ n. suc n) (length-added_to sums costs (omega arith))

-- while the columns before k stand behind the sums, the stretch has its sums
pub sums-meanwhile : (old now more : List ℕ) (held : Stretch) (k : ℕ) → held.start + held.len ≤ length old → now ≡ old ++ take k more → sums_at now held ≡ sums_at old held
sums-meanwhile old now more held k within is = ap (λ xs. sums_at xs held) is ∙ sums-kept old (take k more) held within

-- then column k goes behind them
pub column-put : (old costs now next : List ℕ) (held : Stretch) (k n : ℕ) → held.start + held.len ≤ length old → held.len ≤ length costs → k < length costs → now ≡ old ++ take k (added (sums_at old held) costs)
    → n ≡ slice_index (sums_at now held) k + slice_index costs k → next ≡ now ++ n ∷ [] → next ≡ old ++ take (k + 1) (added (sums_at old held) costs)
column-put old costs now next held k n within short below is sum pushed =
    let more : List ℕ = added (sums_at old held) costs in
    let size : length more ≡ length costs = length-added_to (sums_at old held) costs (omega (arith, length-sums old held within)) in
    let here : n ≡ slice_index more k =
    sum ∙ ap (λ xs. slice_index xs k + slice_index costs k) (sums-meanwhile old now more held k within is) ∙ sym (slice_index-added (sums_at old held) costs k) in
    pushed ∙ ap (λ xs. xs ++ n ∷ []) is ∙ append_assoc old (take k more) (n ∷ [])
    ∙ ap (λ m. old ++ (take k more ++ m ∷ [])) here
    ∙ ap (λ xs. old ++ xs) (sym (take_more more k 0 (omega (arith, size))))

-- what is so anyway is so where there is an error
pub on_err : {T E P : Type 0} (r : Result T E) → P → OnErr r P
on_err (Ok x) holds = tt
on_err (Err e) holds = holds
