-- The rows of merged records sum to what the records sum to.
use Rattle.std.proofs.Common.{◌≡◌, ℕ, ◌+◌, ◌<◌, ◌≤◌, zero, suc, Bool, true, false, ◌||◌, List, [], ◌∷◌, ◌++◌, length, fold, slice_index, Some, unwrap_or, if◌then◌else◌, refl, sym, ap, ap₂, ◌∙◌, subst, arith, add_assoc, length-append}
use Rattle.std.proofs.Math.Nat.{add-zero, zero-add}
use Rattle.std.proofs.Math.Bool.{or-false}
use Rattle.std.specs.List.{AllByRecursion, list_any, slice_get}
use Rattle.std.specs.Map.{keys_of}
use Rattle.profile_records.specs.Records.{Cost, Callee, Record, Own, Called}
use Rattle.cost_rows.specs.Naming.{place_of, with_name}
use Rattle.profile_records.specs.Columns.{added}
use Rattle.cost_rows.specs.Calls.{Calls, calls_added}
use Rattle.cost_rows.specs.Growing.{Grows}
use Rattle.cost_rows.specs.Held.{IsHeld, CellHeld, CallHeld, AreHeld}
use Rattle.cost_rows.specs.Merging.{sum_where}
use Rattle.cost_rows.specs.Places.{cell_cmp, call_cmp}
use Rattle.cost_rows.specs.Content.{Content, empty, number_of, with_three, names_with_cost, names_with_callee, place_of_cost, cell_of, call_of, calls_of, with_cost, with_call, with_record}
use Rattle.cost_rows.specs.Trimmed.{trimmed}
use Rattle.cost_rows.specs.Sums.{Spot, spot_of, callee_spot, name_at, spot_at, callee_at, passing_cell, passing_call, cells_where, calls_where, counts_where, content_of_records, SumsToRecords, self_sum, call_sum, count_sum, has_edge, has_call, cell_spot, caller_spot}
use Rattle.cost_rows.specs.declared.places.CellPlace.{CellPlace}
use Rattle.cost_rows.specs.declared.places.Call.{Call}
use Rattle.cost_rows.proofs.NamingLemmas.{at_place}
use Rattle.profile_records.proofs.ColumnsLemmas.{slice_index-added}
use Rattle.cost_rows.proofs.GrowingLemmas.{grows-more, grows-with, kept-by_three, held-three}
use Rattle.cost_rows.proofs.MergeLemmas.{all-merge, sum-merge, keys-merge}
use Rattle.cost_rows.proofs.PlacesLemmas.{cell_cmp-apart, call_cmp-apart}
use Rattle.cost_rows.proofs.TrimmedLemmas.{column-trimmed}

-- ---- names by their numbers

name-kept : (names more : List (List ℕ)) (n : ℕ) → n < length names → name_at (names ++ more) n ≡ name_at names n
name-kept [] more n below = absurd (omega arith)
name-kept (x ∷ names) more zero below = refl
name-kept (x ∷ names) more (suc n) below = name-kept names more n (omega arith)

name-found : (names : List (List ℕ)) (n : ℕ) (name : List ℕ) → slice_get names n ≡ Some name → (name_at names n ≡ name) × (n < length names)
name-found [] n name h = absurd (cc)
name-found (x ∷ names) zero name h = let e : x ≡ name = cc in (e, omega arith)
name-found (x ∷ names) (suc n) name h = let rest = name-found names n name h in (rest.0, (let b = rest.1 in omega arith))

-- a name that is held stands at its number
number-names : (names : List (List ℕ)) (name : List ℕ) (n : ℕ) → place_of name names ≡ Some n → (name_at names (number_of name names) ≡ name) × (number_of name names < length names)
number-names names name n h =
    let is : number_of name names ≡ n = ap (λ o. unwrap_or o 0) h in
    let found = name-found names n name (at_place names name n h) in
    (ap (name_at names) is ∙ found.0, subst (λ (m : ℕ). m < length names) (sym is) found.1)

same_spot : (a b d a' b' d' : List ℕ) (line : ℕ) → a ≡ a' → b ≡ b' → d ≡ d' → ◌≡◌ {A = Spot} (record { object = a; file = b; function = d; line = line; thread = 0 }) (record { object = a'; file = b'; function = d'; line = line; thread = 0 })
same_spot a b d a' b' d' line x y z =
    let P : List ℕ → List ℕ → List ℕ → Spot = λ u v w. record { object = u; file = v; function = w; line = line; thread = 0 } in
    let e : P a b d ≡ P a' b' d' = ap (λ u. P u b d) x ∙ ap (λ v. P a' v d) y ∙ ap (P a' b') z in
    e

spot-kept : (names new : List (List ℕ)) (a b d line : ℕ) → Grows names new → IsHeld names a b d → ◌≡◌ {A = Spot} (record { object = name_at new a; file = name_at new b; function = name_at new d; line = line; thread = 0 }) (record { object = name_at names a; file = name_at names b; function = name_at names d; line = line; thread = 0 })
spot-kept names new a b d line grows held =
    let at : (n : ℕ) → n < length names → name_at new n ≡ name_at names n = λ n below. ap (λ ns. name_at ns n) grows.1 ∙ name-kept names grows.0 n below in
    same_spot (name_at new a) (name_at new b) (name_at new d) (name_at names a) (name_at names b) (name_at names d) line (at a held.0) (at b held.1) (at d held.2)

held-kept : (names new : List (List ℕ)) (a b d : ℕ) → Grows names new → IsHeld names a b d → IsHeld new a b d
held-kept names new a b d grows held =
    let more : length names ≤ length new = omega (arith, ap length grows.1, length-append names grows.0) in
    (omega (arith, held.0), omega (arith, held.1), omega (arith, held.2))

-- ---- keys

all-weaker : {K : Type 0} (P Q : K → Type 0) (ks : List K) → ((k : K) → P k → Q k) → AllByRecursion P ks → AllByRecursion Q ks
all-weaker P Q [] weaker all = tt
all-weaker P Q (k ∷ ks) weaker all = (weaker k all.0, all-weaker P Q ks weaker all.1)

-- two tests that agree at each key give one sum
sum-same : {K X : Type 0} (p q : K → Bool) (f : X → ℕ) (es : List (K × X)) → AllByRecursion (λ k. p k ≡ q k) (keys_of es) → sum_where p f es ≡ sum_where q f es
sum-same p q f [] same = refl
sum-same p q f (e ∷ es) same =
    ap (λ b. (if b then f e.1 else 0) + sum_where p f es) same.0
    ∙ ap (λ n. (if q e.0 then f e.1 else 0) + n) (sum-same p q f es same.1)

-- and find the same
any-same : {K : Type 0} (p q : K → Bool) (ks : List K) → AllByRecursion (λ k. p k ≡ q k) ks → list_any p ks ≡ list_any q ks
any-same p q [] same = refl
any-same p q (k ∷ ks) same = ap₂ ◌||◌ same.0 (any-same p q ks same.1)

cells-kept : (passes : Spot → Bool) (f : List ℕ → ℕ) (names new : List (List ℕ)) (cells : List (CellPlace × List ℕ)) → Grows names new → AllByRecursion (CellHeld names) (keys_of cells)
    → sum_where (passing_cell passes new) f cells ≡ sum_where (passing_cell passes names) f cells
cells-kept passes f names new cells grows held =
    sum-same (passing_cell passes new) (passing_cell passes names) f cells
    (all-weaker (CellHeld names) (λ p. passing_cell passes new p ≡ passing_cell passes names p) (keys_of cells)
    (λ p h. ap (λ (s : Spot). passes (record s { thread = p.thread })) (spot-kept names new p.place.object p.place.file p.place.function p.place.line grows h)) held)

-- a test of calls is answered the same among more names
tests-kept : (passes : Spot → Spot → Bool) (names new : List (List ℕ)) (edges : List (Call × Calls)) → Grows names new → AllByRecursion (CallHeld names) (keys_of edges)
    → AllByRecursion (λ a. passing_call passes new a ≡ passing_call passes names a) (keys_of edges)
tests-kept passes names new edges grows held =
    all-weaker (CallHeld names) (λ a. passing_call passes new a ≡ passing_call passes names a) (keys_of edges)
    (λ a h. ap (λ s. passes s (callee_at new a)) (spot-kept names new a.place.object a.place.file a.place.function a.place.line grows h.0)
    ∙ ap (passes (spot_at names a.place)) (spot-kept names new a.object a.file a.function 0 grows h.1)) held

edges-kept : (passes : Spot → Spot → Bool) (f : Calls → ℕ) (names new : List (List ℕ)) (edges : List (Call × Calls)) → Grows names new → AllByRecursion (CallHeld names) (keys_of edges)
    → sum_where (passing_call passes new) f edges ≡ sum_where (passing_call passes names) f edges
edges-kept passes f names new edges grows held = sum-same (passing_call passes new) (passing_call passes names) f edges (tests-kept passes names new edges grows held)

has-kept : (passes : Spot → Spot → Bool) (names new : List (List ℕ)) (edges : List (Call × Calls)) → Grows names new → AllByRecursion (CallHeld names) (keys_of edges)
    → list_any (passing_call passes new) (keys_of edges) ≡ list_any (passing_call passes names) (keys_of edges)
has-kept passes names new edges grows held = any-same (passing_call passes new) (passing_call passes names) (keys_of edges) (tests-kept passes names new edges grows held)

held-grows : (names new : List (List ℕ)) (cells : List (CellPlace × List ℕ)) → Grows names new → AllByRecursion (CellHeld names) (keys_of cells) → AllByRecursion (CellHeld new) (keys_of cells)
held-grows names new cells grows held = all-weaker (CellHeld names) (CellHeld new) (keys_of cells) (λ p h. held-kept names new p.place.object p.place.file p.place.function grows h) held

edges-grow : (names new : List (List ℕ)) (edges : List (Call × Calls)) → Grows names new → AllByRecursion (CallHeld names) (keys_of edges) → AllByRecursion (CallHeld new) (keys_of edges)
edges-grow names new edges grows held =
    all-weaker (CallHeld names) (CallHeld new) (keys_of edges)
    (λ a h. (held-kept names new a.place.object a.place.file a.place.function grows h.0, held-kept names new a.object a.file a.function grows h.1)) held

grows-three : (names : List (List ℕ)) (object file function : List ℕ) → Grows names (with_three object file function names)
grows-three names object file function =
    grows-more names (with_name file (with_name object names)) (with_three object file function names)
    (grows-more names (with_name object names) (with_name file (with_name object names)) (grows-with names object) (grows-with (with_name object names) file))
    (grows-with (with_name file (with_name object names)) function)

-- the numbers of three held names represent them
abbrev Named : List (List ℕ) → List ℕ → List ℕ → List ℕ → Type 0
Named names object file function =
    (name_at names (number_of object names) ≡ object) × (name_at names (number_of file names) ≡ file) × (name_at names (number_of function names) ≡ function)
    × IsHeld names (number_of object names) (number_of file names) (number_of function names)

named : (names : List (List ℕ)) (object file function : List ℕ) (o f u : ℕ) → place_of object names ≡ Some o → place_of file names ≡ Some f → place_of function names ≡ Some u → Named names object file function
named names object file function o f u one two three =
    let a = number-names names object o one in
    let b = number-names names file f two in
    let d = number-names names function u three in
    (a.0, b.0, d.0, (a.1, b.1, d.1))

named-three : (names : List (List ℕ)) (object file function : List ℕ) → Named (with_three object file function names) object file function
named-three names object file function =
    let held = held-three names object file function in
    named (with_three object file function names) object file function held.0.0 held.1.0 held.2.0 held.0.1 held.1.1 held.2.1

-- the same after three more names
named-then : (names : List (List ℕ)) (object file function a b d : List ℕ) → Named (with_three a b d (with_three object file function names)) object file function
named-then names object file function a b d =
    let mid = with_three object file function names in
    let held = held-three names object file function in
    named (with_three a b d mid) object file function held.0.0 held.1.0 held.2.0
    (kept-by_three mid a b d object held.0.0 held.0.1) (kept-by_three mid a b d file held.1.0 held.1.1) (kept-by_three mid a b d function held.2.0 held.2.1)

-- ---- one more record

pub held-cost : (c : Content) (cost : Cost) → AreHeld c → AreHeld (with_cost c cost)
held-cost c cost held =
    let new = names_with_cost cost c.names in
    let grows = grows-three c.names cost.object cost.file cost.function in
    let is = named-three c.names cost.object cost.file cost.function in
    record {
      cells = all-merge cell_cmp added (CellHeld new) c.cells (cell_of new cost) (trimmed cost.costs) (held-grows c.names new c.cells grows held.cells) is.3;
      calls = edges-grow c.names new c.calls grows held.calls;
    }

held-call : (c : Content) (callee : Callee) (cost : Cost) → AreHeld c → AreHeld (with_call c callee cost)
held-call c callee cost held =
    let mid = names_with_cost cost c.names in
    let new = names_with_callee callee mid in
    let grows = grows-more c.names mid new (grows-three c.names cost.object cost.file cost.function) (grows-three mid callee.object callee.file callee.function) in
    let caller = named-then c.names cost.object cost.file cost.function callee.object callee.file callee.function in
    let called = named-three mid callee.object callee.file callee.function in
    record {
      cells = held-grows c.names new c.cells grows held.cells;
      calls = all-merge call_cmp calls_added (CallHeld new) c.calls (call_of new callee cost) (calls_of callee cost) (edges-grow c.names new c.calls grows held.calls) (caller.3, called.3);
    }

pub cells-cost : (passes : Spot → Bool) (k : ℕ) (c : Content) (cost : Cost) → AreHeld c
    → cells_where passes k (with_cost c cost) ≡ cells_where passes k c + (if passes (spot_of cost) then slice_index cost.costs k else 0)
cells-cost passes k c cost held =
    let new = names_with_cost cost c.names in
    let is = named-three c.names cost.object cost.file cost.function in
    let spot : cell_spot new (cell_of new cost) ≡ spot_of cost = ap (λ (s : Spot). let at : Spot = record s { thread = cost.thread } in at) (same_spot _ _ _ _ _ _ cost.line is.0 is.1 is.2) in
    sum-merge cell_cmp-apart added (passing_cell passes new) (λ v. slice_index v k) (λ x y. slice_index-added x y k) c.cells (cell_of new cost) (trimmed cost.costs)
    ∙ ap (λ m. sum_where (passing_cell passes new) (λ v. slice_index v k) c.cells + (if passing_cell passes new (cell_of new cost) then m else 0)) (column-trimmed cost.costs k)
    ∙ ap (λ n. n + (if passing_cell passes new (cell_of new cost) then slice_index cost.costs k else 0))
    (cells-kept passes (λ v. slice_index v k) c.names new c.cells (grows-three c.names cost.object cost.file cost.function) held.cells)
    ∙ ap (λ s. cells_where passes k c + (if passes s then slice_index cost.costs k else 0)) spot

-- the calls of a record, by the names that it leaves
call-named : (passes : Spot → Spot → Bool) (c : Content) (callee : Callee) (cost : Cost)
    → passing_call passes (with_call c callee cost).names (call_of (with_call c callee cost).names callee cost) ≡ passes (caller_spot cost) (callee_spot callee)
call-named passes c callee cost =
    let mid = names_with_cost cost c.names in
    let new = names_with_callee callee mid in
    let caller = named-then c.names cost.object cost.file cost.function callee.object callee.file callee.function in
    let called = named-three mid callee.object callee.file callee.function in
    let place : spot_at new (place_of_cost new cost) ≡ caller_spot cost = same_spot _ _ _ _ _ _ cost.line caller.0 caller.1 caller.2 in
    let whom : callee_at new (call_of new callee cost) ≡ callee_spot callee = same_spot _ _ _ _ _ _ 0 called.0 called.1 called.2 in
    ap₂ passes place whom

call-grows : (c : Content) (callee : Callee) (cost : Cost) → Grows c.names (with_call c callee cost).names
call-grows c callee cost =
    let mid = names_with_cost cost c.names in
    grows-more c.names mid (names_with_callee callee mid) (grows-three c.names cost.object cost.file cost.function) (grows-three mid callee.object callee.file callee.function)

edges-call : (passes : Spot → Spot → Bool) (f : Calls → ℕ) (adds : (x y : Calls) → f (calls_added x y) ≡ f x + f y) (c : Content) (callee : Callee) (cost : Cost) → AreHeld c
    → sum_where (passing_call passes (with_call c callee cost).names) f (with_call c callee cost).calls ≡ sum_where (passing_call passes c.names) f c.calls + (if passes (caller_spot cost) (callee_spot callee) then f (calls_of callee cost) else 0)
edges-call passes f adds c callee cost held =
    let new = (with_call c callee cost).names in
    let more : Calls = calls_of callee cost in
    sum-merge call_cmp-apart calls_added (passing_call passes new) f adds c.calls (call_of new callee cost) more
    ∙ ap₂ (λ n b. n + (if b then f more else 0)) (edges-kept passes f c.names new c.calls (call-grows c callee cost) held.calls) (call-named passes c callee cost)

has-call : (passes : Spot → Spot → Bool) (c : Content) (callee : Callee) (cost : Cost) → AreHeld c
    → has_edge passes (with_call c callee cost) ≡ passes (caller_spot cost) (callee_spot callee) || has_edge passes c
has-call passes c callee cost held =
    let new = (with_call c callee cost).names in
    keys-merge call_cmp-apart calls_added (passing_call passes new) c.calls (call_of new callee cost) (calls_of callee cost)
    ∙ ap₂ ◌||◌ (call-named passes c callee cost) (has-kept passes c.names new c.calls (call-grows c callee cost) held.calls)

-- ---- all records

law-cells : (passes : Spot → Bool) (k : ℕ) (records : List Record) (c : Content) → AreHeld c
    → cells_where passes k (fold with_record c records) ≡ cells_where passes k c + self_sum passes k records
law-cells passes k [] c held = sym (add-zero _)
law-cells passes k (Own cost ∷ records) c held =
    law-cells passes k records (with_cost c cost) (held-cost c cost held)
    ∙ ap (λ n. n + self_sum passes k records) (cells-cost passes k c cost held)
    ∙ add_assoc (cells_where passes k c) (if passes (spot_of cost) then slice_index cost.costs k else 0) (self_sum passes k records)
law-cells passes k (Called callee cost ∷ records) c held =
    law-cells passes k records (with_call c callee cost) (held-call c callee cost held)
    ∙ ap (λ n. n + self_sum passes k records) (cells-kept passes (λ v. slice_index v k) c.names (with_call c callee cost).names c.cells (call-grows c callee cost) held.cells)

-- what the call records sum to by a measure
abbrev edge_sum : (Calls → ℕ) → (Spot → Spot → Bool) → List Record → ℕ
edge_sum f passes [] = 0
edge_sum f passes (Own cost ∷ records) = edge_sum f passes records
edge_sum f passes (Called callee cost ∷ records) = (if passes (caller_spot cost) (callee_spot callee) then f (calls_of callee cost) else 0) + edge_sum f passes records

law-edges : (passes : Spot → Spot → Bool) (f : Calls → ℕ) (adds : (x y : Calls) → f (calls_added x y) ≡ f x + f y) (records : List Record) (c : Content) → AreHeld c
    → sum_where (passing_call passes (fold with_record c records).names) f (fold with_record c records).calls ≡ sum_where (passing_call passes c.names) f c.calls + edge_sum f passes records
law-edges passes f adds [] c held = sym (add-zero _)
law-edges passes f adds (Own cost ∷ records) c held =
    law-edges passes f adds records (with_cost c cost) (held-cost c cost held)
    ∙ ap (λ n. n + edge_sum f passes records) (edges-kept passes f c.names (names_with_cost cost c.names) c.calls (grows-three c.names cost.object cost.file cost.function) held.calls)
law-edges passes f adds (Called callee cost ∷ records) c held =
    law-edges passes f adds records (with_call c callee cost) (held-call c callee cost held)
    ∙ ap (λ n. n + edge_sum f passes records) (edges-call passes f adds c callee cost held)
    ∙ add_assoc (sum_where (passing_call passes c.names) f c.calls) (if passes (caller_spot cost) (callee_spot callee) then f (calls_of callee cost) else 0) (edge_sum f passes records)

turned : (a b d : Bool) → (a || b) || d ≡ b || (a || d)
turned true true d = refl
turned true false d = refl
turned false true d = refl
turned false false d = refl

law-called : (passes : Spot → Spot → Bool) (records : List Record) (c : Content) → AreHeld c → has_edge passes (fold with_record c records) ≡ has_edge passes c || has_call passes records
law-called passes [] c held = sym (or-false (has_edge passes c))
law-called passes (Own cost ∷ records) c held =
    law-called passes records (with_cost c cost) (held-cost c cost held)
    ∙ ap (λ b. b || has_call passes records) (has-kept passes c.names (names_with_cost cost c.names) c.calls (grows-three c.names cost.object cost.file cost.function) held.calls)
law-called passes (Called callee cost ∷ records) c held =
    law-called passes records (with_call c callee cost) (held-call c callee cost held)
    ∙ ap (λ b. b || has_call passes records) (has-call passes c callee cost held)
    ∙ turned (passes (caller_spot cost) (callee_spot callee)) (has_edge passes c) (has_call passes records)

call_sum-is : (passes : Spot → Spot → Bool) (k : ℕ) (records : List Record) → edge_sum (λ calls. slice_index calls.costs k) passes records ≡ call_sum passes k records
call_sum-is passes k [] = refl
call_sum-is passes k (Own cost ∷ records) = call_sum-is passes k records
call_sum-is passes k (Called callee cost ∷ records) =
    ap (λ n. (if passes (caller_spot cost) (callee_spot callee) then n else 0) + edge_sum (λ calls. slice_index calls.costs k) passes records) (column-trimmed cost.costs k)
    ∙ ap (λ n. (if passes (caller_spot cost) (callee_spot callee) then slice_index cost.costs k else 0) + n) (call_sum-is passes k records)

count_sum-is : (passes : Spot → Spot → Bool) (records : List Record) → edge_sum (λ calls. calls.count) passes records ≡ count_sum passes records
count_sum-is passes [] = refl
count_sum-is passes (Own cost ∷ records) = count_sum-is passes records
count_sum-is passes (Called callee cost ∷ records) = ap (λ n. (if passes (caller_spot cost) (callee_spot callee) then callee.count else 0) + n) (count_sum-is passes records)

pub none_held : AreHeld empty
none_held = record { cells = tt; calls = tt }

held-all : (records : List Record) (c : Content) → AreHeld c → AreHeld (fold with_record c records)
held-all [] c held = held
held-all (Own cost ∷ records) c held = held-all records (with_cost c cost) (held-cost c cost held)
held-all (Called callee cost ∷ records) c held = held-all records (with_call c callee cost) (held-call c callee cost held)

-- each number of the rows of a file represents a name
pub held-records : (records : List Record) → AreHeld (content_of_records records)
held-records records = held-all records empty none_held

pub sums-cells : (passes : Spot → Bool) (k : ℕ) (records : List Record)
    → cells_where passes k (content_of_records records) ≡ self_sum passes k records
sums-cells passes k records = law-cells passes k records empty none_held ∙ zero-add (self_sum passes k records)

pub sums-edges : (passes : Spot → Spot → Bool) (k : ℕ) (records : List Record)
    → calls_where passes k (content_of_records records) ≡ call_sum passes k records
sums-edges passes k records =
    law-edges passes (λ calls. slice_index calls.costs k) (λ x y. slice_index-added x.costs y.costs k) records empty none_held
    ∙ zero-add (edge_sum (λ calls. slice_index calls.costs k) passes records) ∙ call_sum-is passes k records

pub sums-counts : (passes : Spot → Spot → Bool) (records : List Record)
    → counts_where passes (content_of_records records) ≡ count_sum passes records
sums-counts passes records =
    law-edges passes (λ calls. calls.count) (λ x y. refl) records empty none_held
    ∙ zero-add (edge_sum (λ calls. calls.count) passes records) ∙ count_sum-is passes records

pub calls-there : (passes : Spot → Spot → Bool) (records : List Record) → has_edge passes (content_of_records records) ≡ has_call passes records
calls-there passes records = law-called passes records empty none_held

pub sums-records : (records : List Record) → SumsToRecords (content_of_records records) records
sums-records records = record {
  cells = λ passes k. sums-cells passes k records;
  calls = λ passes k. sums-edges passes k records;
  counts = λ passes. sums-counts passes records;
  called = λ passes. calls-there passes records;
}
