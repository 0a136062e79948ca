-- The members of each group, where the names of groups rise.
use Rattle.std.proofs.Common.{◌≡◌, ℕ, suc, ◌+◌, List, [], ◌∷◌, ◌++◌, map, filter, flat_map, length, get_or, Bool, true, false, bytes_eq, if◌then◌else◌, string_bytes, refl, sym, ap, ap₂, subst, ◌∙◌, arith, append-nil, IsPermutation}
use Rattle.std.specs.Ordering.{nat_cmp, ordering_reverse}
use Rattle.std.specs.declared.cmp.Ordering.{Ordering}
use Rattle.std.specs.declared.cmp.Ordering.TheVariants.{Less}
use Rattle.std.specs.Cmp.Lexicographic.{slice_cmp, nat_list_cmp_total}
use Rattle.std.specs.List.{AllByRecursion, AllAdjacentBelow}
use Rattle.std.proofs.lemmas.Slice.Eq.{bytes_eq-Decides}
use Rattle.plain_tables.specs.Lists.{IsAscending}
use Rattle.plain_tables.specs.Tables.{MemberRow}
use Rattle.run_stores.specs.Entries.{IsBefore, entry_members, member_of, members_in}
use Rattle.run_stores.specs.declared.entries.GroupEntry.{GroupEntry}
use Rattle.run_lists.proofs.Permutations.{IsPermutation-filter}

abbrev cmp : List ℕ → List ℕ → Ordering
cmp = slice_cmp nat_cmp

-- ---- each name is before all that follow

rest_rises : (x : GroupEntry) (xs : List GroupEntry) → AllAdjacentBelow IsBefore (x ∷ xs) (length (x ∷ xs)) → AllAdjacentBelow IsBefore xs (length xs)
rest_rises x xs h k d low =
    let next : suc k + 1 ≡ suc (k + 1) = omega arith in
    subst (λ j. IsBefore (get_or xs k d) (get_or (x ∷ xs) j d)) next (h (suc k) d (omega arith))

above : (x y : GroupEntry) (ys : List GroupEntry) → IsBefore x y → AllByRecursion (IsBefore y) ys → AllByRecursion (IsBefore x) ys
above x y [] less h = tt
above x y (z ∷ ys) less h = (nat_list_cmp_total.trans (string_bytes x.name) (string_bytes y.name) (string_bytes z.name) less h.0, above x y ys less h.1)

pub rising : (xs : List GroupEntry) → AllAdjacentBelow IsBefore xs (length xs) → IsAscending IsBefore xs
rising [] h = tt
rising (x ∷ []) h = (tt, tt)
rising (x ∷ y ∷ ys) h =
    let more = rising (y ∷ ys) (rest_rises x (y ∷ ys) h) in
    let first : IsBefore x y = h 0 x (omega arith) in
    ((first, above x y ys first more.0), more)

-- ---- so no two are equal

no_less : (o : Ordering) → o ≡ ordering_reverse o → o ≡ Less → ⊥
no_less o same is = let bad : Less ≡ ordering_reverse Less = sym is ∙ same ∙ ap ordering_reverse is in cc

differ : (a b : List ℕ) → cmp a b ≡ Less → bytes_eq a b ≡ false
differ a b less = go (bytes_eq a b) refl
  where
    go : (t : Bool) → bytes_eq a b ≡ t → bytes_eq a b ≡ false
    go false e = e
    go true e =
        let same : a ≡ b = (bytes_eq-Decides a b).0 e in
        let self : cmp a a ≡ Less = ap (cmp a) same ∙ less in
        absurd (no_less (cmp a a) (nat_list_cmp_total.antisymm a a) self)

turned : (a b : List ℕ) → bytes_eq a b ≡ false → bytes_eq b a ≡ false
turned a b e = go (bytes_eq b a) refl
  where
    go : (t : Bool) → bytes_eq b a ≡ t → bytes_eq b a ≡ false
    go false h = h
    go true h = absurd (let bad : true ≡ false = sym ((bytes_eq-Decides a b).1 (sym ((bytes_eq-Decides b a).0 h))) ∙ e in cc)

-- ---- members by group

filter-both : (p : MemberRow → Bool) (xs ys : List MemberRow) → filter p (xs ++ ys) ≡ filter p xs ++ filter p ys
filter-both p [] ys = refl
filter-both p (x ∷ xs) ys = go (p x) (filter-both p xs ys)
  where
    go : (b : Bool) → filter p (xs ++ ys) ≡ filter p xs ++ filter p ys → (if b then x ∷ filter p (xs ++ ys) else filter p (xs ++ ys)) ≡ (if b then x ∷ filter p xs else filter p xs) ++ filter p ys
    go true rest = ap (λ l. x ∷ l) rest
    go false rest = rest

own : (name : List ℕ) (runs : List ℕ) → members_in name (map (member_of name) runs) ≡ map (member_of name) runs
own name [] = refl
own name (run ∷ runs) =
    ap (λ b. if b then member_of name run ∷ members_in name (map (member_of name) runs) else members_in name (map (member_of name) runs)) ((bytes_eq-Decides name name).1 refl)
    ∙ ap (λ l. member_of name run ∷ l) (own name runs)

others : (name other : List ℕ) (runs : List ℕ) → bytes_eq other name ≡ false → members_in name (map (member_of other) runs) ≡ []
others name other [] e = refl
others name other (run ∷ runs) e =
    ap (λ b. if b then member_of other run ∷ members_in name (map (member_of other) runs) else members_in name (map (member_of other) runs)) e ∙ others name other runs e

pub none_later : (name : List ℕ) (es : List GroupEntry) → AllByRecursion (λ (e : GroupEntry). bytes_eq (string_bytes e.name) name ≡ false) es → members_in name (flat_map entry_members es) ≡ []
none_later name [] h = refl
none_later name (e ∷ es) h =
    filter-both (λ (m : MemberRow). bytes_eq m.group name) (entry_members e) (flat_map entry_members es)
    ∙ ap₂ ◌++◌ (others name (string_bytes e.name) e.members h.0) (none_later name es h.1)

pub after : (x : GroupEntry) (xs : List GroupEntry) → AllByRecursion (IsBefore x) xs → AllByRecursion (λ (e : GroupEntry). bytes_eq (string_bytes e.name) (string_bytes x.name) ≡ false) xs
after x [] h = tt
after x (y ∷ xs) h = (turned (string_bytes x.name) (string_bytes y.name) (differ (string_bytes x.name) (string_bytes y.name) h.0), after x xs h.1)

-- each entry has the members of its group among all
abbrev Each : List MemberRow → List GroupEntry → Type 0
Each all = AllByRecursion (λ (e : GroupEntry). members_in (string_bytes e.name) all ≡ entry_members e)

each_more : (x : GroupEntry) (es : List GroupEntry) (all : List MemberRow) → AllByRecursion (IsBefore x) es → Each all es → Each (entry_members x ++ all) es
each_more x [] all before h = tt
each_more x (e ∷ es) all before h = (
  filter-both (λ (m : MemberRow). bytes_eq m.group (string_bytes e.name)) (entry_members x) all
      ∙ ap₂ ◌++◌ (others (string_bytes e.name) (string_bytes x.name) x.members (differ (string_bytes x.name) (string_bytes e.name) before.0)) h.0,
  each_more x es all before.1 h.1,
)

each : (es : List GroupEntry) → IsAscending IsBefore es → Each (flat_map entry_members es) es
each [] up = tt
each (x ∷ es) up = (
  filter-both (λ (m : MemberRow). bytes_eq m.group (string_bytes x.name)) (entry_members x) (flat_map entry_members es)
      ∙ ap₂ ◌++◌ (own (string_bytes x.name) x.members) (none_later (string_bytes x.name) es (after x es up.0)) ∙ append-nil (entry_members x),
  each_more x es (flat_map entry_members es) up.0 (each es up.1),
)

permuted : (lines all : List MemberRow) (es : List GroupEntry) → IsPermutation lines all → Each all es → AllByRecursion (λ (e : GroupEntry). IsPermutation (members_in (string_bytes e.name) lines) (entry_members e)) es
permuted lines all [] same h = tt
permuted lines all (e ∷ es) same h =
    (subst (IsPermutation (members_in (string_bytes e.name) lines)) h.0 (IsPermutation-filter (λ (m : MemberRow). bytes_eq m.group (string_bytes e.name)) lines all same), permuted lines all es same h.1)

-- the members of each group are those of its entry
pub members_told : (lines : List MemberRow) (es : List GroupEntry) → AllAdjacentBelow IsBefore es (length es) → IsPermutation lines (flat_map entry_members es)
    → AllByRecursion (λ (e : GroupEntry). IsPermutation (members_in (string_bytes e.name) lines) (entry_members e)) es
members_told lines es up same = permuted lines (flat_map entry_members es) es same (each es (rising es up))
