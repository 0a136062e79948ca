-- The steps that give each group its members, where the rows are those of entries whose names rise.
use Rattle.std.proofs.Common.{◌≡◌, ◌≢◌, ◌∙◌, ◌+◌, ◌<◌, ◌++◌, ◌∷◌, [], ℕ, zero, suc, List, if◌then◌else◌, true, bytes_eq, string_bytes, map, flat_map, length, get_or, take, drop, refl, sym, ap, ap₂, subst, arith, append-nil}
use Rattle.std.proofs.lemmas.List.{drop-map, take-map, take_all, get_or-map, length-append, length-map}
use Rattle.std.proofs.lemmas.Slice.Eq.{bytes_eq-Decides}
use Rattle.plain_tables.specs.Lists.{IsAscending}
use Rattle.plain_tables.specs.Tables.{GroupRow, MemberRow}
use Rattle.run_stores.specs.Entries.{IsBefore, entry_group, entry_members, member_of, members_in}
use Rattle.run_stores.specs.declared.entries.GroupEntry.{GroupEntry}
use Rattle.run_lists.specs.InOrder.{AreRowsOf, BeginsWith, BeginsWithout}
use Rattle.run_lists.proofs.GroupMembers.{after, none_later, rising}

-- ---- the members at the front

-- a member of another group is at the front of what is left
pub without : {T : Type 0} (row : T → MemberRow) (name : List ℕ) (xs : List T) (at : ℕ) (x : T) → at < length xs → x ≡ get_or xs at x → (row x).group ≢ name → BeginsWithout name (map row (drop at xs))
without row name [] at x low is other = absurd (omega (arith, low))
without row name (y ∷ ys) zero x low is other = λ same. other (ap (λ z. (row z).group) is ∙ same)
without row name (y ∷ ys) (suc at) x low is other = without row name ys at x (omega (arith, low)) is other

-- none is of a group that has no members
none_first : (name : List ℕ) (run n : ℕ) (more lines : List MemberRow) → members_in name lines ≡ [] → member_of name run ∷ more ≡ take (suc n) lines → ⊥
none_first name run n more [] none front = let many = ap length front in omega (arith, many)
none_first name run n more (m ∷ lines) none front =
    let head : name ≡ m.group = ap (λ l. (get_or l 0 m).group) front in
    let is : bytes_eq m.group name ≡ true = (bytes_eq-Decides m.group name).1 (sym head) in
    let many : suc (length (members_in name lines)) ≡ 0 = ap (λ b. length (if b then m ∷ members_in name lines else members_in name lines)) (sym is) ∙ ap length none in
    omega (arith, many)

-- the runs that were taken are all of those at the front
runs_same : (name : List ℕ) (runs all : List ℕ) (rest : List MemberRow) → members_in name rest ≡ [] → map (member_of name) runs ≡ take (length runs) (map (member_of name) all ++ rest)
    → BeginsWithout name (drop (length runs) (map (member_of name) all ++ rest)) → runs ≡ all
runs_same name [] [] rest none front whole = refl
runs_same name [] (n ∷ all) rest none front whole = absurd (whole refl)
runs_same name (run ∷ runs) [] rest none front whole = absurd (none_first name run (length runs) (map (member_of name) runs) rest none front)
runs_same name (run ∷ runs) (n ∷ all) rest none front whole = ap₂ ◌∷◌ (ap (λ l. (get_or l 0 (member_of name run)).run) front) (runs_same name runs all rest none (ap (drop 1) front) whole)

pub runs_are : {T : Type 0} (row : T → MemberRow) (entry : GroupEntry) (name : List ℕ) (runs : List ℕ) (xs : List T) → string_bytes entry.name ≡ name → BeginsWith entry (map row xs)
    → map (member_of name) runs ≡ map row (take (length runs) xs) → BeginsWithout name (map row (drop (length runs) xs)) → runs ≡ entry.members
runs_are row entry name runs xs named begins front whole =
    let many = length runs in
    let are : map row xs ≡ map (member_of name) entry.members ++ begins.rest = begins.lines_are ∙ ap (λ n. map (member_of n) entry.members ++ begins.rest) named in
    let none : members_in name begins.rest ≡ [] = ap (λ n. members_in n begins.rest) (sym named) ∙ begins.none_behind in
    runs_same name runs entry.members begins.rest none (front ∙ sym (take-map row many xs) ∙ ap (take many) are) (subst (BeginsWithout name) (sym (drop-map row many xs) ∙ ap (drop many) are) whole)

-- ---- one entry after another

-- how many members the entries in front of a place have
abbrev pub members_before : List GroupEntry → ℕ → ℕ
members_before entries at = length (flat_map entry_members (take at entries))

-- the entry at a place, in the rows
pub record HasEntry (entries : List GroupEntry) (at : ℕ) : Type 0 where
  pub entry : GroupEntry
  pub is : (d : GroupRow) → get_or (map entry_group entries) at d ≡ entry_group entry
  pub begins : BeginsWith entry (drop (members_before entries at) (flat_map entry_members entries))
  pub next : members_before entries (at + 1) ≡ members_before entries at + length entry.members

drop_front : {X : Type 0} (front xs ys : List X) → drop (length xs) ys ≡ drop (length (front ++ xs)) (front ++ ys)
drop_front [] xs ys = refl
drop_front (x ∷ front) xs ys = drop_front front xs ys

pub entry_at : (entries : List GroupEntry) (at : ℕ) → IsAscending IsBefore entries → at < length entries → HasEntry entries at
entry_at [] at up low = absurd (omega (arith, low))
entry_at (e ∷ entries) zero up low = record {
  entry = e;
  is = λ d. refl;
  begins = record { rest = flat_map entry_members entries; lines_are = refl; none_behind = none_later (string_bytes e.name) entries (after e entries up.0) };
  next = let one : length (entry_members e ++ []) ≡ length e.members = ap length (append-nil (entry_members e)) ∙ length-map e.members (member_of (string_bytes e.name)) in omega (arith, one);
}
entry_at (e ∷ entries) (suc at) up low =
    let more = entry_at entries at up.1 (omega (arith, low)) in
    let own = entry_members e in
    let front = flat_map entry_members (take at entries) in
    let step : suc at + 1 ≡ suc (at + 1) = omega arith in
    record {
      entry = more.entry;
      is = more.is;
      begins = subst (BeginsWith more.entry) (drop_front own front (flat_map entry_members entries)) more.begins;
      next = omega (arith, ap (members_before (e ∷ entries)) step, length-append own (flat_map entry_members (take (at + 1) entries)), length-append own front, more.next);
    }

-- the same beside lists that show the rows
pub record IsNext {S T : Type 0} (group : S → GroupRow) (member : T → MemberRow) (entries : List GroupEntry) (members : List T) (at taken : ℕ) (g : S) : Type 0 where
  pub entry : GroupEntry
  pub is_of : entry_group entry ≡ group g
  pub begins : BeginsWith entry (map member (drop taken members))
  pub next : members_before entries (at + 1) ≡ taken + length entry.members

module _ {S T : Type 0} (group : S → GroupRow) (member : T → MemberRow) (groups : List S) (members : List T) (entries : List GroupEntry) (rows : AreRowsOf entries (map group groups) (map member members)) where
  many : length groups ≡ length entries
  many = sym (length-map groups group) ∙ ap length rows.groups_are ∙ length-map entries entry_group

  pub next_of : (at taken : ℕ) (g : S) → at < length groups → g ≡ get_or groups at g → taken ≡ members_before entries at → IsNext group member entries members at taken g
  next_of at taken g low is was =
      let one = entry_at entries at (rising entries rows.rising) (omega (arith, low, many)) in
      let front : drop (members_before entries at) (flat_map entry_members entries) ≡ map member (drop taken members) = ap₂ drop (sym was) (sym rows.members_are) ∙ drop-map member taken members in
      record {
        entry = one.entry;
        is_of = sym (one.is (group g)) ∙ ap (λ l. get_or l at (group g)) (sym rows.groups_are) ∙ get_or-map group groups at g (group g) low ∙ ap group (sym is);
        begins = subst (BeginsWith one.entry) front one.begins;
        next = one.next ∙ ap (λ n. n + length one.entry.members) (sym was);
      }

  -- after the last entry no member is left
  pub none_left : (at taken : ℕ) → at ≡ length groups → taken ≡ members_before entries at → taken ≡ length members
  none_left at taken end was =
      was ∙ ap (members_before entries) (end ∙ many) ∙ ap (λ l. length (flat_map entry_members l)) (take_all (length entries) entries (omega arith))
      ∙ ap length (sym rows.members_are) ∙ length-map members member
