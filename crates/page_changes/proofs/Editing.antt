-- Changes of groups and members that change nothing, and members by the lists.
use Rattle.std.proofs.Common.{◌≡◌, ℕ, List, [], ◌∷◌, ◌||◌, Bool, true, false, map, filter, not, if◌then◌else◌, bytes_eq, refl, ap, ◌∙◌}
use Rattle.std.specs.List.{list_any}
use Rattle.std.proofs.lemmas.Bool.{or_parts}
use Rattle.plain_tables.specs.Changes.{has_group, has_member, is_member, is_named, rebased, with_baseline, without_member}
use Rattle.plain_tables.specs.Tables.{Tables, MemberRow}
use Rattle.run_lists.specs.Listed.{AreListed, member_row}
use Rattle.run_lists.specs.declared.listed.RunLists.{RunLists}
use Rattle.page_changes.specs.Changes.{HasNoMember, without_members}

-- ---- changes that change nothing

without_none : {A : Type 0} (p : A → Bool) (xs : List A) → list_any p xs ≡ false → filter (λ x. not (p x)) xs ≡ xs
without_none p [] none = refl
without_none p (x ∷ xs) none =
    let parts = or_parts (p x) (list_any p xs) none in
    rw parts.0 (ap (λ l. x ∷ l) (without_none p xs parts.1))

pub not_member : (t : Tables) (name : List ℕ) (run : ℕ) → has_member t name run ≡ false → without_member name run t ≡ t
not_member t name run none = ap (λ ms. record t { members = ms }) (without_none (is_member name run) t.members none)

none_turned : {A : Type 0} (p : A → Bool) (f : A → A) (xs : List A) → list_any p xs ≡ false → map (λ x. if p x then f x else x) xs ≡ xs
none_turned p f [] none = refl
none_turned p f (x ∷ xs) none =
    let parts = or_parts (p x) (list_any p xs) none in
    rw parts.0 (ap (λ l. x ∷ l) (none_turned p f xs parts.1))

pub not_group : (t : Tables) (name : List ℕ) (run : ℕ) → has_group t name ≡ false → with_baseline name run t ≡ t
not_group t name run none = ap (λ gs. record t { groups = gs }) (none_turned (is_named name) (rebased run) t.groups none)

-- then no member is left
none_kept : {A : Type 0} (p : A → Bool) (xs : List A) → list_any p (filter (λ x. not (p x)) xs) ≡ false
none_kept p [] = refl
none_kept p (x ∷ xs) = step (none_kept p xs) (p x) refl
  where
    step : list_any p (filter (λ y. not (p y)) xs) ≡ false → (b : Bool) → p x ≡ b → list_any p (filter (λ y. not (p y)) (x ∷ xs)) ≡ false
    step rest true is = rw is rest
    step rest false is = rw (is, is) rest

pub none_left : (t : Tables) (name : List ℕ) → HasNoMember name (without_members name t)
none_left t name = none_kept (λ (m : MemberRow). bytes_eq m.group name) t.members

any_mapped : {A B : Type 0} (p : B → Bool) (f : A → B) (xs : List A) → list_any (λ x. p (f x)) xs ≡ list_any p (map f xs)
any_mapped p f [] = refl
any_mapped p f (x ∷ xs) = ap (λ b. p (f x) || b) (any_mapped p f xs)

-- whether a run is in a group, by the lists
pub listed_member : (t : Tables) (lists : RunLists) → AreListed t lists → (name : List ℕ) (run : ℕ) → list_any (λ m. is_member name run (member_row m)) lists.members.items ≡ has_member t name run
listed_member t lists listed name run = any_mapped (is_member name run) member_row lists.members.items ∙ ap (list_any (is_member name run)) listed.members
