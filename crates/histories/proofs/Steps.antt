-- What each legal step but an import makes of tables that represent a history.
use Rattle.std.proofs.Common.{◌≡◌, ℕ, Bool, true, false, not, ◌&&◌, ◌||◌, ◌==◌, eqb, if◌then◌else◌, List, [], ◌∷◌, ◌++◌, map, filter, Option, Some, None, refl, sym, ap, ap₂, subst, ◌∙◌, cond}
use Rattle.std.specs.List.{AllByRecursion}
use Rattle.std.specs.Str.{bytes_eq}
use Rattle.std.proofs.lemmas.Bool.{and_parts, eqb-true}
use Rattle.cost_rows.proofs.NamingLemmas.{same_bytes}
use Rattle.plain_tables.specs.Tables.{Tables, GroupRow, MemberRow, new_tables}
use Rattle.plain_tables.specs.Changes as changes
use Rattle.plain_tables.specs.Changes.{without_run, has_baseline, is_baseline, unbased, is_named, with_group, without_group, joined, with_member, without_member, rebased, with_baseline, has_member}
use Rattle.run_stores.specs.Book.{book_of, Book}
use Rattle.run_stores.proofs.Books.{book_dropped, named_dropped, named_grouped, named_new}
use Rattle.histories.specs.History.{Command, Remove, MakeGroup, DropGroup, Join, Leave, SetBaseline, History, with_step, held, is_member, baseline}
use Rattle.histories.specs.Legal.{IsLegal}
use Rattle.histories.specs.Representation.{AreBooksOf, TablesRepresent}
use Rattle.histories.specs.declared.answers.Answer.{Answer}
use Rattle.histories.specs.declared.answers.Answer.TheVariants.{Done}
use Rattle.histories.specs.declared.limits.Limits.{Limits}
use Rattle.histories.proofs.Baselines.{baseline_other, baseline_made, baseline_joined, baseline_left, baseline_removed, baseline_dropped, baseline_based, but, none_if}
use Rattle.histories.proofs.Books.{books_left}
use Rattle.histories.proofs.Expected.{made_legal}
use Rattle.histories.proofs.Groups.{groups_other, groups_same, groups_made, groups_dropped, still_not_done}
use Rattle.histories.proofs.Held.{IsStill, held_still, held_done, held_removed, next_still, next_done}
use Rattle.histories.proofs.Invariants.{no_baseline}
use Rattle.histories.proofs.Members.{member_other, member_made, member_based, member_removed, member_dropped, member_left, member_joined}
use Rattle.histories.proofs.Tests.{all_on, all_map, all_push, any-append, any-filter, or-false, number-flip, bytes-flip}
use Rattle.histories.proofs.StepsTo.{history_more}

-- ---- nothing, and what changes nothing

pub tell_nothing : TablesRepresent [] new_tables
tell_nothing = record { legal = tt; named = named_new; next = refl; runs = tt; groups = refl; baselines = tt; members = λ name n. refl }

pub tell_same : (limits : Limits) (h : History) (command : Command) (answer : Answer) (t : Tables) → IsStill answer → TablesRepresent h t → IsLegal limits h command answer → TablesRepresent (with_step h command answer) t
tell_same limits h command answer t still represent legal =
    let other = still_not_done answer still in
    record {
      legal = history_more limits h command answer represent.legal legal;
      named = represent.named;
      next = represent.next ∙ sym (next_still h command answer still);
      runs = subst (λ files. AreBooksOf files (book_of t).runs) (sym (held_still h command answer still)) represent.runs;
      groups = represent.groups ∙ sym (groups_other h command answer other);
      baselines =
          all_on (λ (g : GroupRow). g.baseline ≡ baseline h g.name) (λ (g : GroupRow). g.baseline ≡ baseline (with_step h command answer) g.name) t.groups
          (λ g is. is ∙ sym (baseline_other h command answer g.name other)) represent.baselines;
      members = λ name n. represent.members name n ∙ sym (member_other h command answer name n other);
    }

-- ---- a run is removed

map_same : {X Y : Type 0} (f : X → X) (g : X → Y) (xs : List X) → ((x : X) → g (f x) ≡ g x) → map g (map f xs) ≡ map g xs
map_same f g [] same = refl
map_same f g (x ∷ xs) same = ap₂ ◌∷◌ (same x) (map_same f g xs same)

name_of_either : (b : Bool) (g other : GroupRow) → other.name ≡ g.name → (if b then other else g).name ≡ g.name
name_of_either true g other same = same
name_of_either false g other same = refl

module _ (n : ℕ) where
  abbrev cleared : GroupRow → GroupRow
  cleared g = if has_baseline n g then unbased g else g

  cleared_name : (g : GroupRow) → (cleared g).name ≡ g.name
  cleared_name g = name_of_either (has_baseline n g) g (unbased g) refl

  cleared_baseline : (g : GroupRow) → (cleared g).baseline ≡ but n g.baseline
  cleared_baseline g = go g.baseline refl
    where
      two : (b : Bool) (m : ℕ) → g.baseline ≡ Some m → (if b then unbased g else g).baseline ≡ (if b then None else Some m)
      two true m is = refl
      two false m is = is

      go : (o : Option ℕ) → g.baseline ≡ o → (if is_baseline n g.baseline then unbased g else g).baseline ≡ but n o
      go None is = ap (λ o. (if is_baseline n o then unbased g else g).baseline) is ∙ is
      go (Some m) is = ap (λ o. (if is_baseline n o then unbased g else g).baseline) is ∙ two (m == n) m is ∙ ap (λ b. if b then None else Some m) (number-flip m n)

pub tell_removed : (limits : Limits) (h : History) (n : ℕ) (t : Tables) → TablesRepresent h t → IsLegal limits h (Remove n) Done → TablesRepresent (with_step h (Remove n) Done) (without_run n t)
tell_removed limits h n t represent legal = record {
  legal = history_more limits h (Remove n) Done represent.legal legal;
  named = named_dropped n t represent.named;
  next = represent.next ∙ sym (next_done h (Remove n));
  runs =
      subst (λ files. AreBooksOf files (book_of (without_run n t)).runs) (sym (held_removed h n))
      (subst (λ (b : Book). AreBooksOf (filter (λ f. not (f.number == n)) (held h)) b.runs) (sym (book_dropped n t)) (books_left n (held h) (book_of t).runs represent.runs));
  groups = map_same (cleared n) (λ (g : GroupRow). g.name) t.groups (cleared_name n) ∙ represent.groups ∙ sym (groups_same h (Remove n) tt);
  baselines =
      all_map (λ (g : GroupRow). g.baseline ≡ baseline h g.name) (λ (g : GroupRow). g.baseline ≡ baseline (with_step h (Remove n) Done) g.name) (cleared n) t.groups
      (λ g is. cleared_baseline n g ∙ ap (but n) is ∙ ap (λ name. but n (baseline h name)) (sym (cleared_name n g)) ∙ sym (baseline_removed h n (cleared n g).name)) represent.baselines;
  members = λ name k.
      any-filter (changes.is_member name k) (λ (m : MemberRow). not (m.run == n)) (not (n == k)) t.members
      (λ m same. ap not (ap (λ j. eqb j n) (eqb-true m.run k (and_parts (bytes_eq m.group name) (m.run == k) same).1) ∙ number-flip k n))
      ∙ ap (λ b. b && not (n == k)) (represent.members name k) ∙ sym (member_removed h n name k);
}

-- ---- groups

pub tell_made : (limits : Limits) (h : History) (name : List ℕ) (t : Tables) → TablesRepresent h t → IsLegal limits h (MakeGroup name) Done → TablesRepresent (with_step h (MakeGroup name) Done) (with_group name t)
tell_made limits h name t represent legal = record {
  legal = history_more limits h (MakeGroup name) Done represent.legal legal;
  named = named_grouped t (with_group name t).groups t.members represent.named;
  next = represent.next ∙ sym (next_done h (MakeGroup name));
  runs = subst (λ files. AreBooksOf files (book_of t).runs) (sym (held_done h (MakeGroup name) tt)) represent.runs;
  groups = names t.groups ∙ ap (λ l. l ++ name ∷ []) represent.groups ∙ sym (groups_made h name);
  baselines =
      all_push (λ (g : GroupRow). g.baseline ≡ baseline (with_step h (MakeGroup name) Done) g.name) t.groups (record { name = name; baseline = None } ∷ [])
      (all_on (λ (g : GroupRow). g.baseline ≡ baseline h g.name) (λ (g : GroupRow). g.baseline ≡ baseline (with_step h (MakeGroup name) Done) g.name) t.groups
      (λ g is. is ∙ sym (baseline_made h name g.name)) represent.baselines)
      (sym (baseline_made h name name ∙ no_baseline h represent.legal name (made_legal limits h name legal).1), tt);
  members = λ other n. represent.members other n ∙ sym (member_made h name other n);
}
  where
    names : (lines : List GroupRow) → map (λ (g : GroupRow). g.name) (lines ++ record { name = name; baseline = None } ∷ []) ≡ map (λ (g : GroupRow). g.name) lines ++ name ∷ []
    names [] = refl
    names (g ∷ lines) = ap (λ l. g.name ∷ l) (names lines)

pub tell_dropped : (limits : Limits) (h : History) (name : List ℕ) (t : Tables) → TablesRepresent h t → IsLegal limits h (DropGroup name) Done → TablesRepresent (with_step h (DropGroup name) Done) (without_group name t)
tell_dropped limits h name t represent legal = record {
  legal = history_more limits h (DropGroup name) Done represent.legal legal;
  named = named_grouped t (without_group name t).groups (without_group name t).members represent.named;
  next = represent.next ∙ sym (next_done h (DropGroup name));
  runs = subst (λ files. AreBooksOf files (book_of t).runs) (sym (held_done h (DropGroup name) tt)) represent.runs;
  groups = names t.groups ∙ ap (filter (λ other. not (bytes_eq other name))) represent.groups ∙ sym (groups_dropped h name);
  baselines = kept t.groups represent.baselines;
  members = λ other n.
      any-filter (changes.is_member other n) (λ (m : MemberRow). not (bytes_eq m.group name)) (not (bytes_eq name other)) t.members
      (λ m same. ap not (ap (λ g. bytes_eq g name) (same_bytes m.group other (and_parts (bytes_eq m.group other) (m.run == n) same).0) ∙ bytes-flip other name))
      ∙ ap (λ b. b && not (bytes_eq name other)) (represent.members other n) ∙ sym (member_dropped h name other n);
}
  where
    names : (lines : List GroupRow) → map (λ (g : GroupRow). g.name) (filter (λ g. not (is_named name g)) lines) ≡ filter (λ other. not (bytes_eq other name)) (map (λ (g : GroupRow). g.name) lines)
    names [] = refl
    names (g ∷ lines) = go (is_named name g) (names lines)
      where
        go : (b : Bool) → map (λ (g : GroupRow). g.name) (filter (λ g. not (is_named name g)) lines) ≡ filter (λ other. not (bytes_eq other name)) (map (λ (g : GroupRow). g.name) lines)
            → map (λ (g : GroupRow). g.name) (cond (not b) (g ∷ filter (λ g. not (is_named name g)) lines) (filter (λ g. not (is_named name g)) lines))
            ≡ cond (not b) (g.name ∷ filter (λ other. not (bytes_eq other name)) (map (λ (g : GroupRow). g.name) lines)) (filter (λ other. not (bytes_eq other name)) (map (λ (g : GroupRow). g.name) lines))
        go true rest = rest
        go false rest = ap (λ l. g.name ∷ l) rest

    kept : (lines : List GroupRow) → AllByRecursion (λ (g : GroupRow). g.baseline ≡ baseline h g.name) lines
        → AllByRecursion (λ (g : GroupRow). g.baseline ≡ baseline (with_step h (DropGroup name) Done) g.name) (filter (λ g. not (is_named name g)) lines)
    kept [] all = tt
    kept (g ∷ lines) all = go (is_named name g) refl (kept lines all.1)
      where
        go : (b : Bool) → is_named name g ≡ b → AllByRecursion (λ (g : GroupRow). g.baseline ≡ baseline (with_step h (DropGroup name) Done) g.name) (filter (λ g. not (is_named name g)) lines)
            → AllByRecursion (λ (g : GroupRow). g.baseline ≡ baseline (with_step h (DropGroup name) Done) g.name) (cond (not b) (g ∷ filter (λ g. not (is_named name g)) lines) (filter (λ g. not (is_named name g)) lines))
        go true same rest = rest
        go false same rest = (all.0 ∙ ap (λ b. none_if b (baseline h g.name)) (sym (bytes-flip name g.name ∙ same)) ∙ sym (baseline_dropped h name g.name), rest)

-- ---- members

grouped_baselines : (h later : History) (lines : List GroupRow) → ((name : List ℕ) → baseline later name ≡ baseline h name) → AllByRecursion (λ (g : GroupRow). g.baseline ≡ baseline h g.name) lines
    → AllByRecursion (λ (g : GroupRow). g.baseline ≡ baseline later g.name) lines
grouped_baselines h later lines same all =
    all_on (λ (g : GroupRow). g.baseline ≡ baseline h g.name) (λ (g : GroupRow). g.baseline ≡ baseline later g.name) lines (λ g is. is ∙ sym (same g.name)) all

pub tell_joined : (limits : Limits) (h : History) (name : List ℕ) (n : ℕ) (t : Tables) → TablesRepresent h t → IsLegal limits h (Join name n) Done → TablesRepresent (with_step h (Join name n) Done) (joined name n t)
tell_joined limits h name n t represent legal = go (has_member t name n) refl
  where
    in_group : (other : List ℕ) (k : ℕ) → has_member t name n ≡ true → is_member h other k ≡ is_member h other k || (bytes_eq name other && (n == k))
    in_group other k there = one (bytes_eq name other && (n == k)) refl
      where
        or_true : (b : Bool) → b ≡ true → b ≡ b || true
        or_true true is = refl
        or_true false is = is

        or_none : (b : Bool) → b ≡ b || false
        or_none true = refl
        or_none false = refl

        one : (b : Bool) → bytes_eq name other && (n == k) ≡ b → is_member h other k ≡ is_member h other k || b
        one true same =
            let two = and_parts (bytes_eq name other) (n == k) same in
            or_true (is_member h other k) (ap₂ (is_member h) (sym (same_bytes name other two.0)) (sym (eqb-true n k two.1)) ∙ sym (represent.members name n) ∙ there)
        one false same = or_none (is_member h other k)

    go : (b : Bool) → has_member t name n ≡ b → TablesRepresent (with_step h (Join name n) Done) (if b then t else with_member name n t)
    go true there = record {
      legal = history_more limits h (Join name n) Done represent.legal legal;
      named = represent.named;
      next = represent.next ∙ sym (next_done h (Join name n));
      runs = subst (λ files. AreBooksOf files (book_of t).runs) (sym (held_done h (Join name n) tt)) represent.runs;
      groups = represent.groups ∙ sym (groups_same h (Join name n) tt);
      baselines = grouped_baselines h (with_step h (Join name n) Done) t.groups (baseline_joined h name n) represent.baselines;
      members = λ other k. represent.members other k ∙ in_group other k there ∙ sym (member_joined h name n other k);
    }
    go false there = record {
      legal = history_more limits h (Join name n) Done represent.legal legal;
      named = named_grouped t t.groups (with_member name n t).members represent.named;
      next = represent.next ∙ sym (next_done h (Join name n));
      runs = subst (λ files. AreBooksOf files (book_of t).runs) (sym (held_done h (Join name n) tt)) represent.runs;
      groups = represent.groups ∙ sym (groups_same h (Join name n) tt);
      baselines = grouped_baselines h (with_step h (Join name n) Done) t.groups (baseline_joined h name n) represent.baselines;
      members = λ other k.
          any-append (changes.is_member other k) t.members (record { group = name; run = n } ∷ [])
          ∙ ap₂ ◌||◌ (represent.members other k) (or-false (bytes_eq name other && (n == k))) ∙ sym (member_joined h name n other k);
    }

pub tell_left : (limits : Limits) (h : History) (name : List ℕ) (n : ℕ) (t : Tables) → TablesRepresent h t → IsLegal limits h (Leave name n) Done → TablesRepresent (with_step h (Leave name n) Done) (without_member name n t)
tell_left limits h name n t represent legal = record {
  legal = history_more limits h (Leave name n) Done represent.legal legal;
  named = named_grouped t t.groups (without_member name n t).members represent.named;
  next = represent.next ∙ sym (next_done h (Leave name n));
  runs = subst (λ files. AreBooksOf files (book_of t).runs) (sym (held_done h (Leave name n) tt)) represent.runs;
  groups = represent.groups ∙ sym (groups_same h (Leave name n) tt);
  baselines = grouped_baselines h (with_step h (Leave name n) Done) t.groups (baseline_left h name n) represent.baselines;
  members = λ other k.
      any-filter (changes.is_member other k) (λ m. not (changes.is_member name n m)) (not (bytes_eq name other && (n == k))) t.members
      (λ m same.
      let two = and_parts (bytes_eq m.group other) (m.run == k) same in
      ap not (ap₂ (λ g r. bytes_eq g name && eqb r n) (same_bytes m.group other two.0) (eqb-true m.run k two.1) ∙ ap₂ ◌&&◌ (bytes-flip other name) (number-flip k n)))
      ∙ ap (λ b. b && not (bytes_eq name other && (n == k))) (represent.members other k) ∙ sym (member_left h name n other k);
}

-- ---- baselines

abbrev based : List ℕ → ℕ → GroupRow → GroupRow
based name n g = if is_named name g then rebased n g else g

pub tell_based : (limits : Limits) (h : History) (name : List ℕ) (n : ℕ) (t : Tables) → TablesRepresent h t → IsLegal limits h (SetBaseline name n) Done → TablesRepresent (with_step h (SetBaseline name n) Done) (with_baseline name n t)
tell_based limits h name n t represent legal = record {
  legal = history_more limits h (SetBaseline name n) Done represent.legal legal;
  named = named_grouped t (with_baseline name n t).groups t.members represent.named;
  next = represent.next ∙ sym (next_done h (SetBaseline name n));
  runs = subst (λ files. AreBooksOf files (book_of t).runs) (sym (held_done h (SetBaseline name n) tt)) represent.runs;
  groups = map_same (based name n) (λ (g : GroupRow). g.name) t.groups set_name ∙ represent.groups ∙ sym (groups_same h (SetBaseline name n) tt);
  baselines =
      all_map (λ (g : GroupRow). g.baseline ≡ baseline h g.name) (λ (g : GroupRow). g.baseline ≡ baseline (with_step h (SetBaseline name n) Done) g.name) (based name n) t.groups
      (λ g is. set_baseline g is ∙ sym (baseline_based h name n (based name n g).name)) represent.baselines;
  members = λ other k. represent.members other k ∙ sym (member_based h name n other k);
}
  where
    set_name : (g : GroupRow) → (based name n g).name ≡ g.name
    set_name g = name_of_either (is_named name g) g (rebased n g) refl

    two : (b : Bool) (g : GroupRow) → g.baseline ≡ baseline h g.name → (if b then rebased n g else g).baseline ≡ (if b then Some n else baseline h g.name)
    two true g is = refl
    two false g is = is

    set_baseline : (g : GroupRow) → g.baseline ≡ baseline h g.name → (based name n g).baseline ≡ (if bytes_eq name (based name n g).name then Some n else baseline h (based name n g).name)
    set_baseline g is =
        two (is_named name g) g is ∙ ap (λ b. if b then Some n else baseline h g.name) (bytes-flip g.name name)
        ∙ ap (λ other. if bytes_eq name other then Some n else baseline h other) (sym (set_name g))
