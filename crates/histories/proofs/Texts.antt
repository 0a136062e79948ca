-- What tables that represent a history tell of its groups, and so the texts of lists.
use Rattle.std.proofs.Common.{◌≡◌, ℕ, ◌<◌, Bool, true, false, ◌&&◌, ◌||◌, ◌==◌, eqb, List, [], ◌∷◌, ◌++◌, map, filter, flat_map, length, Option, refl, sym, ap, ap₂, subst, ◌∙◌, cond, arith, IsPermutation}
use Rattle.std.specs.List.{list_any, AllByRecursion, AllAdjacentBelow}
use Rattle.std.specs.Ordering.{nat_cmp}
use Rattle.std.specs.Cmp.Lexicographic.{slice_cmp}
use Rattle.std.specs.declared.cmp.Ordering.TheVariants.{Less}
use Rattle.std.specs.Str.{bytes_eq}
use Rattle.std.proofs.lemmas.Bool.{eqb-true, eq-eqb}
use Rattle.std.proofs.lemmas.List.Elements.{All-from_recursion, recursion_from_All}
use Rattle.std.proofs.lemmas.List.Sorted.{All-permutation, IsPermutation-map, list_any-IsPermutation}
use Rattle.cost_rows.proofs.NamingLemmas.{same_bytes}
use Rattle.sha2.specs.Sha256.{sha256}
use Rattle.plain_tables.specs.Tables.{Tables, GroupRow, MemberRow}
use Rattle.plain_tables.specs.Changes as changes
use Rattle.run_stores.specs.BookEntries.{HeldRun, held_run}
use Rattle.profile_records.specs.Kinds.{kind_number}
use Rattle.profile_records.specs.declared.kinds.Kind.{Kind}
use Rattle.profile_records.specs.declared.kinds.Kind.TheVariants.{Callgrind, Folded}
use Rattle.histories.specs.Formats.{kind_in}
use Rattle.histories.specs.History.{History, File, held, groups, members, is_member, baseline}
use Rattle.histories.specs.Legal.{IsHistory, has_run}
use Rattle.histories.specs.Representation.{TablesRepresent, file_run}
use Rattle.histories.specs.Texts.{rising, group_line, groups_text, run_line, run_text, runs_text}
use Rattle.histories.proofs.Invariants.{IsBefore, members_held, numbered, groups_named}
use Rattle.histories.proofs.Lists.{Before, before_trans, before_irreflexive, any_rising, up_rising, pairs_of, pairs_map, same_rising}
use Rattle.histories.proofs.Tells.{tells_runs}
use Rattle.histories.proofs.Tests.{Pairs, pairs_filter, any-filter, bytes-self}

-- ---- entries, each with the number, the kind, the digest and the label of a run

same_kind : (a b : Kind) → kind_number a ≡ kind_number b → a ≡ b
same_kind Callgrind Callgrind same = refl
same_kind Callgrind Folded same = absurd (omega (arith, same))
same_kind Folded Callgrind same = absurd (omega (arith, same))
same_kind Folded Folded same = refl

module _ {E : Type 0} (number : E → ℕ) (kind : E → Kind) (digest : E → List ℕ) (label : E → List ℕ) where
  abbrev run : E → HeldRun
  run e = record { number = number e; kind = kind_number (kind e); digest = digest e; label = label e }

  run_lines : (es : List E) (files : List File) → map run es ≡ map file_run files → flat_map run_line files ≡ flat_map (λ e. run_text (number e) (kind e) (digest e) (label e)) es
  run_lines [] [] same = refl
  run_lines [] (f ∷ files) same = absurd cc
  run_lines (e ∷ es) [] same = absurd cc
  run_lines (e ∷ es) (f ∷ files) same =
      let first : run e ≡ file_run f = cc in
      let later : map run es ≡ map file_run files = cc in
      ap₂ ◌++◌
      (ap₂ (λ n k. run_text n k (sha256 f.bytes) f.label) (sym (ap (λ (r : HeldRun). r.number) first)) (sym (same_kind (kind e) (kind_in f.format) (ap (λ (r : HeldRun). r.kind) first)))
      ∙ ap₂ (λ d l. run_text (number e) (kind e) d l) (sym (ap (λ (r : HeldRun). r.digest) first)) (sym (ap (λ (r : HeldRun). r.label) first)))
      (run_lines es files later)

  -- the text of the list of runs is that of the entries
  pub tells_runs_text : (h : History) (t : Tables) (entries : List E) → TablesRepresent h t → map (λ e. let r : HeldRun = record { number = number e; kind = kind_number (kind e); digest = digest e; label = label e } in r) entries ≡ map held_run t.runs
      → runs_text h ≡ flat_map (λ e. run_text (number e) (kind e) (digest e) (label e)) entries
  tells_runs_text h t entries represent told = run_lines entries (held h) (told ∙ tells_runs h t represent)

-- ---- the members of a group rise, and are those that joined it

abbrev IsLess : ℕ → ℕ → Type 0
IsLess m n = m < n

less_trans : (a b c : ℕ) → a < b → b < c → a < c
less_trans a b c low high = omega arith

less_irreflexive : (a : ℕ) → a < a → ⊥
less_irreflexive a low = omega arith

number_self : (a : ℕ) → eqb a a ≡ true
number_self a = eq-eqb a a refl

any_number : (n : ℕ) (files : List File) → list_any (λ k. k == n) (map (λ (f : File). f.number) files) ≡ list_any (λ (f : File). f.number == n) files
any_number n [] = refl
any_number n (f ∷ files) = ap (λ b. (f.number == n) || b) (any_number n files)

pub members_up : (h : History) → IsHistory h → (name : List ℕ) → Pairs IsLess (members h name)
members_up h is name =
    pairs_filter IsLess (is_member h name) (map (λ (f : File). f.number) (held h)) (pairs_map IsBefore IsLess (λ (f : File). f.number) (held h) (λ f g low. low) (numbered h is).rising)

pub members_are : (h : History) → IsHistory h → (name : List ℕ) (n : ℕ) → list_any (λ k. k == n) (members h name) ≡ is_member h name n
members_are h is name n =
    any-filter (λ k. k == n) (is_member h name) (is_member h name n) (map (λ (f : File). f.number) (held h)) (λ k same. ap (is_member h name) (eqb-true k n same))
    ∙ ap (λ b. b && is_member h name n) (any_number n (held h)) ∙ go (is_member h name n) refl
  where
    kept : (b : Bool) → b ≡ true → b && true ≡ true
    kept true e = refl
    kept false e = e

    none : (b : Bool) → b && false ≡ false
    none true = refl
    none false = refl

    go : (b : Bool) → is_member h name n ≡ b → has_run h n && b ≡ b
    go true e = kept (has_run h n) (members_held h is name n e).1
    go false e = none (has_run h n)

-- ---- entries, each with the name, the baseline and the members of a group

module _ {E : Type 0} (name : E → List ℕ) (base : E → Option ℕ) (numbers : E → List ℕ) where
  abbrev line : E → GroupRow
  line e = record { name = name e; baseline = base e }

  abbrev in_group : E → ℕ → MemberRow
  in_group e n = record { group = name e; run = n }

  module _ (h : History) (t : Tables) (entries : List E) (represent : TablesRepresent h t) where
    names_of : (es : List E) → map (λ (g : GroupRow). g.name) (map line es) ≡ map name es
    names_of [] = refl
    names_of (e ∷ es) = ap (λ l. name e ∷ l) (names_of es)

    -- the names rise
    pub tells_rising : IsPermutation t.groups (map line entries) → AllAdjacentBelow (λ a b. slice_cmp nat_cmp (name a) (name b) ≡ Less) entries (length entries) → rising (groups h) ≡ map name entries
    tells_rising lines up =
        let names : IsPermutation (groups h) (map name entries) =
        subst (λ l. IsPermutation (groups h) l) (names_of entries)
        (subst (λ l. IsPermutation l (map (λ (g : GroupRow). g.name) (map line entries))) represent.groups (IsPermutation-map (λ (g : GroupRow). g.name) t.groups (map line entries) lines)) in
        let pairs = pairs_of (λ a b. Before (name a) (name b)) (λ a b c. before_trans (name a) (name b) (name c)) entries up in
        same_rising bytes_eq same_bytes Before bytes-self before_irreflexive before_trans (rising (groups h)) (map name entries) (up_rising (groups h) (groups_named h represent.legal).apart)
        (pairs_map (λ a b. Before (name a) (name b)) Before name entries (λ a b before. before) pairs)
        (λ k. any_rising (λ j. bytes_eq j k) (groups h) ∙ list_any-IsPermutation (λ j. bytes_eq j k) (groups h) (map name entries) names)

    baselines_of : (es : List E) → AllByRecursion (λ (g : GroupRow). g.baseline ≡ baseline h g.name) (map line es) → AllByRecursion (λ e. base e ≡ baseline h (name e)) es
    baselines_of [] all = tt
    baselines_of (e ∷ es) all = (all.0, baselines_of es all.1)

    pub tells_baselines : IsPermutation t.groups (map line entries) → AllByRecursion (λ e. base e ≡ baseline h (name e)) entries
    tells_baselines lines =
        baselines_of entries
        (recursion_from_All (λ (g : GroupRow). g.baseline ≡ baseline h g.name) (map line entries)
        (All-permutation (λ (g : GroupRow). g.baseline ≡ baseline h g.name) t.groups (map line entries) lines (All-from_recursion (λ (g : GroupRow). g.baseline ≡ baseline h g.name) t.groups represent.baselines)))

    any_in_group : (e : E) (n : ℕ) (runs : List ℕ) → list_any (λ (m : MemberRow). m.run == n) (map (in_group e) runs) ≡ list_any (λ k. k == n) runs
    any_in_group e n [] = refl
    any_in_group e n (k ∷ runs) = ap (λ b. (k == n) || b) (any_in_group e n runs)

    any_two : (group : List ℕ) (n : ℕ) (lines : List MemberRow) → list_any (λ (m : MemberRow). m.run == n) (filter (λ (m : MemberRow). bytes_eq m.group group) lines) ≡ list_any (changes.is_member group n) lines
    any_two group n [] = refl
    any_two group n (m ∷ lines) = go (bytes_eq m.group group) (any_two group n lines)
      where
        go : (b : Bool) → list_any (λ (m : MemberRow). m.run == n) (filter (λ (m : MemberRow). bytes_eq m.group group) lines) ≡ list_any (changes.is_member group n) lines
            → list_any (λ (m : MemberRow). m.run == n) (cond b (m ∷ filter (λ (m : MemberRow). bytes_eq m.group group) lines) (filter (λ (m : MemberRow). bytes_eq m.group group) lines))
            ≡ (b && (m.run == n)) || list_any (changes.is_member group n) lines
        go true rest = ap (λ b. (m.run == n) || b) rest
        go false rest = rest

    -- the members of an entry are those of its group
    pub tells_members : (e : E) → IsPermutation (filter (λ (m : MemberRow). bytes_eq m.group (name e)) t.members) (map (in_group e) (numbers e)) → AllAdjacentBelow (λ a b. a < b) (numbers e) (length (numbers e)) → members h (name e) ≡ numbers e
    tells_members e lines up =
        same_rising eqb eqb-true IsLess number_self less_irreflexive less_trans (members h (name e)) (numbers e) (members_up h represent.legal (name e)) (pairs_of IsLess less_trans (numbers e) up)
        (λ n.
        members_are h represent.legal (name e) n ∙ sym (represent.members (name e) n) ∙ sym (any_two (name e) n t.members)
        ∙ list_any-IsPermutation (λ (m : MemberRow). m.run == n) (filter (λ (m : MemberRow). bytes_eq m.group (name e)) t.members) (map (in_group e) (numbers e)) lines ∙ any_in_group e n (numbers e))

    lines_of : (es : List E) → AllByRecursion (λ e. base e ≡ baseline h (name e)) es
        → AllByRecursion (λ e. IsPermutation (filter (λ (m : MemberRow). bytes_eq m.group (name e)) t.members) (map (in_group e) (numbers e))) es
        → ((e : E) → AllAdjacentBelow (λ a b. a < b) (numbers e) (length (numbers e)))
        → flat_map (λ name. group_line name (baseline h name) (members h name)) (map name es) ≡ flat_map (λ e. group_line (name e) (base e) (numbers e)) es
    lines_of [] bases lines up = refl
    lines_of (e ∷ es) bases lines up =
        ap₂ ◌++◌ (ap₂ (λ b l. group_line (name e) b l) (sym bases.0) (tells_members e lines.0 (up e))) (lines_of es bases.1 lines.1 up)

    -- and the text of the list of groups is that of the entries
    pub tells_groups_text : IsPermutation t.groups (map line entries) → AllAdjacentBelow (λ a b. slice_cmp nat_cmp (name a) (name b) ≡ Less) entries (length entries)
        → AllByRecursion (λ e. IsPermutation (filter (λ (m : MemberRow). bytes_eq m.group (name e)) t.members) (map (in_group e) (numbers e))) entries
        → ((e : E) → AllAdjacentBelow (λ a b. a < b) (numbers e) (length (numbers e)))
        → groups_text h ≡ flat_map (λ e. group_line (name e) (base e) (numbers e)) entries
    tells_groups_text lines up in_groups rise =
        ap (flat_map (λ name. group_line name (baseline h name) (members h name))) (tells_rising lines up) ∙ lines_of entries (tells_baselines lines) in_groups rise
