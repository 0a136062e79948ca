-- What holds of every history: numbers rise, digests and names stand apart, and members and baselines are held.
use Rattle.std.proofs.Common.{◌≡◌, ℕ, ◌<◌, ◌≤◌, ◌+◌, Bool, true, false, not, ◌&&◌, ◌||◌, ◌==◌, if◌then◌else◌, List, [], ◌∷◌, ◌++◌, filter, Option, Some, None, refl, sym, ap, subst, ◌∙◌, inl, inr, ◌⊎◌, arith, append-nil}
use Rattle.std.specs.List.{list_any, AllByRecursion}
use Rattle.std.specs.Str.{bytes_eq}
use Rattle.std.proofs.lemmas.Bool.{eqb-true, and_parts, or_parts, or_cases, not-true}
use Rattle.sha2.specs.Sha256.{sha256}
use Rattle.cost_rows.proofs.NamingLemmas.{same_bytes}
use Rattle.plain_tables.specs.Labels.{IsGroupName}
use Rattle.byte_io.specs.Outcomes.{bytes_of}
use Rattle.histories.specs.History.{Command, Import, Remove, MakeGroup, DropGroup, Join, SetBaseline, Step, History, File, held, next, groups, removes, drops, joins, parts, is_member, based_by, unbases, baseline}
use Rattle.histories.specs.Legal.{AreThere, IsLegal, IsHistory, number_of, has_run, has_group}
use Rattle.histories.specs.declared.answers.Answer.{Answer}
use Rattle.histories.specs.declared.answers.Answer.TheVariants.{Run, Done}
use Rattle.histories.specs.declared.limits.Limits.{Limits}
use Rattle.histories.proofs.Baselines.{baseline_more, left_by, set_or}
use Rattle.histories.proofs.Expected.{run_legal, made_legal, joined_legal, based_legal}
use Rattle.histories.proofs.Groups as groups
use Rattle.histories.proofs.Groups.{groups_more, made}
use Rattle.histories.proofs.Held as held
use Rattle.histories.proofs.Held.{held_more, taken, next_more, growth}
use Rattle.histories.proofs.Members.{member_more}
use Rattle.histories.proofs.Tests.{any-append, any-filter, all_filter, all_push, all_on, Pairs, pairs_filter, pairs_push}
use Rattle.histories.proofs.StepsTo.{by_steps}

-- ---- numbers rise, and are below the next

abbrev pub IsBefore : File → File → Type 0
IsBefore f g = f.number < g.number

abbrev pub AreBelow : ℕ → List File → Type 0
AreBelow n files = AllByRecursion (λ (f : File). f.number < n) files

pub record AreNumbered (h : History) : Type 0 where
  pub below : AreBelow (next h) (held h)
  pub rising : Pairs IsBefore (held h)

-- a step imports no file, or one under the next number whose digest no file has
pub record IsNew (h : History) (answer : Answer) (f : File) : Type 0 where
  pub number : f.number ≡ next h
  pub digest : number_of (sha256 f.bytes) (held h) ≡ None
  pub counts : growth answer ≡ 1

pub taken_is : (limits : Limits) (h : History) (command : Command) (answer : Answer) → IsLegal limits h command answer → (taken command answer ≡ []) ⊎ ((f : File) × (taken command answer ≡ f ∷ []) × IsNew h answer f)
taken_is limits h (Import format label outcomes) (Run n) legal =
    let two = run_legal limits h format label outcomes n legal in
    inr (record { number = n; format = format; label = label; bytes = bytes_of outcomes }, refl, record { number = two.0; digest = two.1; counts = refl })
taken_is limits h (Import format label outcomes) answer legal = inl refl
taken_is limits h command answer legal = inl refl

below_later : (m n : ℕ) (files : List File) → m ≤ n → AreBelow m files → AreBelow n files
below_later m n files up all = all_on (λ (f : File). f.number < m) (λ (f : File). f.number < n) files (λ f low. omega arith) all

numbered_step : (limits : Limits) (h : History) (step : Step) → IsHistory h → AreNumbered h → IsLegal limits h step.command step.answer → AreNumbered (h ++ step ∷ [])
numbered_step limits h step is was legal = elim (taken_is limits h step.command step.answer legal) [
  | inl none ↦
      let files : held (h ++ step ∷ []) ≡ left = held_more h step ∙ ap (λ l. left ++ l) none ∙ append-nil left in
      record {
        below = subst (AreBelow (next (h ++ step ∷ []))) (sym files) (below_later (next h) (next (h ++ step ∷ [])) left (omega (arith, next_more h step)) below);
        rising = subst (Pairs IsBefore) (sym files) rising;
      }
  | inr one ↦
      let f : File = one.0 in
      let files : held (h ++ step ∷ []) ≡ left ++ f ∷ [] = held_more h step ∙ ap (λ l. left ++ l) one.1 in
      let counts : growth step.answer ≡ 1 = one.2.counts in
      let number : f.number ≡ next h = one.2.number in
      let up : next (h ++ step ∷ []) ≡ next h + growth step.answer = next_more h step in
      record {
        below =
            subst (AreBelow (next (h ++ step ∷ []))) (sym files)
            (all_push (λ (g : File). g.number < next (h ++ step ∷ [])) left (f ∷ []) (below_later (next h) (next (h ++ step ∷ [])) left (omega arith) below) (omega arith, tt));
        rising =
            subst (Pairs IsBefore) (sym files)
            (pairs_push IsBefore left f rising (all_on (λ (g : File). g.number < next h) (λ g. IsBefore g f) left (λ g low. omega arith) below));
      }
]
  where
    left : List File
    left = filter (held.stays step.command step.answer) (held h)

    below : AreBelow (next h) (filter (held.stays step.command step.answer) (held h))
    below = all_filter (λ (f : File). f.number < next h) (held.stays step.command step.answer) (held h) was.below

    rising : Pairs IsBefore (filter (held.stays step.command step.answer) (held h))
    rising = pairs_filter IsBefore (held.stays step.command step.answer) (held h) was.rising

pub numbered : (h : History) → IsHistory h → AreNumbered h
numbered h is = by_steps AreNumbered (record { below = tt; rising = tt }) numbered_step h is

-- ---- no two files that are held have one digest

abbrev pub OtherDigest : File → File → Type 0
OtherDigest f g = bytes_eq (sha256 f.bytes) (sha256 g.bytes) ≡ false

pub none_has : (digest : List ℕ) (files : List File) → number_of digest files ≡ None → AllByRecursion (λ (f : File). bytes_eq (sha256 f.bytes) digest ≡ false) files
none_has digest [] none = tt
none_has digest (f ∷ files) none = let two = go (bytes_eq (sha256 f.bytes) digest) refl none in (two.0, none_has digest files two.1)
  where
    go : (b : Bool) → bytes_eq (sha256 f.bytes) digest ≡ b → (if b then Some f.number else number_of digest files) ≡ None → (bytes_eq (sha256 f.bytes) digest ≡ false) × (number_of digest files ≡ None)
    go true same e = absurd cc
    go false same e = (same, e)

digests_step : (limits : Limits) (h : History) (step : Step) → IsHistory h → Pairs OtherDigest (held h) → IsLegal limits h step.command step.answer → Pairs OtherDigest (held (h ++ step ∷ []))
digests_step limits h step is was legal = elim (taken_is limits h step.command step.answer legal) [
  | inl none ↦ subst (Pairs OtherDigest) (sym (held_more h step ∙ ap (λ l. left ++ l) none ∙ append-nil left)) apart
  | inr one ↦
      let f : File = one.0 in
      let files : held (h ++ step ∷ []) ≡ left ++ f ∷ [] = held_more h step ∙ ap (λ l. left ++ l) one.1 in
      let others = all_filter (λ (g : File). bytes_eq (sha256 g.bytes) (sha256 f.bytes) ≡ false) (held.stays step.command step.answer) (held h) (none_has (sha256 f.bytes) (held h) one.2.digest) in
      subst (Pairs OtherDigest) (sym files) (pairs_push OtherDigest left f apart others)
]
  where
    left : List File
    left = filter (held.stays step.command step.answer) (held h)

    apart : Pairs OtherDigest (filter (held.stays step.command step.answer) (held h))
    apart = pairs_filter OtherDigest (held.stays step.command step.answer) (held h) was

pub digests_apart : (h : History) → IsHistory h → Pairs OtherDigest (held h)
digests_apart h is = by_steps (λ h. Pairs OtherDigest (held h)) tt digests_step h is

-- ---- groups are in form, and no name stands twice

abbrev pub OtherName : List ℕ → List ℕ → Type 0
OtherName a b = bytes_eq a b ≡ false

pub record AreGroups (names : List (List ℕ)) : Type 0 where
  pub form : AllByRecursion IsGroupName names
  pub apart : Pairs OtherName names

made_is : (limits : Limits) (h : History) (command : Command) (answer : Answer) → IsLegal limits h command answer → (made command answer ≡ []) ⊎ ((name : List ℕ) × (made command answer ≡ name ∷ []) × IsGroupName name × (has_group h name ≡ false))
made_is limits h (MakeGroup name) Done legal = let two = made_legal limits h name legal in inr (name, refl, two.0, two.1)
made_is limits h (MakeGroup name) answer legal = inl refl
made_is limits h command answer legal = inl refl

none_named : (name : List ℕ) (names : List (List ℕ)) → list_any (λ other. bytes_eq other name) names ≡ false → AllByRecursion (λ other. OtherName other name) names
none_named name [] none = tt
none_named name (other ∷ names) none = let two = or_parts (bytes_eq other name) (list_any (λ other. bytes_eq other name) names) none in (two.0, none_named name names two.1)

groups_step : (limits : Limits) (h : History) (step : Step) → IsHistory h → AreGroups (groups h) → IsLegal limits h step.command step.answer → AreGroups (groups (h ++ step ∷ []))
groups_step limits h step is was legal = elim (made_is limits h step.command step.answer legal) [
  | inl none ↦ subst AreGroups (sym (groups_more h step ∙ ap (λ l. left ++ l) none ∙ append-nil left)) (record { form = form; apart = apart })
  | inr one ↦
      let name : List ℕ = one.0 in
      let names : groups (h ++ step ∷ []) ≡ left ++ name ∷ [] = groups_more h step ∙ ap (λ l. left ++ l) one.1 in
      let others = all_filter (λ other. OtherName other name) (groups.stays step.command step.answer) (groups h) (none_named name (groups h) one.3) in
      subst AreGroups (sym names) (record { form = all_push IsGroupName left (name ∷ []) form (one.2, tt); apart = pairs_push OtherName left name apart others })
]
  where
    left : List (List ℕ)
    left = filter (groups.stays step.command step.answer) (groups h)

    form : AllByRecursion IsGroupName (filter (groups.stays step.command step.answer) (groups h))
    form = all_filter IsGroupName (groups.stays step.command step.answer) (groups h) was.form

    apart : Pairs OtherName (filter (groups.stays step.command step.answer) (groups h))
    apart = pairs_filter OtherName (groups.stays step.command step.answer) (groups h) was.apart

pub groups_named : (h : History) → IsHistory h → AreGroups (groups h)
groups_named h is = by_steps (λ h. AreGroups (groups h)) (record { form = tt; apart = tt }) groups_step h is

-- ---- a run and a group after one step more

pub run_more : (h : History) (step : Step) (n : ℕ) → has_run (h ++ step ∷ []) n ≡ (has_run h n && not (removes n step.command step.answer)) || list_any (λ (f : File). f.number == n) (taken step.command step.answer)
run_more h step n =
    ap (list_any (λ (f : File). f.number == n)) (held_more h step)
    ∙ any-append (λ (f : File). f.number == n) (filter (held.stays step.command step.answer) (held h)) (taken step.command step.answer)
    ∙ ap (λ b. b || list_any (λ (f : File). f.number == n) (taken step.command step.answer))
    (any-filter (λ (f : File). f.number == n) (held.stays step.command step.answer) (not (removes n step.command step.answer)) (held h) (λ f same. ap (λ m. not (removes m step.command step.answer)) (eqb-true f.number n same)))

pub group_more : (h : History) (step : Step) (name : List ℕ) → has_group (h ++ step ∷ []) name ≡ (has_group h name && not (drops name step.command step.answer)) || list_any (λ other. bytes_eq other name) (made step.command step.answer)
group_more h step name =
    ap (list_any (λ other. bytes_eq other name)) (groups_more h step)
    ∙ any-append (λ other. bytes_eq other name) (filter (groups.stays step.command step.answer) (groups h)) (made step.command step.answer)
    ∙ ap (λ b. b || list_any (λ other. bytes_eq other name) (made step.command step.answer))
    (any-filter (λ other. bytes_eq other name) (groups.stays step.command step.answer) (not (drops name step.command step.answer)) (groups h) (λ other same. ap (λ o. not (drops o step.command step.answer)) (same_bytes other name same)))

-- ---- members and baselines are of groups and runs that are held

stay : (a b c : Bool) → a ≡ true → b ≡ false → (a && not b) || c ≡ true
stay true false c is left = refl
stay true true c is left = absurd cc
stay false b c is left = absurd cc

held_stays : (h : History) (step : Step) (name : List ℕ) (n : ℕ) → AreThere h name n → drops name step.command step.answer ≡ false → removes n step.command step.answer ≡ false → AreThere (h ++ step ∷ []) name n
held_stays h step name n was group run = (
  group_more h step name ∙ stay (has_group h name) (drops name step.command step.answer) (list_any (λ other. bytes_eq other name) (made step.command step.answer)) was.0 group,
  run_more h step n ∙ stay (has_run h n) (removes n step.command step.answer) (list_any (λ (f : File). f.number == n) (taken step.command step.answer)) was.1 run,
)

parts_both : (name : List ℕ) (n : ℕ) (command : Command) (answer : Answer) → parts name n command answer ≡ false → (drops name command answer ≡ false) × (removes n command answer ≡ false)
parts_both name n (Remove m) Done is = (refl, is)
parts_both name n (Remove m) answer is = (refl, refl)
parts_both name n (DropGroup other) Done is = (is, refl)
parts_both name n (DropGroup other) answer is = (refl, refl)
parts_both name n command answer is = (refl, refl)

joins_both : (limits : Limits) (h : History) (name : List ℕ) (n : ℕ) (command : Command) (answer : Answer) → IsLegal limits h command answer → joins name n command answer ≡ true
    → AreThere h name n × (drops name command answer ≡ false) × (removes n command answer ≡ false)
joins_both limits h name n (Join other m) Done legal is =
    let same = and_parts (bytes_eq other name) (m == n) is in
    let held = joined_legal limits h other m legal in
    ((ap (has_group h) (sym (same_bytes other name same.0)) ∙ held.0, ap (has_run h) (sym (eqb-true m n same.1)) ∙ held.1), refl, refl)
joins_both limits h name n command answer legal is = absurd cc

pub members_held : (h : History) → IsHistory h → (name : List ℕ) (n : ℕ) → is_member h name n ≡ true → AreThere h name n
members_held h is name n =
    by_steps (λ h. is_member h name n ≡ true → AreThere h name n) (λ none. absurd cc)
    (λ limits h step is was legal member.
    elim (or_cases (is_member h name n && not (parts name n step.command step.answer)) (joins name n step.command step.answer) (sym (member_more h step name n) ∙ member)) [
      | inl stays ↦
          let two = and_parts (is_member h name n) (not (parts name n step.command step.answer)) stays in
          let left = parts_both name n step.command step.answer (not-true (parts name n step.command step.answer) two.1) in
          held_stays h step name n (was two.0) left.0 left.1
      | inr new ↦ let two = joins_both limits h name n step.command step.answer legal new in held_stays h step name n two.0 two.1 two.2
    ])
    h is

unbases_both : (name : List ℕ) (n : ℕ) (command : Command) (answer : Answer) → unbases name n command answer ≡ false → (drops name command answer ≡ false) × (removes n command answer ≡ false)
unbases_both name n (Remove m) Done is = (refl, is)
unbases_both name n (Remove m) answer is = (refl, refl)
unbases_both name n (DropGroup other) Done is = (is, refl)
unbases_both name n (DropGroup other) answer is = (refl, refl)
unbases_both name n command answer is = (refl, refl)

based_both : (limits : Limits) (h : History) (name : List ℕ) (n : ℕ) (command : Command) (answer : Answer) → IsLegal limits h command answer → based_by name command answer ≡ Some n
    → AreThere h name n × (drops name command answer ≡ false) × (removes n command answer ≡ false)
based_both limits h name n (SetBaseline other m) Done legal is = go (bytes_eq other name) refl is
  where
    go : (b : Bool) → bytes_eq other name ≡ b → (if b then Some m else None) ≡ Some n → AreThere h name n × (false ≡ false) × (false ≡ false)
    go true same e =
        let held = based_legal limits h other m legal in
        let number : n ≡ m = cc in
        ((ap (has_group h) (sym (same_bytes other name same)) ∙ held.0, ap (has_run h) number ∙ held.1), refl, refl)
    go false same e = absurd cc
based_both limits h name n command answer legal is = absurd cc

left_is : (name : List ℕ) (n : ℕ) (command : Command) (answer : Answer) (old : Option ℕ) → left_by name command answer old ≡ Some n → (old ≡ Some n) × (unbases name n command answer ≡ false)
left_is name n command answer None is = absurd cc
left_is name n command answer (Some m) is = go (unbases name m command answer) refl is
  where
    go : (b : Bool) → unbases name m command answer ≡ b → (if b then None else Some m) ≡ Some n → (Some m ≡ Some n) × (unbases name n command answer ≡ false)
    go true same e = absurd cc
    go false same e = let number : n ≡ m = cc in (e, ap (λ k. unbases name k command answer) number ∙ same)

pub baseline_held : (h : History) → IsHistory h → (name : List ℕ) (n : ℕ) → baseline h name ≡ Some n → AreThere h name n
baseline_held h is name n =
    by_steps (λ h. baseline h name ≡ Some n → AreThere h name n) (λ none. absurd cc) one h is
  where
    one : (limits : Limits) (h : History) (step : Step) → IsHistory h → (baseline h name ≡ Some n → AreThere h name n) → IsLegal limits h step.command step.answer → baseline (h ++ step ∷ []) name ≡ Some n → AreThere (h ++ step ∷ []) name n
    one limits h step is was legal now = go (based_by name step.command step.answer) refl (sym (baseline_more h step name) ∙ now)
      where
        go : (o : Option ℕ) → based_by name step.command step.answer ≡ o → set_or o (left_by name step.command step.answer (baseline h name)) ≡ Some n → AreThere (h ++ step ∷ []) name n
        go None set e =
            let old = left_is name n step.command step.answer (baseline h name) e in
            let left = unbases_both name n step.command step.answer old.1 in
            held_stays h step name n (was old.0) left.0 left.1
        go (Some m) set e = let two = based_both limits h name n step.command step.answer legal (set ∙ e) in held_stays h step name n two.0 two.1 two.2

-- a group that is not there has no baseline
pub no_baseline : (h : History) → IsHistory h → (name : List ℕ) → has_group h name ≡ false → baseline h name ≡ None
no_baseline h is name none = go (baseline h name) refl
  where
    go : (o : Option ℕ) → baseline h name ≡ o → o ≡ None
    go None e = refl
    go (Some n) e = absurd (let there = baseline_held h is name n e in let t : has_group h name ≡ true = there.0 in cc)
